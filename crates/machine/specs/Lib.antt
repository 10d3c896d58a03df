pub mod Kinds
pub mod Public
pub mod Runs
pub mod Laws
