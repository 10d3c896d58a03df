pub mod Kinds
pub mod Served
pub mod Laws
