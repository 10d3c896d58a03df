pub mod Kinds
pub mod Bench
pub mod Translation
pub mod Laws
