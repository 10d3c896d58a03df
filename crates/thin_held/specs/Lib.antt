pub mod Kinds
pub mod Asked
pub mod Laws
