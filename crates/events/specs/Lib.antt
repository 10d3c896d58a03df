pub mod Kinds
pub mod Record
pub mod Laws
