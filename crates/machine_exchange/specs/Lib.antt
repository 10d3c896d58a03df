pub mod Kinds
pub mod Exchange
pub mod Laws
