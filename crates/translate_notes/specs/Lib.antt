pub mod Kinds
pub mod Notes
pub mod Laws
