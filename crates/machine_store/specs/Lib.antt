pub mod Kinds
pub mod Store
pub mod Laws
