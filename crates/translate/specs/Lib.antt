pub mod Kinds
pub mod Translated
pub mod Stored
pub mod Laws
