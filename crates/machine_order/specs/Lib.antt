pub mod Kinds
pub mod laws
