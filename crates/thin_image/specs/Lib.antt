pub mod Kinds
pub mod Opened
