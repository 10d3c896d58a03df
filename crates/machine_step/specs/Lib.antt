pub mod Kinds
pub mod Step
