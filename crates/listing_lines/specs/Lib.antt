pub mod Kinds
pub mod Line
pub mod Lines
pub mod Laws
