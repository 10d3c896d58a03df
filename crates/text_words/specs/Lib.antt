pub mod Kinds
pub mod Words
pub mod Scan
pub mod Laws
