pub mod Kinds
pub mod Input
pub mod Laws
