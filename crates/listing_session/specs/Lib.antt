pub mod Kinds
pub mod Session
pub mod Listing
pub mod Laws
