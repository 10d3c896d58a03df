pub mod Kinds
pub mod Channels
pub mod Laws
