pub mod Kinds
pub mod Check
pub mod Sound
pub mod Laws
