pub mod Kinds
pub mod Schedule
pub mod Loop
pub mod Told
pub mod Laws
