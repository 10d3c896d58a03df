-- What the proofs of several functions use.
pub mod Fronts
pub mod Keys
pub mod Decimals
pub mod Firsts
