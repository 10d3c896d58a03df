-- What is proved of the definitions: nothing here has to be believed.
pub mod Kept
pub mod Walk
pub mod Accepted
pub mod Decided
pub mod Places
pub mod Steps
