-- What is proved of the definitions: nothing here has to be believed.
pub mod Start
pub mod Meant
pub mod Told
pub mod Reached
pub mod Examples
