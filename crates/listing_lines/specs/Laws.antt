-- What is proved of the definitions: nothing here has to be believed.
pub mod Lines
pub mod Padded
