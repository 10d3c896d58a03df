-- What is proved of the definitions: nothing here has to be believed.
pub mod Cells
pub mod Sized
pub mod Every
