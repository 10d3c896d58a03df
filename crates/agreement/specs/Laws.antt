-- What is proved of the definitions: nothing here has to be believed.
pub mod Table
pub mod Agreement
pub mod Wrong
