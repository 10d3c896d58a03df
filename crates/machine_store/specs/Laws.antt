-- What is proved of the definitions: nothing here has to be believed.
pub mod Tables
pub mod Store
pub mod Again
