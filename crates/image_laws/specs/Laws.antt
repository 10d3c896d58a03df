-- What is proved of the definitions: nothing here has to be believed. More stands in proofs/.
pub mod Limits
pub mod Closed
pub mod Whole
