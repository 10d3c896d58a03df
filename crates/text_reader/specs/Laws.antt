-- What is proved of the definitions: nothing here has to be believed.
pub mod Answered
pub mod Bodies
pub mod Heads
pub mod Jobs
pub mod Many
pub mod Parts
pub mod Selects
pub mod Sizes
pub mod Examples
