-- What is proved of the definitions: nothing here has to be believed.
pub mod Lists
pub mod Natural
pub mod Runs
pub mod Outcome
pub mod Steady
pub mod Fits
pub mod Spare
pub mod WhoWaits
pub mod Never
pub mod Points
pub mod Calm
