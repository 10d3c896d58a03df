-- What is proved of the definitions: nothing here has to be believed.
pub mod Fit
pub mod Capacities
pub mod Leaves
pub mod Who
pub mod Link
pub mod Stays
pub mod Fitted
pub mod Events
pub mod Meant
pub mod Start
