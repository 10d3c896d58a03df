-- What is proved of the definitions: nothing here has to be believed.
pub mod RowsPut
pub mod Laps
pub mod Notes
pub mod Noted
pub mod Tasks
pub mod Held
pub mod Laying
pub mod Jobs
pub mod Sections
pub mod Read
pub mod Passed
