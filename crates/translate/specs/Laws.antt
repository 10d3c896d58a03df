-- What is proved of the definitions: nothing here has to be believed.
pub mod Answered
pub mod Channels
pub mod Firsts
pub mod Joined
pub mod Read
pub mod Reasons
pub mod Examples
