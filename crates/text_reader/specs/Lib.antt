pub mod Kinds
pub mod Answers
pub mod Reading
pub mod Laws
