pub mod Kinds
pub mod Fitted
pub mod Walks
pub mod Laws
