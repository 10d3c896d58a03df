pub mod Kinds
pub mod Row
pub mod Table
pub mod Laws
