-- What a reader must believe, in the order in which it is read beside document 01.
pub mod Kinds
pub mod Numbers
pub mod Ops
pub mod Events
pub mod Statuses
pub mod Machine
pub mod Text
pub mod Image
pub mod Layout
pub mod Bytes
-- Laws that the crates above share; nothing to believe.
pub mod Laws
