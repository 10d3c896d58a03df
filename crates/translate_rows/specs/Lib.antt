-- What the two passes leave, in the notes and in the buffer, and one lap of each of their walks.
pub mod Kinds
pub mod Noted
pub mod Passed
pub mod RowsPut
pub mod Stored
pub mod Laws
