-- What the proof of the search uses.
pub mod Laws
