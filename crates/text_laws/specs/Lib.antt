-- From a text to its job or to a refusal: what the reader gives, for every text.
pub mod Kinds
pub mod Laws
