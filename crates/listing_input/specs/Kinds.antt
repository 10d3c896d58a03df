-- Every kind that this crate speaks of, its own and those of the crates below.
pub use Rattle.text_words.specs.declared.Word.{Word}
pub use Rattle.listing_input.specs.declared.Split.{Split}
pub use Rattle.listing_input.specs.declared.Pair.{Pair}
