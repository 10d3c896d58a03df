-- Every kind that this crate speaks of, its own and those of the crates below.
pub use Rattle.text_words.specs.declared.Word.{Word}
pub use Rattle.text_words.specs.declared.Letters.{Letters}
pub use Rattle.text_words.specs.declared.numbers.Digits.{Digits}
