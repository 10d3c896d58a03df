-- Every kind that this crate speaks of, its own and those of the crates below.
pub use Rattle.meaning.specs.declared.Row.{Row}
pub use Rattle.meaning.specs.declared.Statement.{Statement}
pub use Rattle.text_words.specs.declared.Word.{Word}
pub use Rattle.text_reader.specs.declared.Refused.{Refused}
pub use Rattle.text_reader.specs.declared.Got.{Got}
pub use Rattle.text_reader.specs.declared.JobSize.{JobSize}
pub use Rattle.translate_rows.specs.declared.Passed.{Passed}
pub use Rattle.translate.specs.declared.NoImage.{NoImage}
