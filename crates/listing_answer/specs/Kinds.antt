-- Every kind that this crate speaks of, its own and those of the crates below.
pub use Rattle.translate.specs.Translated.{Translated}
pub use Rattle.translate.specs.Translated.{Image}
pub use Rattle.listing_answer.specs.declared.Run.{Run}
pub use Rattle.listing_answer.specs.declared.Unlisted.{Unlisted}
pub use Rattle.listing_answer.specs.declared.Unlisted.TheVariants.{TooLong, BadSchedule}
