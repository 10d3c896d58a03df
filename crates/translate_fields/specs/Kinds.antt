-- Every kind that this crate speaks of, those of the crates below.
pub use Rattle.meaning.specs.declared.Row.{Row}
pub use Rattle.meaning.specs.declared.Fields.{Fields}
