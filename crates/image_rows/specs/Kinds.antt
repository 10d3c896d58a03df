-- Every kind that this crate speaks of, its own and those of the crates below.
pub use Rattle.meaning.specs.declared.Row.{Row}
pub use Rattle.meaning.specs.declared.Statement.{Statement}
pub use Rattle.meaning.specs.declared.Statement.TheVariants.{Stop}
pub use Rattle.meaning.specs.declared.Fields.{Fields}
pub use Rattle.image_rows.specs.declared.Counts.{Counts}
