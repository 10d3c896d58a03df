-- Every kind that this crate speaks of, of the crates below.
pub use Rattle.meaning.specs.declared.Row.{Row}
pub use Rattle.meaning.specs.declared.Op.{Op}
pub use Rattle.meaning.specs.declared.Op.TheVariants.{Send, Forward, Recv}
pub use Rattle.meaning.specs.declared.Statement.TheVariants.{Select}
pub use Rattle.meaning.specs.declared.Fields.{Fields}
