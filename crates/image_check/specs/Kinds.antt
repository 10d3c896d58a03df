-- Every kind that this crate speaks of, its own and those of the crates below.
pub use Rattle.meaning.specs.declared.Task.{Task}
pub use Rattle.meaning.specs.declared.Chan.{Chan}
pub use Rattle.meaning.specs.declared.Row.{Row}
pub use Rattle.meaning.specs.declared.Port.{Port}
pub use Rattle.meaning.specs.declared.Port.TheVariants.{Nil, On}
pub use Rattle.meaning.specs.declared.Op.{Op}
pub use Rattle.meaning.specs.declared.Op.TheVariants.{Send, Forward, Recv}
pub use Rattle.meaning.specs.declared.Otherwise.{Otherwise}
pub use Rattle.meaning.specs.declared.Otherwise.TheVariants.{Wait, Go}
pub use Rattle.meaning.specs.declared.Statement.{Statement}
pub use Rattle.meaning.specs.declared.Statement.TheVariants.{Do, Close, Range, Repeat, Ifok, Select, Case, Stop}
pub use Rattle.meaning.specs.declared.Fields.{Fields}
pub use Rattle.image_rows.specs.declared.Counts.{Counts}
pub use Rattle.image_check.specs.declared.ImageFault.{ImageFault}
pub use Rattle.image_check.specs.declared.ImageFault.TheVariants.{TooShort, BadMark, BadVersion, BadCounts, BadDistance, BadRow, BadCapacity, BadFirstRow}
