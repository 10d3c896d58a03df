-- Every kind that this crate speaks of, its own and those of the crates below.
pub use Rattle.meaning.specs.declared.Task.{Task}
pub use Rattle.meaning.specs.declared.Port.TheVariants.{Nil}
pub use Rattle.meaning.specs.declared.Event.{Event}
pub use Rattle.meaning.specs.declared.Event.TheVariants.{Appended, Refilled, Faulted, Refused}
pub use Rattle.meaning.specs.declared.EventNumbers.{EventNumbers}
