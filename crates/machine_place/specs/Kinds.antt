-- Every kind that this crate speaks of, of the crates below.
pub use Rattle.meaning.specs.declared.Row.{Row}
pub use Rattle.meaning.specs.declared.Otherwise.TheVariants.{Wait, Go}
pub use Rattle.meaning.specs.declared.Statement.{Statement}
pub use Rattle.meaning.specs.declared.Fields.{Fields}
pub use Rattle.meaning.specs.declared.Status.{Status}
pub use Rattle.meaning.specs.declared.Status.TheVariants.{Able, Waiting, Ended}
pub use Rattle.machine_records.specs.declared.TaskState.{TaskState}
