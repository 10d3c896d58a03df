-- Every kind that this crate speaks of, of the crates below.
pub use Rattle.meaning.specs.declared.Task.{Task}
pub use Rattle.meaning.specs.declared.Row.{Row}
pub use Rattle.meaning.specs.declared.Op.{Op}
pub use Rattle.meaning.specs.declared.Otherwise.{Otherwise}
pub use Rattle.meaning.specs.declared.Statement.{Statement}
pub use Rattle.meaning.specs.declared.Status.{Status}
pub use Rattle.machine_records.specs.declared.TaskState.{TaskState}
pub use Rattle.machine_records.specs.declared.Offer.{Offer}
pub use Rattle.machine_records.specs.declared.Plan.{Plan}
pub use Rattle.machine_records.specs.declared.Moved.{Moved}
pub use Rattle.machine_records.specs.declared.Refusal.{Refusal}
