-- Every kind that this crate speaks of, its own and those of the crates below.
pub use Rattle.meaning.specs.declared.Task.{Task}
pub use Rattle.meaning.specs.declared.Row.{Row}
pub use Rattle.meaning.specs.declared.Status.{Status}
pub use Rattle.meaning.specs.declared.Status.TheVariants.{Able, Waiting, Ended}
pub use Rattle.meaning.specs.declared.EventNumbers.{EventNumbers}
pub use Rattle.image_rows.specs.declared.Counts.{Counts}
pub use Rattle.image_check.specs.declared.ImageFault.{ImageFault}
pub use Rattle.machine_records.specs.declared.TaskState.{TaskState}
pub use Rattle.machine_records.specs.declared.Change.TheVariants.{Keep}
pub use Rattle.machine_records.specs.declared.Moved.{Moved}
pub use Rattle.machine_store.specs.declared.State.{State}
pub use Rattle.machine.specs.declared.Started.{Started}
pub use Rattle.machine.specs.declared.Turned.{Turned}
