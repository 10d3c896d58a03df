-- Every kind that this crate speaks of, its own and those of the crates below.
pub use Rattle.meaning.specs.declared.Task.{Task}
pub use Rattle.meaning.specs.declared.Chan.{Chan}
pub use Rattle.meaning.specs.declared.Row.{Row}
pub use Rattle.meaning.specs.declared.Status.{Status}
pub use Rattle.meaning.specs.declared.Status.TheVariants.{Able, Waiting, Ended}
pub use Rattle.meaning.specs.declared.Event.{Event}
pub use Rattle.machine_records.specs.declared.Change.{Change}
pub use Rattle.machine_records.specs.declared.TaskState.{TaskState}
pub use Rattle.machine_records.specs.declared.ChanState.{ChanState}
pub use Rattle.machine_records.specs.declared.Moved.{Moved}
pub use Rattle.machine_store.specs.declared.State.{State}
