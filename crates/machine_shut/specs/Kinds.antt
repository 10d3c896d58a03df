-- Every kind that this crate speaks of, of the crates below.
pub use Rattle.meaning.specs.declared.Task.{Task}
pub use Rattle.meaning.specs.declared.Chan.{Chan}
pub use Rattle.meaning.specs.declared.Row.{Row}
pub use Rattle.meaning.specs.declared.Event.TheVariants.{Closed}
pub use Rattle.machine_records.specs.declared.TaskState.{TaskState}
pub use Rattle.machine_records.specs.declared.ChanState.{ChanState}
pub use Rattle.machine_records.specs.declared.Change.TheVariants.{Keep}
pub use Rattle.machine_records.specs.declared.Side.TheVariants.{Receiving}
pub use Rattle.machine_records.specs.declared.Offer.{Offer}
pub use Rattle.machine_store.specs.declared.State.{State}
