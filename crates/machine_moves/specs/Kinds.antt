-- Every kind that this crate speaks of, of the crates below.
pub use Rattle.meaning.specs.declared.Event.TheVariants.{Appended, Handed, Taken, Refilled, Received}
pub use Rattle.machine_records.specs.declared.ChanState.{ChanState}
pub use Rattle.machine_records.specs.declared.Change.TheVariants.{Keep, Append, Take, Refill}
pub use Rattle.machine_records.specs.declared.Plan.{Plan}
