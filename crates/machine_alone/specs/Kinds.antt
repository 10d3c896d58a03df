-- Every kind that this crate speaks of, of the crates below.
pub use Rattle.meaning.specs.declared.Status.TheVariants.{Waiting, Ended}
pub use Rattle.meaning.specs.declared.Event.TheVariants.{Drained, Waits, Branched, Finished, Faulted}
pub use Rattle.machine_records.specs.declared.Change.TheVariants.{Keep}
