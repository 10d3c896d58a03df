-- Every kind that this crate speaks of, its own and those of the crates below.
pub use Rattle.meaning.specs.declared.Task.{Task}
pub use Rattle.meaning.specs.declared.Chan.{Chan}
pub use Rattle.meaning.specs.declared.Status.{Status}
pub use Rattle.meaning.specs.declared.Status.TheVariants.{Able, Waiting, Ended}
pub use Rattle.meaning.specs.declared.EventNumbers.{EventNumbers}
pub use Rattle.machine_records.specs.declared.TaskState.{TaskState}
pub use Rattle.machine_records.specs.declared.ChanState.{ChanState}
pub use Rattle.listing_lines.specs.Line.{Line}
