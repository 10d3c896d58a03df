-- Every kind that this crate speaks of, its own and those of the crates below.
pub use Rattle.meaning.specs.declared.Task.{Task}
pub use Rattle.meaning.specs.declared.Event.{Event}
pub use Rattle.image_rows.specs.declared.Counts.{Counts}
pub use Rattle.image_check.specs.declared.ImageFault.{ImageFault}
pub use Rattle.machine_records.specs.declared.Moved.{Moved}
pub use Rattle.machine_store.specs.declared.State.{State}
pub use Rattle.machine.specs.declared.Turned.{Turned}
pub use Rattle.machine_turns.specs.declared.Unmade.{Unmade}
pub use Rattle.machine_turns.specs.declared.Unmade.TheVariants.{Image, Unfit, OddPairs, RecordsShort}
pub use Rattle.machine_turns.specs.declared.Scheduled.{Scheduled}
