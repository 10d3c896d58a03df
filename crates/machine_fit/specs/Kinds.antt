-- Every kind that this crate speaks of, its own and those of the crates below.
pub use Rattle.meaning.specs.declared.Task.{Task}
pub use Rattle.image_rows.specs.declared.Counts.{Counts}
pub use Rattle.machine_store.specs.declared.State.{State}
