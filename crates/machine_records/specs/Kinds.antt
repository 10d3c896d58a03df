-- Every kind that this crate speaks of, its own and those of the crates below.
pub use Rattle.meaning.specs.declared.Task.{Task}
pub use Rattle.meaning.specs.declared.Chan.{Chan}
pub use Rattle.meaning.specs.declared.Row.{Row}
pub use Rattle.meaning.specs.declared.Port.{Port}
pub use Rattle.meaning.specs.declared.Port.TheVariants.{Nil, On}
pub use Rattle.meaning.specs.declared.Op.{Op}
pub use Rattle.meaning.specs.declared.Op.TheVariants.{Send, Forward, Recv}
pub use Rattle.meaning.specs.declared.Otherwise.{Otherwise}
pub use Rattle.meaning.specs.declared.Otherwise.TheVariants.{Wait, Go}
pub use Rattle.meaning.specs.declared.Statement.{Statement}
pub use Rattle.meaning.specs.declared.Statement.TheVariants.{Do, Close, Range, Repeat, Ifok, Select, Case, Stop}
pub use Rattle.meaning.specs.declared.Status.{Status}
pub use Rattle.meaning.specs.declared.Status.TheVariants.{Able, Waiting, Ended}
pub use Rattle.meaning.specs.declared.Event.{Event}
pub use Rattle.meaning.specs.declared.Event.TheVariants.{Appended, Handed, Taken, Refilled, Received, Drained, Closed, Waits, Branched, Finished, Faulted, Refused}
pub use Rattle.image_rows.specs.declared.Counts.{Counts}
pub use Rattle.machine_records.specs.declared.TaskState.{TaskState}
pub use Rattle.machine_records.specs.declared.ChanState.{ChanState}
pub use Rattle.machine_records.specs.declared.Change.{Change}
pub use Rattle.machine_records.specs.declared.Change.TheVariants.{Keep, Append, Take, Refill}
pub use Rattle.machine_records.specs.declared.Side.{Side}
pub use Rattle.machine_records.specs.declared.Side.TheVariants.{Receiving, Sending}
pub use Rattle.machine_records.specs.declared.Offer.{Offer}
pub use Rattle.machine_records.specs.declared.Waiter.{Waiter}
pub use Rattle.machine_records.specs.declared.Fault.{Fault}
pub use Rattle.machine_records.specs.declared.Plan.{Plan}
pub use Rattle.machine_records.specs.declared.Moved.{Moved}
pub use Rattle.machine_records.specs.declared.Refusal.{Refusal}
