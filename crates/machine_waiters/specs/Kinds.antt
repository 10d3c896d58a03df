-- Every kind that this crate speaks of, its own and those of the crates below.
pub use Rattle.meaning.specs.declared.Task.{Task}
pub use Rattle.meaning.specs.declared.Chan.{Chan}
pub use Rattle.meaning.specs.declared.Row.{Row}
pub use Rattle.meaning.specs.declared.Op.{Op}
pub use Rattle.meaning.specs.declared.Op.TheVariants.{Send, Forward, Recv}
pub use Rattle.meaning.specs.declared.Statement.{Statement}
pub use Rattle.meaning.specs.declared.Statement.TheVariants.{Do, Close, Range, Repeat, Ifok, Select, Case, Stop}
pub use Rattle.machine_records.specs.declared.Side.{Side}
pub use Rattle.machine_records.specs.declared.Side.TheVariants.{Receiving, Sending}
pub use Rattle.machine_records.specs.declared.Offer.{Offer}
pub use Rattle.machine_records.specs.declared.Waiter.{Waiter}
pub use Rattle.machine_waiters.specs.declared.Head.{Head}
