-- Every kind that this crate speaks of, its own and those of the crates below.
pub use Rattle.meaning.specs.declared.Task.{Task}
pub use Rattle.meaning.specs.declared.Chan.{Chan}
pub use Rattle.meaning.specs.declared.Row.{Row}
pub use Rattle.meaning.specs.declared.Port.{Port}
pub use Rattle.meaning.specs.declared.Port.TheVariants.{Nil, On}
pub use Rattle.meaning.specs.declared.Op.{Op}
pub use Rattle.meaning.specs.declared.Op.TheVariants.{Send, Forward, Recv}
pub use Rattle.machine_records.specs.declared.ChanState.{ChanState}
pub use Rattle.machine_records.specs.declared.Waiter.{Waiter}
pub use Rattle.machine_records.specs.declared.Fault.{Fault}
pub use Rattle.machine_records.specs.declared.Side.TheVariants.{Receiving, Sending}
pub use Rattle.machine_records.specs.declared.Plan.{Plan}
pub use Rattle.machine_exchange.specs.declared.Exchange.{Exchange}
pub use Rattle.machine_exchange.specs.declared.Exchange.TheVariants.{Gives, Gets}
