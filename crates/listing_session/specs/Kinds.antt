-- Every kind that this crate speaks of, its own and those of the crates below.
pub use Rattle.meaning.specs.declared.Task.{Task}
pub use Rattle.meaning.specs.declared.Chan.{Chan}
pub use Rattle.translate.specs.Translated.{Translated}
pub use Rattle.translate.specs.Translated.{Image}
pub use Rattle.machine_store.specs.declared.State.{State}
pub use Rattle.machine_records.specs.declared.Change.{Change}
pub use Rattle.machine_records.specs.declared.Change.TheVariants.{Keep}
pub use Rattle.machine.specs.declared.Turned.{Turned}
pub use Rattle.listing_input.specs.declared.Pair.{Pair}
pub use Rattle.listing_answer.specs.declared.Run.{Run}
pub use Rattle.listing_answer.specs.declared.Unlisted.{Unlisted}
pub use Rattle.listing_answer.specs.declared.Unlisted.TheVariants.{TooLong, Refused, BadSchedule}
pub use Rattle.listing_session.specs.declared.Session.{Session}
