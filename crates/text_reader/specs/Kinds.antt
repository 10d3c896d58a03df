-- Every kind that this crate speaks of, its own and those of the crates below.
pub use Rattle.meaning.specs.declared.Port.{Port}
pub use Rattle.meaning.specs.declared.Port.TheVariants.{Nil, On}
pub use Rattle.meaning.specs.declared.Op.{Op}
pub use Rattle.meaning.specs.declared.Op.TheVariants.{Send, Forward, Recv}
pub use Rattle.text_words.specs.declared.Word.{Word}
pub use Rattle.text_reader.specs.declared.Fault.{Fault}
pub use Rattle.text_reader.specs.declared.Fault.TheVariants.{TextTooLong, ByteNotAllowed, WordOutOfPlace, NumberDue, NumberOverRange, OneTooMany, TooDeep, RowsFull, CutShort, NoTask}
pub use Rattle.text_reader.specs.declared.Refused.{Refused}
pub use Rattle.text_reader.specs.declared.Got.{Got}
pub use Rattle.text_reader.specs.declared.Position.{Position}
pub use Rattle.text_reader.specs.declared.Counted.{Counted}
pub use Rattle.text_reader.specs.declared.Head.{Head}
pub use Rattle.text_reader.specs.declared.CaseHead.{CaseHead}
pub use Rattle.text_reader.specs.declared.JobSize.{JobSize}
