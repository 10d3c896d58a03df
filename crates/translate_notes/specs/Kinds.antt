-- Every kind that this crate speaks of, its own and those of the crates below.
pub use Rattle.meaning.specs.declared.Op.{Op}
pub use Rattle.meaning.specs.declared.Op.TheVariants.{Send, Forward, Recv}
