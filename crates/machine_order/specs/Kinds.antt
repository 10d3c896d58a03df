-- Every kind that this crate speaks of.
pub use Rattle.meaning.specs.declared.Task.{Task}
