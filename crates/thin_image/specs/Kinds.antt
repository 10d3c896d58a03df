-- Every kind that this crate speaks of, its own and those of the crates below.
pub use Rattle.meaning.specs.declared.Task.{Task}
pub use Rattle.meaning.specs.declared.Chan.{Chan}
pub use Rattle.meaning.specs.declared.Row.{Row}
pub use Rattle.thin_held.specs.declared.Held.{Held}
pub use Rattle.thin_image.specs.declared.Opened.{Opened}
pub use Rattle.thin_image.specs.declared.Answers.{Answers}
