use borrow.Author.Tests.{lt-ltb, le-ltb}
use Rattle.translate_fields.specs.Rows.{first_of}
use Rattle.translate_rows.proofs.laying.following.Goals as goal

pub returns-then-left-gt0 : goal.returns-then-left-gt0
unfolding first_of
returns-then-left-gt0 c = rw (lt-ltb _ _ c.if-left-gt0.true)

pub returns-else-left-gt0 : goal.returns-else-left-gt0
unfolding first_of
returns-else-left-gt0 c = rw (le-ltb _ _ c.if-left-gt0.false)
