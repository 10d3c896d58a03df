use borrow.Author.Tests.{lt-ltb, le-ltb}
use Rattle.translate_fields.specs.Rows.{first_of}
use Rattle.translate_fields.proofs.first_of.Goals as goal

pub returns-then-n-gt0 : goal.returns-then-n-gt0
unfolding first_of
returns-then-n-gt0 c = rw (lt-ltb _ _ c.if-n-gt0.true)

pub returns-else-n-gt0 : goal.returns-else-n-gt0
unfolding first_of
returns-else-n-gt0 c = rw (le-ltb _ _ c.if-n-gt0.false)
