use native.Mathlib.Omega.{arith}
use borrow.Author.Tests.{lt-ltb, le-ltb}
use Rattle.text_words.specs.Scan.{value_by}
use Rattle.text_words.proofs.numbers.value_by.Goals as goal

pub returns-then-v : goal.returns-then-v
unfolding value_by
returns-then-v c = rw (lt-ltb _ _ c.if-n-lt10.true) (omega arith)

pub returns-else-v : goal.returns-else-v
unfolding value_by
returns-else-v c = rw (lt-ltb _ _ c.if-n-lt10.true) (omega arith)

pub returns-else-n-lt10 : goal.returns-else-n-lt10
unfolding value_by
returns-else-n-lt10 c = rw (le-ltb _ _ c.if-n-lt10.false)
