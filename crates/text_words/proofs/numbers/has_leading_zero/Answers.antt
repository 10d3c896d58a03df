use native.Mathlib.Omega.{arith}
use borrow.Author.Tests.{lt-ltb, le-ltb}
use Rattle.text_words.proofs.numbers.has_leading_zero.Goals as goal

pub returns-then-n-gt1 : goal.returns-then-n-gt1
returns-then-n-gt1 c = rw (lt-ltb 1 c.args.n (omega arith))

pub returns-else-n-gt1 : goal.returns-else-n-gt1
returns-else-n-gt1 c = rw (le-ltb 1 c.args.n (omega arith))
