use native.Mathlib.Omega.{arith}
use borrow.Author.Tests.{eq-eqb, ne_eqb}
use Rattle.text_words.specs.Words.{is_blank}
use Rattle.text_words.proofs.bytes.is_blank.Goals as goal

pub returns-then-b-gt32 : goal.returns-then-b-gt32
unfolding is_blank
returns-then-b-gt32 c =
    let b = c.args.b in
    rw (ne_eqb b 32 (λ q. omega arith), ne_eqb b 10 (λ q. omega arith))

pub returns-then-b-eq32 : goal.returns-then-b-eq32
unfolding is_blank
returns-then-b-eq32 c = rw (eq-eqb _ _ c.if-b-eq32.true)

pub returns-else-b-eq32 : goal.returns-else-b-eq32
unfolding is_blank
returns-else-b-eq32 c = rw (ne_eqb _ _ c.if-b-eq32.false)
