use borrow.Author.Tests.{eq-eqb, ne_eqb}
use Rattle.text_due.proofs.misplaced.Goals as goal

pub returns-then-kind-eq-NO_WORD : goal.returns-then-kind-eq-NO_WORD
returns-then-kind-eq-NO_WORD c = rw (c.at.ensures, eq-eqb _ _ c.if-kind-eq-NO_WORD.true)

pub returns : goal.returns
returns c = rw (c.at-2.ensures, ne_eqb _ _ c.if-kind-eq-NO_WORD.false)
