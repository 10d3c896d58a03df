use borrow.Author.Tests.{eq-eqb, ne_eqb}
use Rattle.text_heads.proofs.is_block.Goals as goal

pub returns-then-kind-eq-RANGE : goal.returns-then-kind-eq-RANGE
returns-then-kind-eq-RANGE c = rw (eq-eqb _ _ c.if-kind-eq-RANGE.true)

pub returns-then-kind-eq-REPEAT : goal.returns-then-kind-eq-REPEAT
returns-then-kind-eq-REPEAT c = rw (ne_eqb _ _ c.if-kind-eq-RANGE.false, eq-eqb _ _ c.if-kind-eq-REPEAT.true)

pub returns-then-kind-eq-IFOK : goal.returns-then-kind-eq-IFOK
returns-then-kind-eq-IFOK c = rw (ne_eqb _ _ c.if-kind-eq-RANGE.false, ne_eqb _ _ c.if-kind-eq-REPEAT.false, eq-eqb _ _ c.if-kind-eq-IFOK.true)

pub returns : goal.returns
returns c = rw (ne_eqb _ _ c.if-kind-eq-RANGE.false, ne_eqb _ _ c.if-kind-eq-REPEAT.false, ne_eqb _ _ c.if-kind-eq-IFOK.false)
