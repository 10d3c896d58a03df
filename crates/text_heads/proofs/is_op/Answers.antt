use borrow.Author.Tests.{eq-eqb, ne_eqb}
use Rattle.text_heads.proofs.is_op.Goals as goal

pub returns-then-kind-eq-SEND : goal.returns-then-kind-eq-SEND
returns-then-kind-eq-SEND c = rw (eq-eqb _ _ c.if-kind-eq-SEND.true)

pub returns-then-kind-eq-FORWARD : goal.returns-then-kind-eq-FORWARD
returns-then-kind-eq-FORWARD c = rw (ne_eqb _ _ c.if-kind-eq-SEND.false, eq-eqb _ _ c.if-kind-eq-FORWARD.true)

pub returns : goal.returns
returns c = rw (ne_eqb _ _ c.if-kind-eq-SEND.false, ne_eqb _ _ c.if-kind-eq-FORWARD.false)
