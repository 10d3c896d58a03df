use borrow.Author.Tests.{eq-eqb, ne_eqb}
use Rattle.translate_fields.specs.Rows.{leads_to}
use Rattle.translate_fields.proofs.leads_to.Goals as goal

pub returns-then-op-eq5 : goal.returns-then-op-eq5
unfolding leads_to
returns-then-op-eq5 c = rw (eq-eqb _ _ c.if-op-eq5.true)

pub returns-then-op-eq6 : goal.returns-then-op-eq6
unfolding leads_to
returns-then-op-eq6 c = rw (ne_eqb _ _ c.if-op-eq5.false, eq-eqb _ _ c.if-op-eq6.true)

pub returns : goal.returns
unfolding leads_to
returns c = rw (ne_eqb _ _ c.if-op-eq5.false, ne_eqb _ _ c.if-op-eq6.false)
