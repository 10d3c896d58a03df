use borrow.Author.Tests.{ne_eqb}
use Rattle.image_rows.specs.Rows.{counts_of}
use Rattle.bench.proofs.rounds_of.Goals as goal

pub returns-then-way-eq-WHOLE : goal.returns-then-way-eq-WHOLE
returns-then-way-eq-WHOLE c = rw (c.turn_rounds.ensures, c.if-way-eq-WHOLE.true)

pub returns-then-way-eq-BY_VALUE : goal.returns-then-way-eq-BY_VALUE
unfolding counts_of
returns-then-way-eq-BY_VALUE c =
    rw (c.value_rounds.ensures, c.body_of.ensures, c.counts_in-k.ensures, c.trailer_of.ensures, ne_eqb _ 2 c.if-way-eq-WHOLE.false)

pub returns : goal.returns
unfolding counts_of
returns c =
    rw (c.step_rounds.ensures, c.body_of-2.ensures, c.counts_in-k.ensures, c.trailer_of.ensures, ne_eqb _ 2 c.if-way-eq-WHOLE.false)
