use borrow.Author.Tests.{eq-eqb, ne_eqb}
use Rattle.translate_fields.specs.Rows.{select_fields}
use Rattle.translate_fields.proofs.select_fields.Goals as goal

pub returns-then-arg-eq0 : goal.returns-then-arg-eq0
unfolding select_fields
returns-then-arg-eq0 c = rw (c.fields_by.ensures, eq-eqb _ _ c.if-arg-eq0.true)

pub returns : goal.returns
unfolding select_fields
returns c =
    rw (c.fields_by-2.ensures, c.first_of-first.ensures, c.less.ensures, ne_eqb _ _ c.if-arg-eq0.false)
