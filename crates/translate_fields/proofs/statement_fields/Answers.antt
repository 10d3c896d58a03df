use borrow.Author.Tests.{lt-ltb, le-ltb, ne_eqb}
use Rattle.translate_fields.specs.Rows.{row_fields}
use Rattle.translate_fields.proofs.statement_fields.Goals as goal

pub returns-then-op-lt5 : goal.returns-then-op-lt5
unfolding row_fields
returns-then-op-lt5 c =
    rw (c.fields_by.ensures, ← c.op_in-op.ensures, ← c.chan_in-chan.ensures, lt-ltb _ _ c.if-op-lt5.true)

pub returns-then-op-lt7 : goal.returns-then-op-lt7
unfolding row_fields
returns-then-op-lt7 c =
    rw (
      c.loop_fields.ensures,
      ← c.op_in-op.ensures,
      ← c.chan_in-chan.ensures,
      le-ltb _ _ c.if-op-lt5.false,
      lt-ltb _ _ c.if-op-lt7.true,
    )

pub returns-then-op-eq7 : goal.returns-then-op-eq7
unfolding row_fields
returns-then-op-eq7 c = rw (c.ifok_fields.ensures, ← c.op_in-op.ensures, c.if-op-eq7.true)

pub returns-then-op-eq8 : goal.returns-then-op-eq8
unfolding row_fields
returns-then-op-eq8 c =
    rw (c.select_fields.ensures, ← c.op_in-op.ensures, c.if-op-eq8.true, c.chan_in-chan.ensures)

pub returns : goal.returns
unfolding row_fields
returns c =
    rw (
      c.fields_by-2.ensures,
      ← c.op_in-op.ensures,
      le-ltb _ _ c.if-op-lt5.false,
      le-ltb _ _ c.if-op-lt7.false,
      ne_eqb _ _ c.if-op-eq7.false,
      ne_eqb _ _ c.if-op-eq8.false,
    )
