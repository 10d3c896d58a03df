use borrow.Author.Tests.{eq-eqb, ne_eqb}
use Rattle.std.proofs.lemmas.Result.{err_from_is_err_and}
use Rattle.text_reader.specs.Answers.{due_part, part_of, operands_by}
use Rattle.text_heads.proofs.read_operands.Goals as goal

pub returns-then-is_op : goal.returns-then-is_op
unfolding operands_by
returns-then-is_op c = rw (← c.is_op.ensures, c.if-is_op.true) c.operation_head.ensures

pub returns-in_err-close_head : goal.returns-in_err-close_head
unfolding operands_by due_part part_of
returns-in_err-close_head c =
    let p = err_from_is_err_and c.from_residual.result c.from_residual.ensures.1 in
    rw (p.1, p.2, ← c.is_op.ensures, c.if-is_op.false, eq-eqb _ _ c.if-kind-eq-CLOSE.true, ← c.close_head.ensures, c.in_err-close_head.was)

pub returns-then-kind-eq-CLOSE : goal.returns-then-kind-eq-CLOSE
unfolding operands_by due_part part_of
returns-then-kind-eq-CLOSE c = rw (← c.is_op.ensures, c.if-is_op.false, eq-eqb _ _ c.if-kind-eq-CLOSE.true, ← c.close_head.ensures, c.in_ok-close_head.was)

pub returns-then-kind-eq-STOP : goal.returns-then-kind-eq-STOP
unfolding operands_by part_of
returns-then-kind-eq-STOP c = rw (← c.is_op.ensures, c.if-is_op.false, ne_eqb _ _ c.if-kind-eq-CLOSE.false, eq-eqb _ _ c.if-kind-eq-STOP.true)

pub returns-in_err-range_head : goal.returns-in_err-range_head
unfolding operands_by due_part part_of
returns-in_err-range_head c =
    let p = err_from_is_err_and c.from_residual-in_err-range_head.result c.from_residual-in_err-range_head.ensures.1 in
    rw (p.1, p.2, ← c.is_op.ensures, c.if-is_op.false, ne_eqb _ _ c.if-kind-eq-CLOSE.false, ne_eqb _ _ c.if-kind-eq-STOP.false, eq-eqb _ _ c.if-kind-eq-RANGE.true, ← c.range_head.ensures, c.in_err-range_head.was)

pub returns-then-kind-eq-RANGE : goal.returns-then-kind-eq-RANGE
unfolding operands_by due_part part_of
returns-then-kind-eq-RANGE c = rw (← c.is_op.ensures, c.if-is_op.false, ne_eqb _ _ c.if-kind-eq-CLOSE.false, ne_eqb _ _ c.if-kind-eq-STOP.false, eq-eqb _ _ c.if-kind-eq-RANGE.true, ← c.range_head.ensures, c.in_ok-range_head.was)

pub returns-in_err-repeat_head : goal.returns-in_err-repeat_head
unfolding operands_by due_part part_of
returns-in_err-repeat_head c =
    let p = err_from_is_err_and c.from_residual-in_err-repeat_head.result c.from_residual-in_err-repeat_head.ensures.1 in
    rw (p.1, p.2, ← c.is_op.ensures, c.if-is_op.false, ne_eqb _ _ c.if-kind-eq-CLOSE.false, ne_eqb _ _ c.if-kind-eq-STOP.false, ne_eqb _ _ c.if-kind-eq-RANGE.false, eq-eqb _ _ c.if-kind-eq-REPEAT.true, ← c.repeat_head.ensures, c.in_err-repeat_head.was)

pub returns-then-kind-eq-REPEAT : goal.returns-then-kind-eq-REPEAT
unfolding operands_by due_part part_of
returns-then-kind-eq-REPEAT c = rw (← c.is_op.ensures, c.if-is_op.false, ne_eqb _ _ c.if-kind-eq-CLOSE.false, ne_eqb _ _ c.if-kind-eq-STOP.false, ne_eqb _ _ c.if-kind-eq-RANGE.false, eq-eqb _ _ c.if-kind-eq-REPEAT.true, ← c.repeat_head.ensures, c.in_ok-repeat_head.was)

pub returns-then-kind-eq-IFOK : goal.returns-then-kind-eq-IFOK
unfolding operands_by part_of
returns-then-kind-eq-IFOK c = rw (← c.is_op.ensures, c.if-is_op.false, ne_eqb _ _ c.if-kind-eq-CLOSE.false, ne_eqb _ _ c.if-kind-eq-STOP.false, ne_eqb _ _ c.if-kind-eq-RANGE.false, ne_eqb _ _ c.if-kind-eq-REPEAT.false, eq-eqb _ _ c.if-kind-eq-IFOK.true)

pub returns-then-kind-eq-SELECT : goal.returns-then-kind-eq-SELECT
unfolding operands_by part_of
returns-then-kind-eq-SELECT c = rw (← c.is_op.ensures, c.if-is_op.false, ne_eqb _ _ c.if-kind-eq-CLOSE.false, ne_eqb _ _ c.if-kind-eq-STOP.false, ne_eqb _ _ c.if-kind-eq-RANGE.false, ne_eqb _ _ c.if-kind-eq-REPEAT.false, ne_eqb _ _ c.if-kind-eq-IFOK.false, eq-eqb _ _ c.if-kind-eq-SELECT.true)

pub returns : goal.returns
unfolding operands_by part_of
returns c = rw (← c.is_op.ensures, c.if-is_op.false, ne_eqb _ _ c.if-kind-eq-CLOSE.false, ne_eqb _ _ c.if-kind-eq-STOP.false, ne_eqb _ _ c.if-kind-eq-RANGE.false, ne_eqb _ _ c.if-kind-eq-REPEAT.false, ne_eqb _ _ c.if-kind-eq-IFOK.false, ne_eqb _ _ c.if-kind-eq-SELECT.false)
