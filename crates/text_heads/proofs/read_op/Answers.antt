use borrow.Author.Tests.{eq-eqb, ne_eqb}
use Rattle.std.proofs.lemmas.Result.{err_from_is_err_and}
use Rattle.text_reader.specs.Reading.{op_by}
use Rattle.text_reader.specs.Answers.{due_part, part_of}
use Rattle.text_heads.proofs.read_op.Goals as goal

pub returns-in_err-read_send : goal.returns-in_err-read_send
unfolding op_by due_part part_of
returns-in_err-read_send c =
    let p = err_from_is_err_and c.from_residual.result c.from_residual.ensures.1 in
    λ rows. rw (p.1, p.2, eq-eqb _ _ c.if-kind-eq-SEND.true, c.read_send.ensures rows, c.in_err-read_send.was)

pub returns-then-kind-eq-SEND : goal.returns-then-kind-eq-SEND
unfolding op_by due_part part_of
returns-then-kind-eq-SEND c = λ rows. rw (eq-eqb _ _ c.if-kind-eq-SEND.true, c.read_send.ensures rows, c.in_ok-read_send.was)

pub returns-in_err-read_forward : goal.returns-in_err-read_forward
unfolding op_by due_part part_of
returns-in_err-read_forward c =
    let p = err_from_is_err_and c.from_residual-in_err-read_forward.result c.from_residual-in_err-read_forward.ensures.1 in
    λ rows. rw (p.1, p.2, ne_eqb _ _ c.if-kind-eq-SEND.false, eq-eqb _ _ c.if-kind-eq-FORWARD.true, c.read_forward.ensures rows, c.in_err-read_forward.was)

pub returns-then-kind-eq-FORWARD : goal.returns-then-kind-eq-FORWARD
unfolding op_by due_part part_of
returns-then-kind-eq-FORWARD c = λ rows. rw (ne_eqb _ _ c.if-kind-eq-SEND.false, eq-eqb _ _ c.if-kind-eq-FORWARD.true, c.read_forward.ensures rows, c.in_ok-read_forward.was)

pub returns-in_err-read_recv : goal.returns-in_err-read_recv
unfolding op_by due_part part_of
returns-in_err-read_recv c =
    let p = err_from_is_err_and c.from_residual-in_err-read_recv.result c.from_residual-in_err-read_recv.ensures.1 in
    λ rows. rw (p.1, p.2, ne_eqb _ _ c.if-kind-eq-SEND.false, ne_eqb _ _ c.if-kind-eq-FORWARD.false, eq-eqb _ _ c.if-kind-eq-RECV.true, c.read_recv.ensures rows, c.in_err-read_recv.was)

pub returns-then-kind-eq-RECV : goal.returns-then-kind-eq-RECV
unfolding op_by due_part part_of
returns-then-kind-eq-RECV c = λ rows. rw (ne_eqb _ _ c.if-kind-eq-SEND.false, ne_eqb _ _ c.if-kind-eq-FORWARD.false, eq-eqb _ _ c.if-kind-eq-RECV.true, c.read_recv.ensures rows, c.in_ok-read_recv.was)

pub returns : goal.returns
unfolding op_by part_of
returns c = λ rows. rw (ne_eqb _ _ c.if-kind-eq-SEND.false, ne_eqb _ _ c.if-kind-eq-FORWARD.false, ne_eqb _ _ c.if-kind-eq-RECV.false)
