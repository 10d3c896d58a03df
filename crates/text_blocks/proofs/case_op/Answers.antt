use Rattle.std.proofs.lemmas.Result.{err_from_is_err_and}
use Rattle.meaning.specs.declared.Op.{Op}
use Rattle.text_reader.specs.Reading.{case_op}
use Rattle.text_reader.specs.Answers.{due_part, part_of}
use Rattle.text_reader.specs.Laws.Parts.{bad_out}
use Rattle.text_blocks.proofs.case_op.Goals as goal

pub returns-in_err-op : goal.returns-in_err-op
unfolding case_op due_part part_of
returns-in_err-op c =
    let p = err_from_is_err_and c.from_residual.result c.from_residual.ensures.1 in
    λ rows sub. rw (p.1, p.2, c.read_op.ensures rows, c.in_err-op.was)

pub returns-in-Some : goal.returns-in-Some
unfolding case_op due_part part_of
returns-in-Some c = λ rows sub. rw (c.read_op.ensures rows, c.in_ok-op.was, c.in-Some.is)

pub returns-in-None : goal.returns-in-None
unfolding case_op due_part part_of
returns-in-None c = λ rows sub. rw (c.read_op.ensures rows, c.in_ok-op.was, c.in-None.is) (bad_out Op c.args.text.now c.args.w _ c.misplaced.ensures)
