use Rattle.std.proofs.lemmas.Result.{err_from_is_err_and}
use Rattle.text_reader.specs.Answers.{part_of, head_of}
use Rattle.text_reader.specs.Laws.Answered.{none_by}
use Rattle.text_heads.proofs.operation_head.Goals as goal

pub returns-in_err-op : goal.returns-in_err-op
unfolding head_of part_of
returns-in_err-op c = let p = err_from_is_err_and c.from_residual.result c.from_residual.ensures.1 in rw (p.1, p.2, c.read_op.ensures 0, c.in_err-op.was)

pub returns-in_default : goal.returns-in_default
unfolding head_of part_of
returns-in_default c = rw (c.read_op.ensures 0, c.in_ok-op.was, none_by _ c.in_default.not-Some)

pub returns : goal.returns
unfolding head_of part_of
returns c = rw (c.read_op.ensures 0, c.in_ok-op.was, c.in-Some.is)
