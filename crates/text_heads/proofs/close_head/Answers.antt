use Rattle.std.proofs.lemmas.Result.{err_from_is_err_and}
use Rattle.text_reader.specs.Answers.{due_part, head_of}
use Rattle.text_heads.proofs.close_head.Goals as goal

pub returns-in_err-port : goal.returns-in_err-port
unfolding head_of due_part
returns-in_err-port c = let p = err_from_is_err_and c.from_residual.result c.from_residual.ensures.1 in rw (p.1, p.2, c.read_port.ensures 0, c.in_err-port.was)

pub returns : goal.returns
unfolding head_of due_part
returns c = rw (c.read_port.ensures 0, c.in_ok-port.was)
