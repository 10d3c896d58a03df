use Rattle.std.proofs.lemmas.Result.{err_from_is_err_and}
use Rattle.text_reader.specs.Reading.{bind}
use Rattle.text_reader.specs.Answers.{due_part}
use Rattle.text_heads.proofs.read_forward.Goals as goal

pub returns-in_err-port : goal.returns-in_err-port
unfolding bind due_part
returns-in_err-port c = λ rows. let p = err_from_is_err_and c.from_residual.result c.from_residual.ensures.1 in rw (p.1, p.2, c.read_port.ensures rows, c.in_err-port.was)

pub returns : goal.returns
unfolding bind due_part
returns c = λ rows. rw (c.read_port.ensures rows, c.in_ok-port.was)
