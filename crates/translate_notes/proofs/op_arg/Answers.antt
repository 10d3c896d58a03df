use Rattle.translate_notes.specs.Notes.{op_arg}
use Rattle.translate_notes.proofs.op_arg.Goals as goal

pub returns-in-Send : goal.returns-in-Send
unfolding op_arg
returns-in-Send c = rw c.in-Send.is

pub returns-in-Forward : goal.returns-in-Forward
unfolding op_arg
returns-in-Forward c = rw c.in-Forward.is

pub returns-in-Recv : goal.returns-in-Recv
unfolding op_arg
returns-in-Recv c = rw c.in-Recv.is
