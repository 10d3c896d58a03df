use Rattle.machine_store.specs.Laws.Store.{task_in_lem}
use Rattle.std.proofs.Common.{add-zero}
use Rattle.meaning.specs.Bytes.{tabulate}
use Rattle.machine_store.proofs.State.task.Goals as goal

pub returns : goal.returns
unfolding tabulate
returns c = rw (task_in_lem c.args.self.now.words c.args.self.now.cells c.args.t, c.from.ensures, add-zero)
