use Rattle.std.proofs.Common.{sym, ap}
use Rattle.machine_store.specs.Kinds.{TaskState}
use Rattle.machine_store.specs.Laws.Store.{task_in_lem}
use Rattle.machine_store.proofs.row_in.Goals as goal

pub returns : goal.returns
returns c = λ d. sym (ap (λ (x : TaskState). x.row) (task_in_lem c.args.words.now d c.args.t))
