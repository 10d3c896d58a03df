use Rattle.machine_store.specs.Laws.Store.{went_made}
use Rattle.std.proofs.Common.{rules}
use Rattle.machine_store.proofs.State.went.Goals as goal

pub returns : goal.returns
returns c = rw c.from.ensures (went_made c.args.self.now.words c.args.self.now.cells c.args.t (search rules) (search rules) c.args.row)
