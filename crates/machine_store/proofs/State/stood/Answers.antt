use Rattle.machine_store.specs.Laws.Store.{stood_made}
use Rattle.std.proofs.Common.{rules, refl}
use Rattle.machine_store.proofs.State.stood.Goals as goal

pub returns : goal.returns
returns c = rw c.from.ensures (record { made = stood_made c.args.self.now.words c.args.self.now.cells c.args.t (search rules) c.args.status; words = refl })
