use Rattle.machine_store.specs.Laws.Store.{lapped_made}
use Rattle.std.proofs.Common.{rules, refl}
use Rattle.machine_store.proofs.State.lapped.Goals as goal

pub returns : goal.returns
returns c = record { made = lapped_made c.args.self.now.words c.args.self.now.cells c.args.t (search rules) c.args.d c.args.laps; words = refl }
