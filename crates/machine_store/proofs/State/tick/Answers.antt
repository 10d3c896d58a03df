use Rattle.machine_store.specs.Laws.Store.{tick_made}
use Rattle.std.proofs.Common.{rules, refl}
use Rattle.machine_store.proofs.State.tick.Goals as goal

pub returns : goal.returns
returns c = record { made = tick_made c.args.self.now.words c.args.self.now.cells (search rules) _ refl; cells = refl }
