use Rattle.machine_store.specs.Laws.Store.{halt_made}
use Rattle.std.proofs.Common.{rules, refl}
use Rattle.machine_store.proofs.State.halt.Goals as goal

pub returns : goal.returns
returns c = record { made = halt_made c.args.self.now.words c.args.self.now.cells (search rules) c.args.fault c.args.t; words = refl }
