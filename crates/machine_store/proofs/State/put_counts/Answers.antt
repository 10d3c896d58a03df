use Rattle.machine_store.specs.Laws.Store.{counts_made}
use Rattle.std.proofs.Common.{rules, refl}
use Rattle.machine_store.proofs.State.put_counts.Goals as goal

pub returns : goal.returns
returns c = record { made = counts_made c.args.self.now.words c.args.self.now.cells (search rules) c.args.tasks c.args.channels; words = refl }
