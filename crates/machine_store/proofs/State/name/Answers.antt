use Rattle.machine_store.specs.Laws.Store.{name_in}
use Rattle.std.proofs.Common.{sym}
use Rattle.machine_store.proofs.State.name.Goals as goal

pub returns : goal.returns
returns c = sym (name_in c.args.self.now.words c.args.self.now.cells c.args.i)
