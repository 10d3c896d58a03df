use Rattle.machine_store.specs.Laws.Store.{lap_in}
use Rattle.std.proofs.Common.{sym}
use Rattle.machine_store.proofs.State.lap.Goals as goal

pub returns : goal.returns
returns c = sym (lap_in c.args.self.now.words c.args.self.now.cells c.args.t c.args.d)
