use Rattle.machine_store.specs.Laws.Store.{chan_in_lem}
use Rattle.machine_store.proofs.State.channel.Goals as goal

pub returns : goal.returns
returns c = rw (chan_in_lem c.args.self.now.words c.args.self.now.cells c.args.c)
