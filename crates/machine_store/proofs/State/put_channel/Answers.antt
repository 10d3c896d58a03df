use Rattle.machine_store.specs.Laws.Store.{chan_made}
use Rattle.std.proofs.Common.{rules, refl}
use Rattle.machine_store.proofs.State.put_channel.Goals as goal

pub returns : goal.returns
returns c = rw c.from.ensures (record { made = chan_made c.args.self.now.words c.args.self.now.cells (search rules) c.args.c c.args.x; words = refl })
