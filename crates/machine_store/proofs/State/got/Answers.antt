use Rattle.machine_store.specs.Laws.Store.{got_made}
use Rattle.std.proofs.Common.{rules}
use Rattle.machine_store.proofs.State.got.Goals as goal

pub returns : goal.returns
returns c = rw (c.from-2.ensures, c.from.ensures) (got_made c.args.self.now.words c.args.self.now.cells c.args.t (search rules) (search rules) c.args.v c.args.ok c.args.row)
