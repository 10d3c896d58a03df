use mathlib.Core.Path.{refl}
use Rattle.machine_order.specs.Laws.Order.{join_made}
use borrow.Author.Rules.{rules}
use Rattle.machine_order.proofs.join.Goals as goal

pub returns : goal.returns
returns c = record { made = join_made c.args.state.now.words c.args.state.now.cells (search rules) c.args.t; words = refl }
