use mathlib.Core.Path.{◌≡◌, refl}
use native.Mathlib.Omega.{arith}
use borrow.Author.Rules.{rules}
use Rattle.machine_records.specs.Laws.Cells.{length_mapped}
use Rattle.machine_order.specs.Laws.Order.{order_made}
use Rattle.machine_order.proofs.put_order.Goals as goal

pub returns : goal.returns
returns c =
    let a = c.args in
    let e : c.loop-i.i ≡ 16 = omega arith in
    rw (c.loop-i.invariant, e) (record { made = order_made a.state.now.words a.state.now.cells (search rules) a.order (search (rules, length_mapped)) a.n; words = refl })
