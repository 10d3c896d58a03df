use borrow.Author.Rules.{rules}
use Prim.Native.Nat.{◌<◌}
use Rattle.machine_store.specs.Store.{records_of}
use Rattle.machine_store.specs.Laws.Store.{order_length}
use Rattle.machine_order.specs.Laws.Order.{leave_keeps, leave_drops}
use Rattle.machine_order.proofs.leave.Goals.{then-stays, else-stays}
use Rattle.machine_order.proofs.leave.Goals as goal

pub loop-i-preserved : goal.loop-i-preserved
loop-i-preserved c =
    let a = c.args in
    let l = c.loop-i in
    let s = a.state.now in
    let order_long = order_length s.words s.cells in
    let within : l.i < 16 = search rules in
    elim c.if-stays.branch [
      | then-stays w ↦ (let k = leave_keeps a.t (records_of s).order l.kept l.w l.i c.name-x.result order_long within c.name-x.ensures l.invariant.1.0 l.invariant.1.1 (search (rules, w.if-stays.true)) in rw (w.kept-is, w.w-is) (search rules, k))
      | else-stays w ↦ (let k = leave_drops a.t (records_of s).order l.kept l.w l.i c.name-x.result order_long within c.name-x.ensures l.invariant.1.0 l.invariant.1.1 (search (rules, w.if-stays.false)) in rw (w.kept-is, w.w-is) (search rules, k))
    ]
