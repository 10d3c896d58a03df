use Rattle.machine_store.specs.Store.{records_of}
use borrow.Author.Rules.{rules}
use Rattle.machine_select.proofs.Laws.{kept_count}
use Rattle.machine_records.specs.Rules.{row_ready}
use Rattle.meaning.specs.Bytes.{tabulate}
use native.Mathlib.Omega.{arith}
use Prim.Native.Nat.{◌-◌, ◌+◌}
use mathlib.Core.Bool.{true, false}
use mathlib.Core.Path.{◌≡◌, sym, ◌∙◌}
use Rattle.machine_select.proofs.count_ready.Goals.{then-row_ready, else-row_ready}
use Rattle.machine_select.proofs.count_ready.Goals as goal

pub loop-i-preserved : goal.loop-i-preserved
loop-i-preserved c =
    let a = c.args in
    let l = c.loop-i in
    let count = kept_count (row_ready a.body.now a.rows (records_of a.state.now)) a.k l.i (a.row.0 + 1) (search rules) in
    elim c.if-row_ready.branch [
      | then-row_ready w ↦ rw w.w-is (search rules, omega (arith, count true (sym c.row_ready.ensures ∙ w.if-row_ready.true), l.invariant.1))
      | else-row_ready w ↦ rw w.w-is (search rules, omega (arith, count false (sym c.row_ready.ensures ∙ w.if-row_ready.false), l.invariant.1))
    ]

pub returns : goal.returns
unfolding tabulate
returns c =
    let a = c.args in
    let l = c.loop-i in
    let e : a.k - l.i ≡ 0 = search rules in
    omega (arith, rw e at l.invariant.1)
