use Rattle.machine_store.specs.Store.{records_of}
use borrow.Author.Rules.{rules}
use Rattle.machine_select.proofs.Laws.{kept_here, kept_next, kept_past}
use Rattle.machine_records.specs.Rules.{row_ready}
use Rattle.meaning.specs.Bytes.{tabulate}
use Prim.Native.Nat.{◌-◌, ◌+◌}
use mathlib.Core.Path.{◌≡◌, sym, ◌∙◌}
use Rattle.machine_select.proofs.nth_ready.Goals.{then-row_ready+else-left-eq0, else-row_ready}
use Rattle.machine_select.proofs.nth_ready.Goals as goal

pub returns-then-left-eq0 : goal.returns-then-left-eq0
returns-then-left-eq0 c =
    let a = c.args in
    let l = c.loop-i in
    sym (l.invariant ∙ kept_here (row_ready a.body.now a.rows (records_of a.state.now)) a.k l.i (a.row.0 + 1) (search rules) l.left (sym c.row_ready.ensures ∙ c.if-row_ready.true) c.if-left-eq0.true)

pub loop-i-preserved : goal.loop-i-preserved
loop-i-preserved c =
    let a = c.args in
    let l = c.loop-i in
    let ready = row_ready a.body.now a.rows (records_of a.state.now) in
    elim c.if-row_ready.branch [
      | then-row_ready+else-left-eq0 w ↦ rw w.left-is (l.invariant ∙ kept_next ready a.k l.i (a.row.0 + 1) (search rules) l.left (sym c.row_ready.ensures ∙ w.if-row_ready.true) w.if-left-eq0.false)
      | else-row_ready w ↦ rw w.left-is (l.invariant ∙ kept_past ready a.k l.i (a.row.0 + 1) (search rules) l.left (sym c.row_ready.ensures ∙ w.if-row_ready.false))
    ]

pub returns : goal.returns
unfolding tabulate
returns c =
    let a = c.args in
    let l = c.loop-i in
    let e : a.k - l.i ≡ 0 = search rules in
    sym (rw e at l.invariant)
