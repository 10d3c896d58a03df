use mathlib.Core.Path.{◌≡◌}
use Prim.Native.Nat.{◌-◌, ◌%◌}
use native.Mathlib.Omega.{arith}
use borrow.Author.Tests.{lt-ltb, le-ltb}
use Rattle.meaning.specs.Image.{task_no}
use Rattle.machine_records.specs.Fitting.{every, name_fits}
use Rattle.machine_store.specs.Store.{records_of}
use Rattle.machine_records.specs.Laws.Every.{every_step}
use Rattle.machine_fit.proofs.Laws.{cell_le, times_past, count_step}
use borrow.Author.Rules.{rules}
use Rattle.machine_fit.proofs.names_fit.Goals as goal

pub returns-then-k-t-clause-fit : goal.returns-then-k-t-clause-fit
unfolding name_fits
returns-then-k-t-clause-fit c =
    let l = c.loop-i in
    let a = c.args in
    let step = every_step (name_fits a.k (records_of a.state.now)) a.n l.i (search rules) in
    rw (l.invariant.2, step, ← c.name-t.ensures, le-ltb _ _ c.if-k-t.true)

pub loop-i-preserved : goal.loop-i-preserved
unfolding name_fits
loop-i-preserved c =
    let l = c.loop-i in
    let a = c.args in
    let u = c.name-t in
    let step = every_step (name_fits a.k (records_of a.state.now)) a.n l.i (search rules) in
    let count = count_step a.state.now a.n l.i u.result (search rules) (search rules) u.ensures l.named in (
      search rules,
      λ t. cell_le l.named (u.result.0 % 16) t l.i (omega (arith, l.invariant.0)) (l.invariant.1 t),
      rw (l.invariant.2, step, ← u.ensures, lt-ltb _ _ c.if-k-t.false),
      λ h t b. count t _ l.invariant.0 (search rules) (l.invariant.3 h t b),
    )

pub returns-clause-fit : goal.returns-clause-fit
unfolding every
returns-clause-fit c =
    let l = c.loop-i in
    let e : c.args.n - l.i ≡ 0 = search rules in
    rw (l.invariant.2, e)

pub returns-clause-counted : goal.returns-clause-counted
returns-clause-counted c =
    let l = c.loop-i in
    let past = times_past c.args.state.now c.args.n l.i (search rules) in
    λ q h t b. omega (arith, past (task_no t), l.invariant.3 h t b)
