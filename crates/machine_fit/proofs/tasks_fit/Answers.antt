use mathlib.Core.Path.{◌≡◌}
use Prim.Native.Nat.{◌%◌}
use borrow.Author.Rules.{rules}
use native.Mathlib.Omega.{arith}
use Rattle.machine_records.specs.Fitting.{task_fits}
use Rattle.machine_store.specs.Store.{records_of}
use Rattle.machine_records.specs.Laws.Every.{every_step}
use Rattle.machine_fit.proofs.tasks_fit.Goals as goal

pub loop-i-preserved : goal.loop-i-preserved
unfolding task_fits
loop-i-preserved c =
    let l = c.loop-i in
    let a = c.args in
    let s = records_of a.state.now in
    let step = every_step (task_fits a.body.now a.k s) a.k.tasks l.i (search rules) in
    let w : s.waiting % 17 ≡ a.n = omega (arith, c.requires.all, c.requires.waiting) in
    rw (l.invariant, step, w, ← c.times_of-times.ensures, ← c.task-x.ensures, ← c.task_fits-fits.ensures, c.if-not-fits.false)

pub returns-then-not-fits : goal.returns-then-not-fits
unfolding task_fits
returns-then-not-fits c =
    let l = c.loop-i in
    let a = c.args in
    let s = records_of a.state.now in
    let step = every_step (task_fits a.body.now a.k s) a.k.tasks l.i (search rules) in
    let w : s.waiting % 17 ≡ a.n = omega (arith, c.requires.all, c.requires.waiting) in
    rw (l.invariant, step, w, ← c.times_of-times.ensures, ← c.task-x.ensures, ← c.task_fits-fits.ensures, c.if-not-fits.true)
