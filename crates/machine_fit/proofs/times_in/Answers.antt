use mathlib.Core.Path.{sym, ◌∙◌}
use native.Mathlib.Omega.{arith}
use borrow.Author.Rules.{rules}
use Rattle.machine_fit.proofs.Laws.{times_past, times_step}
use Rattle.machine_fit.proofs.times_in.Goals.{then-eq, else-eq}
use Rattle.machine_fit.proofs.times_in.Goals as goal

pub loop-i-preserved : goal.loop-i-preserved
loop-i-preserved c =
    let l = c.loop-i in
    let a = c.args in
    let step = times_step a.state.now a.n l.i _ (search rules) (search rules) c.name.ensures a.t in
    elim c.if-eq.branch [
      | then-eq w ↦ (let q = rw (sym c.eq.ensures ∙ w.if-eq.true) at step in rw w.w-is (search rules, omega (arith, l.invariant.1, q)))
      | else-eq w ↦ (let q = rw (sym c.eq.ensures ∙ w.if-eq.false) at step in rw w.w-is (search rules, omega (arith, l.invariant.1, q)))
    ]

pub returns : goal.returns
returns c =
    let l = c.loop-i in
    let a = c.args in
    omega (arith, times_past a.state.now a.n l.i (search rules) a.t, l.invariant.1)
