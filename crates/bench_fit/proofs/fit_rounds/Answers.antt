use Rattle.std.proofs.Common.{◌≡◌, ℕ, ◌+◌, ◌-◌, ◌%◌, cond, replicate, sym, ◌∙◌, arith}
use Rattle.machine_store.specs.declared.State.{State}
use Rattle.machine_fit.specs.Fitted.{fitting_in}
use Rattle.bench_fit.specs.FitRounds.{fit_rounds}
use Rattle.bench_fit.specs.Laws.FitRounds.{fit_round}
use Rattle.bench_fit.proofs.fit_rounds.Goals.{then-fits, else-fits}
use Rattle.bench_fit.proofs.fit_rounds.Goals as goal

pub loop-asked-preserved : goal.loop-asked-preserved
loop-asked-preserved c =
    let a = c.args in
    let l = c.loop-asked in
    let rounds : ℕ → ℕ → State → ℕ = λ n count s. fit_rounds a.body.now a.k n count s.words s.cells in
    let n : ℕ = a.n - (l.asked + 1) in
    let cleared : State = record { words = replicate 33 0; cells = replicate 181 0 } in
    let left : a.n - l.asked - 1 ≡ n = omega arith in
    let round = rw left at (fit_round a.body.now a.k (a.n - l.asked) l.count l.state.words l.state.cells (omega arith)) in
    let told : cond (fitting_in a.body.now a.k l.state.words l.state.cells) (rounds n ((l.count + 1) % 65536) l.state) (rounds n l.count cleared) ≡ rounds n c.if-fits.count c.if-fits.state =
    elim c.if-fits.branch [
      | then-fits w ↦ rw (← c.fits.ensures, w.if-fits.true, w.count-is, w.state-is)
      | else-fits w ↦ rw (← c.fits.ensures, w.if-fits.false, w.count-is, w.state-is)
    ] in
    l.invariant ∙ round ∙ told

pub returns : goal.returns
unfolding fit_rounds
returns c =
    let l = c.loop-asked in
    let none : c.args.n - l.asked ≡ 0 = omega arith in
    sym (rw none at l.invariant)
