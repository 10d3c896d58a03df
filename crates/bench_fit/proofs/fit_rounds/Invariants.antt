use Rattle.std.proofs.Common.{◌≡◌, ◌-◌}
use Rattle.bench_fit.specs.FitRounds.{fit_rounds}
use Rattle.bench_fit.proofs.fit_rounds.Given as goal

abbrev pub invariant-loop-asked : goal.invariant-loop-asked
invariant-loop-asked l = fit_rounds l.body l.k l.n 0 l.initial.state.words l.initial.state.cells ≡ fit_rounds l.body l.k (l.n - l.asked) l.count l.state.words l.state.cells
