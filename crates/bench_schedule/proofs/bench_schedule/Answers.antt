use mathlib.Core.Path.{ap, ◌∙◌}
use Rattle.machine_turns.specs.declared.Scheduled.{Scheduled}
use Rattle.bench_schedule.specs.Number.{number_of}
use Rattle.bench_schedule.proofs.bench_schedule.Goals as goal

pub returns : goal.returns
returns c =
    let made = c.schedule-made.ensures in
    let fresh = c.fresh_values-values.ensures in
    let begun = c.start-begun.ensures.0 in
    (rw (← begun) (c.number_of.ensures ∙ ap (λ (z : Scheduled). number_of z.outcome) made.0), rw (← begun, ← fresh) made.2)
