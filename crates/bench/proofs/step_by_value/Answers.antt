use mathlib.Core.Path.{ap}
use Rattle.machine_records.specs.Plans.{Done}
use Rattle.bench.proofs.step_by_value.Goals as goal

pub returns : goal.returns
returns c = ap (λ (d : Done). d.after) c.step_in-m.ensures.same
