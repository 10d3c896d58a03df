use mathlib.Core.Path.{ap, ◌∙◌}
use Rattle.machine.specs.declared.Started.{Started}
use Rattle.machine_store.specs.Store.{records_of}
use Rattle.bench.proofs.bench_start.Goals as goal

pub returns : goal.returns
returns c = c.stamp.ensures ∙ ap (λ (b : Started). (records_of b.state).stamp) c.start-begun.ensures.0
