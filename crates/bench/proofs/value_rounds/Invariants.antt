use Rattle.std.proofs.Common.{◌-◌}
use Rattle.machine_store.specs.Store.{records_of}
use Rattle.machine_records.specs.Step.{stepped}
use Rattle.bench.specs.Laws.Bench.{Rounds}
use Rattle.bench.proofs.value_rounds.Given as goal

abbrev pub invariant-loop-made : goal.invariant-loop-made
invariant-loop-made l = Rounds l.n (l.n - l.made) l.stamp (records_of l.from).stamp (stepped l.body l.rows (records_of l.from) l.values l.t l.choice).after.stamp
