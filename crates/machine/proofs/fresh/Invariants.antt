use mathlib.Core.Path.{◌≡◌}
use Rattle.machine_store.specs.Store.{records_of, Plain, Whole}
use Rattle.machine.specs.Public.{fresh_tasks, fresh_records}
use Rattle.machine.proofs.fresh.Given as goal

-- the first t tasks stand at their first rows
abbrev pub invariant-loop-t : goal.invariant-loop-t
invariant-loop-t l =
    (records_of l.state ≡ fresh_records (fresh_tasks l.body l.k l.t) l.k.tasks l.k.channels) × (Plain l.state.cells × Whole l.state)
