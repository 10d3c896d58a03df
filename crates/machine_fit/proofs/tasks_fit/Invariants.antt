use mathlib.Core.Path.{◌≡◌}
use Prim.Native.Nat.{◌-◌}
use Rattle.machine_records.specs.Fitting.{every, task_fits}
use Rattle.machine_store.specs.Store.{records_of}
use Rattle.machine_fit.proofs.tasks_fit.Given as goal

abbrev pub invariant-loop-i : goal.invariant-loop-i
invariant-loop-i l =
    every (task_fits l.body l.k (records_of l.state)) l.k.tasks 0 ≡ every (task_fits l.body l.k (records_of l.state)) (l.k.tasks - l.i) l.i
