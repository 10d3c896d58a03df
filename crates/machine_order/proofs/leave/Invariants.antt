use mathlib.Core.Path.{◌≡◌}
use Prim.Native.Nat.{◌≤◌}
use lib.ListN.{length, take}
use Rattle.machine_records.specs.Cells.{over, keep}
use Rattle.machine_records.specs.Records.{other, no_tasks}
use Rattle.machine_store.specs.Store.{records_of}
use Rattle.machine_order.proofs.leave.Given as goal

-- of the first i names those of other tasks are kept
abbrev pub invariant-loop-i : goal.invariant-loop-i
invariant-loop-i l =
    (l.w ≤ l.i) × ((l.kept ≡ over (keep (other l.t) (take l.i (records_of l.state).order)) no_tasks) × (l.w ≡ length (keep (other l.t) (take l.i (records_of l.state).order))))
