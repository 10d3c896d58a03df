use mathlib.Core.Path.{◌≡◌}
use Prim.Native.Nat.{ℕ, ◌+◌, ◌-◌, ◌≤◌, ◌<◌}
use lib.ListN.{length, get_or}
use Rattle.meaning.specs.Image.{task_no}
use Rattle.machine_records.specs.Fitting.{every, name_fits}
use Rattle.machine_store.specs.Store.{records_of}
use Rattle.machine_fit.proofs.Laws.{times_from}
use Rattle.machine_fit.proofs.names_fit.Given as goal

abbrev pub invariant-loop-i : goal.invariant-loop-i
invariant-loop-i l =
    (length l.named ≡ 16)
    × ((t : ℕ) → get_or l.named t 0 ≤ l.i)
    × (every (name_fits l.k (records_of l.state)) l.n 0 ≡ every (name_fits l.k (records_of l.state)) (l.n - l.i) l.i)
    × (l.k.tasks ≤ 16 → (t : ℕ) → t < 16 → times_from l.state l.n 0 (task_no t) ≡ get_or l.named t 0 + times_from l.state l.n l.i (task_no t))
