use Rattle.machine_store.specs.Store.{records_of}
use Rattle.machine_records.specs.Rules.{row_ready, ready_rows}
use Rattle.machine_records.specs.Cells.{keep}
use Rattle.meaning.specs.Bytes.{tabulate}
use lib.ListN.{length}
use Prim.Native.Nat.{◌≤◌, ◌-◌, ◌+◌}
use mathlib.Core.Path.{◌≡◌}
use Rattle.machine_select.proofs.count_ready.Given as goal

-- the ready rows are those counted among the first i, and those behind
abbrev pub invariant-loop-i : goal.invariant-loop-i
invariant-loop-i l = (l.w ≤ l.i) × (length (ready_rows l.body l.rows (records_of l.state) l.k l.first) ≡ l.w + length (keep (row_ready l.body l.rows (records_of l.state)) (tabulate (λ j. j) (l.k - l.i) (l.first + l.i))))
