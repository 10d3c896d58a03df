use Rattle.machine_store.specs.Store.{records_of}
use Rattle.machine_records.specs.Rules.{row_ready, ready_rows}
use Rattle.machine_records.specs.Cells.{keep}
use Rattle.meaning.specs.Bytes.{tabulate}
use lib.ListN.{get_or}
use Prim.Native.Nat.{◌-◌, ◌+◌}
use mathlib.Core.Path.{◌≡◌}
use Rattle.machine_select.proofs.nth_ready.Given as goal

-- the row sought is the one with number `left` among the ready ones behind the first i
abbrev pub invariant-loop-i : goal.invariant-loop-i
invariant-loop-i l = get_or (ready_rows l.body l.rows (records_of l.state) l.k l.first) l.nth 0 ≡ get_or (keep (row_ready l.body l.rows (records_of l.state)) (tabulate (λ j. j) (l.k - l.i) (l.first + l.i))) l.left 0
