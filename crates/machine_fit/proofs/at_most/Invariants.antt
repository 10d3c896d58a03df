use mathlib.Core.Path.{◌≡◌}
use mathlib.Core.Bool.{◌&&◌}
use Prim.Native.Nat.{◌+◌, ◌-◌}
use lib.Dec.{leb}
use lib.ListN.{get_or}
use Rattle.machine_records.specs.Fitting.{every}
use Rattle.machine_fit.specs.Fitted.{all_at_most}
use Rattle.machine_fit.proofs.at_most.Given as goal

-- the largest of the first i cells tells of them
abbrev pub invariant-loop-i : goal.invariant-loop-i
invariant-loop-i l =
    all_at_most l.cells l.from l.n l.top ≡ (leb l.most l.top && every (λ j. leb (get_or l.cells (l.from + j) 0) l.top) (l.n - l.i) l.i)
