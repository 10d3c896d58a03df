use mathlib.Core.Path.{◌≡◌}
use Prim.Native.Nat.{◌-◌}
use Rattle.image_check.specs.Check.{first_of, first_row_bad}
use Rattle.image_check.proofs.first_bad_first_row.Given as goal

abbrev pub invariant-loop-t : goal.invariant-loop-t
invariant-loop-t l =
    let bad = first_row_bad l.body l.rows l.channels in
    first_of bad l.tasks 0 ≡ first_of bad (l.tasks - l.t) l.t
