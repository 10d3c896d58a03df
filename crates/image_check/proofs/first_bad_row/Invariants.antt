use mathlib.Core.Path.{◌≡◌}
use Prim.Native.Nat.{◌-◌}
use Rattle.image_check.specs.Check.{first_of, row_bad, owed_at}
use Rattle.image_check.proofs.first_bad_row.Given as goal

abbrev pub invariant-loop-i : goal.invariant-loop-i
invariant-loop-i l =
    let bad = row_bad l.body l.rows l.channels in
    (l.owed ≡ owed_at l.body l.i) × (first_of bad l.rows 0 ≡ first_of bad (l.rows - l.i) l.i)
