use mathlib.Core.Path.{◌≡◌}
use Prim.Native.Nat.{◌-◌}
use Rattle.image_check.specs.Check.{first_of, capacity_bad}
use Rattle.image_check.proofs.first_bad_capacity.Given as goal

abbrev pub invariant-loop-c : goal.invariant-loop-c
invariant-loop-c l =
    let bad = capacity_bad l.body l.rows in
    first_of bad l.channels 0 ≡ first_of bad (l.channels - l.c) l.c
