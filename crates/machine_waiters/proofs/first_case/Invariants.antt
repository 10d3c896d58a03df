use mathlib.Core.Path.{◌≡◌}
use Prim.Native.Nat.{◌-◌, ◌+◌}
use Rattle.machine_waiters.specs.Served.{first_serving}
use Rattle.machine_waiters.proofs.first_case.Given as goal

-- what the rows ahead of row i leave to be found
abbrev pub invariant-loop-i : goal.invariant-loop-i
invariant-loop-i l = first_serving l.body l.side l.c l.k l.first ≡ first_serving l.body l.side l.c (l.k - l.i) (l.first + l.i)
