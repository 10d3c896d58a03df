use mathlib.Core.Path.{◌≡◌}
use Prim.Native.Nat.{◌+◌, ◌≤◌}
use Rattle.machine_fit.proofs.Laws.{times_from}
use Rattle.machine_fit.proofs.times_in.Given as goal

abbrev pub invariant-loop-i : goal.invariant-loop-i
invariant-loop-i l = (l.w ≤ l.i) × (times_from l.state l.n 0 l.t ≡ l.w + times_from l.state l.n l.i l.t)
