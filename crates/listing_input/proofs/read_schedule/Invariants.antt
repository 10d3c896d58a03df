use mathlib.Core.Path.{◌≡◌}
use Prim.Native.Nat.{◌≤◌, ◌-◌}
use lib.ListN.{length}
use Rattle.listing_input.specs.Input.{judged, words_from, schedule_of}
use Rattle.listing_input.proofs.read_schedule.Given as goal

abbrev pub invariant-loop-w : goal.invariant-loop-w
invariant-loop-w l = (l.n ≤ l.at) × ((l.at ≤ length l.rest) × (judged l.n (words_from (length l.rest - l.n) l.rest l.at) ≡ schedule_of l.rest))

abbrev pub decreases-loop-w : goal.decreases-loop-w
decreases-loop-w l = length l.rest - l.at
