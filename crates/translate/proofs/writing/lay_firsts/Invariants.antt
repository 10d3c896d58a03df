use mathlib.Core.Path.{◌≡◌}
use Prim.Native.Nat.{◌+◌, ◌*◌}
use lib.ListN.{length, take, drop}
use lib.Seq.{sets}
use Rattle.translate.specs.Stored.{pairs}
use Rattle.translate.proofs.writing.lay_firsts.Given as goal

abbrev pub invariant-loop-t : goal.invariant-loop-t
invariant-loop-t l =
    (length l.out ≡ length l.initial.out) × (sets l.out (l.base + 2 * l.t) (pairs (drop l.t (take l.tasks l.firsts))) ≡ sets l.initial.out l.base (pairs (take l.tasks l.firsts)))
