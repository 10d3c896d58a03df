use mathlib.Core.Path.{◌≡◌}
use Prim.Native.Nat.{◌^◌, ◌<◌}
use Rattle.text_words.specs.Scan.{digits_from}
use Rattle.text_words.proofs.numbers.digits_from.Given as goal

abbrev pub invariant-loop-i : goal.invariant-loop-i
invariant-loop-i l = (l.value < 2 ^ 32) × (digits_from l.text l.value l.i ≡ digits_from l.text l.before l.at)
