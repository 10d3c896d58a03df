use mathlib.Core.Path.{◌≡◌}
use Prim.Native.Nat.{◌+◌}
use lib.ListN.{drop}
use Rattle.text_words.specs.Words.{is_blank, run}
use Rattle.text_words.proofs.skip_blanks.Given as goal

abbrev pub invariant-loop-i : goal.invariant-loop-i
invariant-loop-i l = l.i + run is_blank (drop l.i l.text) ≡ l.at + run is_blank (drop l.at l.text)
