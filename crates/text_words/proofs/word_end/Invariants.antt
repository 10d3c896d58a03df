use mathlib.Core.Path.{◌≡◌}
use Prim.Native.Nat.{◌+◌}
use lib.ListN.{drop}
use Rattle.text_words.specs.Words.{in_word, run}
use Rattle.text_words.proofs.word_end.Given as goal

abbrev pub invariant-loop-i : goal.invariant-loop-i
invariant-loop-i l = l.i + run in_word (drop l.i l.text) ≡ l.at + run in_word (drop l.at l.text)
