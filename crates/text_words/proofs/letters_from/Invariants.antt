use mathlib.Core.Path.{◌≡◌}
use Rattle.text_words.specs.Scan.{letters_from}
use Rattle.text_words.proofs.letters_from.Given as goal

abbrev pub invariant-loop-i : goal.invariant-loop-i
invariant-loop-i l = letters_from l.text l.key l.i ≡ letters_from l.text l.before l.at
