use mathlib.Core.Path.{◌≡◌}
use mathlib.Core.Bool.{◌||◌}
use lib.ListN.{drop}
use Rattle.text_words.specs.Words.{is_allowed}
use Rattle.text_words.proofs.Fronts.{Stops}
use Rattle.text_words.proofs.any_not_allowed.Given as goal

abbrev pub invariant-loop-b : goal.invariant-loop-b
invariant-loop-b l = (l.any || Stops is_allowed (drop l.b-index l.text)) ≡ Stops is_allowed l.text
