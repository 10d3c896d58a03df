use mathlib.Core.Path.{◌≡◌}
use lib.ListN.{drop}
use Rattle.text_keys.specs.Keys.{gathered, key_of}
use Rattle.text_keys.proofs.key_of_row.Given as goal

abbrev pub invariant-loop-b : goal.invariant-loop-b
invariant-loop-b l = gathered l.key (drop l.b-index l.b-items) ≡ key_of l.fn.row
