use mathlib.Core.Path.{◌≡◌}
use Rattle.text_keys.specs.Keys.{row_key}
use Rattle.text_keys.proofs.Laws.{found_from}
use Rattle.text_keys.proofs.place_in.Given as goal

abbrev pub invariant-loop-k : goal.invariant-loop-k
invariant-loop-k l = found_from (row_key l.words l.lengths) l.key l.k ≡ found_from (row_key l.words l.lengths) l.key 0
