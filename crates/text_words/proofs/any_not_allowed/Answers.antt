use mathlib.Core.Path.{◌∙◌}
use native.Mathlib.Omega.{arith}
use Rattle.text_words.specs.Words.{is_allowed}
use Rattle.text_words.proofs.Fronts.{stops_more}
use Rattle.text_words.proofs.any_not_allowed.Goals as goal

pub loop-b-preserved : goal.loop-b-preserved
loop-b-preserved c =
    let l = c.loop-b in
    rw c.is_allowed.ensures (stops_more is_allowed _ l.b-index 0 l.any (omega arith) ∙ l.invariant)
