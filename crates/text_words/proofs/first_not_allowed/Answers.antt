use Rattle.std.proofs.Common.{not, rules, tests}
use Rattle.std.proofs.lemmas.Iterator.{YieldsList-from_slice}
use Rattle.std.proofs.lemmas.Iterator.Search.{position_from_yields_List}
use Rattle.text_words.specs.Words.{is_allowed, first_not_allowed}
use Rattle.text_words.proofs.Fronts.{first_place}
use Rattle.text_words.proofs.first_not_allowed.Goals as goal

pub returns-then-any_not_allowed : goal.returns-then-any_not_allowed
unfolding first_not_allowed
returns-then-any_not_allowed c =
    let t = c.args.text.now in
    let e = position_from_yields_List (λ b. not (is_allowed b)) _ _ _ c.position.ensures.ran (YieldsList-from_slice t cc) (λ x b q k. search (rules, tests)) in
    rw (← first_place is_allowed t) e

pub returns-else-any_not_allowed : goal.returns-else-any_not_allowed
unfolding first_not_allowed
returns-else-any_not_allowed c = rw (← c.any_not_allowed.ensures, c.if-any_not_allowed.false)
