use mathlib.Core.Path.{◌≡◌, sym, ◌∙◌}
use native.Mathlib.Omega.{arith}
use borrow.Author.Tests.{eq-eqb}
use lib.ListN.{drop}
use Rattle.text_words.specs.Words.{in_word, run}
use Rattle.text_words.specs.Laws.Words.{run_end}
use Rattle.text_words.proofs.Fronts.{ends_here}
use Rattle.text_words.proofs.ends_at.Goals as goal

pub returns-then-at-text : goal.returns-then-at-text
returns-then-at-text c =
    let a = c.args in
    c.is_blank.ensures ∙ ends_here a.text.now a.at c.if-at-text.true

pub returns-else-at-text : goal.returns-else-at-text
returns-else-at-text c =
    let a = c.args in
    let t = a.text.now in
    let e : run in_word (drop a.at t) ≡ 0 = omega (arith, run_end in_word t a.at c.if-at-text.false) in
    sym (eq-eqb _ _ e)
