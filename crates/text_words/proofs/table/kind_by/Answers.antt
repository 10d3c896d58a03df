use Rattle.std.proofs.Common.{refl, sym, ap, ◌∙◌}
use borrow.Author.Tests.{lt-ltb, le-ltb}
use Rattle.text_keys.specs.Keys.{gathered, found}
use Rattle.text_keys.specs.Laws.Keys.{found_some, found_none}
use Rattle.text_words.specs.Words.{reserved}
use Rattle.text_words.specs.Scan.{kind_by}
use Rattle.text_words.proofs.Keys.{table_place}
use Rattle.text_words.proofs.table.kind_by.Goals as goal

pub returns-in-Some : goal.returns-in-Some
unfolding kind_by reserved gathered
returns-in-Some c =
    let a = c.args in
    let f = found_some _ (sym c.in-Some.is ∙ c.place_in.ensures ∙ ap found (table_place _ refl _ refl a.key a.length)) in
    rw (lt-ltb _ _ f.1, f.0)

pub returns-in-None : goal.returns-in-None
unfolding kind_by reserved gathered
returns-in-None c =
    let a = c.args in
    let f = found_none _ (sym c.in-None.is ∙ c.place_in.ensures ∙ ap found (table_place _ refl _ refl a.key a.length)) in
    rw (le-ltb _ _ f)
