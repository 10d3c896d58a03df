use mathlib.Core.Path.{◌≡◌, sym, ◌∙◌}
use native.Mathlib.Omega.{arith}
use borrow.Author.Tests.{eq-eqb, ne_eqb, lt-ltb}
use Rattle.text_keys.specs.Keys.{row_key, row_size, place_in}
use Rattle.text_keys.proofs.Laws.{search_more, search_found, search_none}
use Rattle.text_keys.proofs.place_in.Goals as goal

pub returns-then-length-wide : goal.returns-then-length-wide
unfolding place_in
returns-then-length-wide c =
    let l = c.loop-k in
    let h = c.loop-k-test.true in
    let a = c.args in
    let e = c.if-key-key_of.true ∙ c.key_of.ensures in
    let same = c.if-length-wide.true ∙ c.wide.ensures in
    rw (search_found (row_key a.words a.lengths) a.key l.k (row_size a.lengths) a.length l.invariant h e, eq-eqb _ _ same, lt-ltb _ _ h)

pub returns-else-length-wide : goal.returns-else-length-wide
unfolding place_in
returns-else-length-wide c =
    let l = c.loop-k in
    let h = c.loop-k-test.true in
    let a = c.args in
    let e = c.if-key-key_of.true ∙ c.key_of.ensures in
    rw (search_found (row_key a.words a.lengths) a.key l.k (row_size a.lengths) a.length l.invariant h e, ne_eqb a.length (row_size a.lengths l.k) (λ z. c.if-length-wide.false (z ∙ sym c.wide.ensures)))

pub loop-k-preserved : goal.loop-k-preserved
loop-k-preserved c =
    let l = c.loop-k in
    let a = c.args in
    search_more (row_key a.words a.lengths) a.key l.k c.loop-k-test.true (λ e. c.if-key-key_of.false (e ∙ sym c.key_of.ensures)) ∙ l.invariant

pub returns : goal.returns
unfolding place_in
returns c =
    let l = c.loop-k in
    let a = c.args in
    let e : l.k ≡ 16 = omega arith in
    rw (← search_none (row_key a.words a.lengths) a.key l.k (row_size a.lengths) a.length l.invariant e, e)
