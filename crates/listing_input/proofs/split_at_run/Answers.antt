use Rattle.std.proofs.Common.{◌≡◌, ℕ, sym, ◌∙◌, ◌-◌, length}
use Rattle.std.proofs.Math.Seq.{take-length}
use Rattle.std.proofs.Common.{length-drop, take, drop, List}
use Rattle.listing_input.specs.Input.{split_of}
use Rattle.listing_input.specs.Laws.Input.{text_more, text_stop}
use Rattle.listing_input.proofs.split_at_run.Goals as goal

-- A slice from a place on is all that stands behind it.
to_the_end : (l : List ℕ) (i : ℕ) → take (length l - i) (drop i l) ≡ drop i l
to_the_end l i = rw (← length-drop i l) (take-length (drop i l))

pub returns-then-begins_run : goal.returns-then-begins_run
unfolding split_of
returns-then-begins_run c =
    let a = c.args in
    let l = c.loop-i in
    let e = text_stop a.input.now l.begins l.i c.loop-i-test.true (rw (to_the_end a.input.now l.i) at (sym c.begins_run.ensures ∙ c.if-begins_run.true)) ∙ l.invariant in
    rw (c.min.ensures, ← e)

pub loop-i-preserved : goal.loop-i-preserved
loop-i-preserved c =
    let a = c.args in
    let l = c.loop-i in
    text_more a.input.now l.begins l.i c.loop-i-test.true (rw (to_the_end a.input.now l.i) at (sym c.begins_run.ensures ∙ c.if-begins_run.false)) ∙ l.invariant
