use mathlib.Core.Path.{◌≡◌, sym, ◌∙◌}
use native.Mathlib.Omega.{arith}
use Rattle.text_words.proofs.Fronts.{ends_here, ends_past}
use Rattle.text_words.proofs.Keys.{letters_more, letters_end}
use Rattle.text_words.proofs.letters_from.Goals as goal

pub loop-i-preserved : goal.loop-i-preserved
loop-i-preserved c =
    let l = c.loop-i in
    let t = c.args.text.now in
    let e = sym (ends_here t l.i (omega arith)) ∙ sym c.is_blank.ensures ∙ c.if-is_blank.false in
    rw c.key_more-key.ensures (letters_more t l.key l.i e ∙ l.invariant)

pub returns-then-is_blank : goal.returns-then-is_blank
returns-then-is_blank c =
    let l = c.loop-i in
    let t = c.args.text.now in
    letters_end t l.key l.i (sym (ends_here t l.i (omega arith)) ∙ sym c.is_blank.ensures ∙ c.if-is_blank.true) ∙ l.invariant

pub returns : goal.returns
returns c =
    let l = c.loop-i in
    let t = c.args.text.now in
    let e : c.max-end.result ≡ l.i = omega arith in
    rw e (letters_end t l.key l.i (sym (ends_past t l.i (omega arith))) ∙ l.invariant)
