use mathlib.Core.Path.{◌≡◌, sym, ◌∙◌}
use native.Mathlib.Omega.{arith}
use Rattle.text_words.proofs.Decimals.{digits_more, digits_stop, digits_end}
use Rattle.text_words.proofs.numbers.digits_from.Goals as goal

pub loop-i-preserved : goal.loop-i-preserved
loop-i-preserved c =
    let l = c.loop-i in
    let e = sym c.is_digit.ensures ∙ c.if-not-is_digit.false in
    (c.value_more-value.ensures.1, rw c.value_more-value.ensures.0 (digits_more _ l.value l.i (omega arith) e ∙ l.invariant.1))

pub returns-then-not-is_digit : goal.returns-then-not-is_digit
returns-then-not-is_digit c =
    let l = c.loop-i in
    digits_stop _ l.value l.i l.invariant.0 (omega arith) (sym c.is_digit.ensures ∙ c.if-not-is_digit.true) ∙ l.invariant.1

pub returns : goal.returns
returns c =
    let l = c.loop-i in
    let e : c.max-end.result ≡ l.i = omega arith in
    rw e (digits_end _ l.value l.i l.invariant.0 (omega arith) ∙ l.invariant.1)
