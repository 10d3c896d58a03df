use mathlib.Core.Path.{sym, ◌∙◌}
use native.Mathlib.Omega.{arith}
use borrow.Author.Rules.{rules}
use Rattle.text_words.proofs.Firsts.{next_is, number_word, other_word}
use Rattle.text_words.proofs.number_at.Goals as goal

pub value_more-requires : goal.value_more-requires
value_more-requires c = (search rules, c.requires.1)

pub digits_from-digits-requires : goal.digits_from-digits-requires
digits_from-digits-requires c = c.value_more.ensures.1

pub overflow_sub-n : goal.overflow_sub-n
overflow_sub-n c =
    let a = c.args in
    let p = c.requires in
    omega (arith, next_is a.text.now a.start p.0 p.1 c.value_more.ensures.0 c.digits_from-digits.ensures)

pub returns-then-is_number : goal.returns-then-is_number
returns-then-is_number c =
    let a = c.args in
    let p = c.requires in
    let t = sym c.is_number.ensures ∙ c.if-is_number.true in
    rw c.value_by.ensures (number_word a.text.now a.start p.0 p.1 c.value_more.ensures.0 c.digits_from-digits.ensures t)

pub returns : goal.returns
returns c =
    let a = c.args in
    let p = c.requires in
    let t = sym c.is_number.ensures ∙ c.if-is_number.false in
    rw c.word_end.ensures (other_word a.text.now a.start p.0 p.1 c.value_more.ensures.0 c.digits_from-digits.ensures t)
