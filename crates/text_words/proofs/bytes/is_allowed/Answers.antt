use Rattle.text_words.specs.Words.{is_allowed}
use Rattle.text_words.proofs.bytes.is_allowed.Goals as goal

pub returns-then-is_letter : goal.returns-then-is_letter
unfolding is_allowed
returns-then-is_letter c = rw (← c.is_letter.ensures, c.if-is_letter.true)

pub returns-then-is_digit : goal.returns-then-is_digit
unfolding is_allowed
returns-then-is_digit c = rw (← c.is_letter.ensures, c.if-is_letter.false, ← c.is_digit.ensures, c.if-is_digit.true)

pub returns : goal.returns
unfolding is_allowed
returns c =
    rw (← c.is_letter.ensures, c.if-is_letter.false, ← c.is_digit.ensures, c.if-is_digit.false) c.is_blank.ensures
