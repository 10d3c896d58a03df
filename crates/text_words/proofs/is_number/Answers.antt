use Rattle.text_words.proofs.is_number.Goals as goal

pub returns-then-has_leading_zero : goal.returns-then-has_leading_zero
returns-then-has_leading_zero c = rw (← c.has_leading_zero.ensures, c.if-has_leading_zero.true)

pub returns : goal.returns
returns c = rw (← c.has_leading_zero.ensures, c.if-has_leading_zero.false) c.ends_at.ensures
