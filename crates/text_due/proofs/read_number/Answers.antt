use borrow.Author.Tests.{eq-eqb, ne_eqb, le-leb, lt-leb}
use Rattle.text_reader.specs.Reading.{number_by}
use Rattle.text_reader.specs.Answers.{due_part}
use Rattle.text_due.proofs.read_number.Goals as goal

pub returns-then-kind-eq-NO_WORD : goal.returns-then-kind-eq-NO_WORD
unfolding number_by due_part
returns-then-kind-eq-NO_WORD c = λ rows. rw (c.at.ensures, ← c.word_at-w.ensures, eq-eqb _ _ c.if-kind-eq-NO_WORD.true)

pub returns-then-kind-ne-NUMBER : goal.returns-then-kind-ne-NUMBER
unfolding number_by due_part
returns-then-kind-ne-NUMBER c = λ rows. rw (c.at-then-kind-ne-NUMBER.ensures, ← c.word_at-w.ensures, ne_eqb _ _ c.if-kind-eq-NO_WORD.false, ne_eqb _ _ c.if-kind-ne-NUMBER.true)

pub returns-then-limit-value : goal.returns-then-limit-value
unfolding number_by due_part
returns-then-limit-value c = λ rows. rw (c.at-then-limit-value.ensures, ← c.word_at-w.ensures, ne_eqb _ _ c.if-kind-eq-NO_WORD.false, eq-eqb _ _ c.if-kind-ne-NUMBER.false, lt-leb _ _ c.if-limit-value.true)

pub returns : goal.returns
unfolding number_by due_part
returns c = λ rows. rw (← c.word_at-w.ensures, ne_eqb _ _ c.if-kind-eq-NO_WORD.false, eq-eqb _ _ c.if-kind-ne-NUMBER.false, le-leb _ _ c.if-limit-value.false)
