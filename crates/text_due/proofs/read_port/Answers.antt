use borrow.Author.Tests.{eq-eqb, ne_eqb, lt-ltb, le-ltb}
use Rattle.text_reader.specs.Reading.{port_by}
use Rattle.text_reader.specs.Answers.{due_part}
use Rattle.text_due.proofs.read_port.Goals as goal

pub returns-then-kind-eq-NO_WORD : goal.returns-then-kind-eq-NO_WORD
unfolding port_by due_part
returns-then-kind-eq-NO_WORD c = λ rows. rw (c.at.ensures, ← c.word_at-w.ensures, eq-eqb _ _ c.if-kind-eq-NO_WORD.true)

pub returns-then-kind-eq-NIL : goal.returns-then-kind-eq-NIL
unfolding port_by due_part
returns-then-kind-eq-NIL c = λ rows. rw (← c.word_at-w.ensures, ne_eqb _ _ c.if-kind-eq-NO_WORD.false, eq-eqb _ _ c.if-kind-eq-NIL.true)

pub returns-then-kind-ne-NUMBER : goal.returns-then-kind-ne-NUMBER
unfolding port_by due_part
returns-then-kind-ne-NUMBER c = λ rows. rw (c.at-then-kind-ne-NUMBER.ensures, ← c.word_at-w.ensures, ne_eqb _ _ c.if-kind-eq-NO_WORD.false, ne_eqb _ _ c.if-kind-eq-NIL.false, ne_eqb _ _ c.if-kind-ne-NUMBER.true)

pub returns-then-channels-value : goal.returns-then-channels-value
unfolding port_by due_part
returns-then-channels-value c = λ rows. rw (c.at-then-channels-value.ensures, ← c.word_at-w.ensures, ne_eqb _ _ c.if-kind-eq-NO_WORD.false, ne_eqb _ _ c.if-kind-eq-NIL.false, eq-eqb _ _ c.if-kind-ne-NUMBER.false, le-ltb _ _ c.if-channels-value.true)

pub returns : goal.returns
unfolding port_by due_part
returns c = λ rows. rw (← c.word_at-w.ensures, ne_eqb _ _ c.if-kind-eq-NO_WORD.false, ne_eqb _ _ c.if-kind-eq-NIL.false, eq-eqb _ _ c.if-kind-ne-NUMBER.false, lt-ltb _ _ c.if-channels-value.false)
