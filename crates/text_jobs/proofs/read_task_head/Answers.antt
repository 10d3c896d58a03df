use borrow.Author.Tests.{eq-eqb, ne_eqb}
use Rattle.text_reader.specs.Answers.{told_as, task_head}
use Rattle.text_jobs.proofs.read_task_head.Goals as goal

pub returns-then-w-eq-NO_WORD : goal.returns-then-w-eq-NO_WORD
unfolding task_head told_as
returns-then-w-eq-NO_WORD c = rw (← c.word_at-w.ensures, c.if-w-eq-NO_WORD.true)

pub returns-then-w-ne-TASK : goal.returns-then-w-ne-TASK
unfolding task_head told_as
returns-then-w-ne-TASK c = rw (c.at.ensures, ← c.word_at-w.ensures, ne_eqb _ _ c.if-w-ne-TASK.true, ne_eqb _ _ c.if-w-eq-NO_WORD.false)

pub returns-then-left-eq0 : goal.returns-then-left-eq0
unfolding task_head told_as
returns-then-left-eq0 c = rw (c.at-then-left-eq0.ensures, ← c.word_at-w.ensures, eq-eqb _ _ c.if-w-ne-TASK.false, eq-eqb _ _ c.if-left-eq0.true)

pub returns : goal.returns
unfolding task_head told_as
returns c = rw (← c.word_at-w.ensures, eq-eqb _ _ c.if-w-ne-TASK.false, ne_eqb _ _ c.if-left-eq0.false)
