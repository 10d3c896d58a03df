use Rattle.std.proofs.Common.{◌∙◌}
use borrow.Author.Tests.{eq-eqb, ne_eqb, lt-ltb, le-ltb}
use Rattle.meaning.specs.Text.{Body}
use Rattle.text_reader.specs.Reading.{task_end}
use Rattle.text_reader.specs.Answers.{due_told, told}
use Rattle.text_reader.specs.Laws.Parts.{told_out}
use Rattle.text_jobs.proofs.read_task_end.Goals as goal

pub returns-then-end-ne-END : goal.returns-then-end-ne-END
unfolding task_end due_told
returns-then-end-ne-END c = λ b. rw (← c.word_at-end.ensures, ne_eqb _ _ c.if-end-ne-END.true) (c.misplaced.ensures ∙ told_out Body c.args.text.now c.word_at-end.result)

pub returns-then-from-ge-ROWS : goal.returns-then-from-ge-ROWS
unfolding task_end told due_told
returns-then-from-ge-ROWS c = λ b. rw (c.at.ensures, ← c.word_at-end.ensures, eq-eqb _ _ c.if-end-ne-END.false, le-ltb _ _ c.if-from-ge-ROWS.true)

pub returns : goal.returns
unfolding task_end told due_told
returns c = λ b. rw (← c.word_at-end.ensures, eq-eqb _ _ c.if-end-ne-END.false, lt-ltb _ _ c.if-from-ge-ROWS.false)
