use Rattle.std.proofs.Common.{◌∙◌}
use borrow.Author.Tests.{eq-eqb, ne_eqb}
use Rattle.meaning.specs.Text.{Stmt}
use Rattle.text_reader.specs.Reading.{closed_by}
use Rattle.text_reader.specs.Answers.{told, due_told}
use Rattle.text_reader.specs.Laws.Parts.{told_out}
use Rattle.text_blocks.proofs.read_end.Goals as goal

pub returns-then-w-ne-END : goal.returns-then-w-ne-END
unfolding closed_by due_told
returns-then-w-ne-END c = λ x. rw (← c.word_at-w.ensures, ne_eqb _ _ c.if-w-ne-END.true) (c.misplaced.ensures ∙ told_out Stmt c.args.text.now c.word_at-w.result)

pub returns : goal.returns
unfolding closed_by told due_told
returns c = λ x. rw (← c.word_at-w.ensures, eq-eqb _ _ c.if-w-ne-END.false)
