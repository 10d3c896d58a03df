use borrow.Author.Tests.{eq-eqb, ne_eqb, lt-ltb, le-ltb}
use Rattle.std.proofs.lemmas.Result.{err_from_is_err_and}
use Rattle.text_reader.specs.Reading.{bind, case_by}
use Rattle.text_reader.specs.Answers.{due_part, case_part}
use Rattle.text_blocks.proofs.read_case_head.Goals as goal

pub returns-then-w-ne-CASE : goal.returns-then-w-ne-CASE
unfolding bind case_by case_part
returns-then-w-ne-CASE c = λ sub. rw (← c.word_at-w.ensures, ne_eqb _ _ c.if-w-ne-CASE.true)

pub returns-then-left-eq0 : goal.returns-then-left-eq0
unfolding bind case_by case_part
returns-then-left-eq0 c = λ sub. rw (c.at.ensures, ← c.word_at-w.ensures, eq-eqb _ _ c.if-w-ne-CASE.false, eq-eqb _ _ c.if-left-eq0.true)

pub returns-then-from-ge-ROWS : goal.returns-then-from-ge-ROWS
unfolding bind case_by case_part
returns-then-from-ge-ROWS c = λ sub. rw (c.at-then-from-ge-ROWS.ensures, ← c.word_at-w.ensures, eq-eqb _ _ c.if-w-ne-CASE.false, ne_eqb _ _ c.if-left-eq0.false, le-ltb _ _ c.if-from-ge-ROWS.true)

pub returns-in_err-op : goal.returns-in_err-op
unfolding bind case_by case_part due_part
returns-in_err-op c =
    let p = err_from_is_err_and c.from_residual.result c.from_residual.ensures.1 in
    λ sub. rw (p.1, p.2, ← c.word_at-w.ensures, eq-eqb _ _ c.if-w-ne-CASE.false, ne_eqb _ _ c.if-left-eq0.false, lt-ltb _ _ c.if-from-ge-ROWS.false, ← c.word_at.ensures, c.case_op.ensures _ sub, c.in_err-op.was)

pub returns : goal.returns
unfolding case_by case_part due_part
returns c = λ sub. rw (← c.word_at-w.ensures, eq-eqb _ _ c.if-w-ne-CASE.false, ne_eqb _ _ c.if-left-eq0.false, lt-ltb _ _ c.if-from-ge-ROWS.false, ← c.word_at.ensures, c.case_op.ensures _ sub, c.in_ok-op.was)
