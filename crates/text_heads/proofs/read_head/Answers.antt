use borrow.Author.Tests.{lt-ltb, le-ltb}
use Rattle.text_reader.specs.Answers.{part_of, head_by}
use Rattle.text_heads.proofs.read_head.Goals as goal

pub returns-then-not-is_statement : goal.returns-then-not-is_statement
unfolding head_by part_of
returns-then-not-is_statement c = rw (← c.word_at-w.ensures, ← c.is_statement.ensures, c.if-not-is_statement.true)

pub returns-then-is_too_deep : goal.returns-then-is_too_deep
unfolding head_by part_of
returns-then-is_too_deep c = rw (c.at.ensures, ← c.word_at-w.ensures, ← c.is_statement.ensures, c.if-not-is_statement.false, ← c.is_too_deep.ensures, c.if-is_too_deep.true)

pub returns-then-from-ge-ROWS : goal.returns-then-from-ge-ROWS
unfolding head_by part_of
returns-then-from-ge-ROWS c = rw (c.at-then-from-ge-ROWS.ensures, ← c.word_at-w.ensures, ← c.is_statement.ensures, c.if-not-is_statement.false, ← c.is_too_deep.ensures, c.if-is_too_deep.false, le-ltb _ _ c.if-from-ge-ROWS.true)

pub returns : goal.returns
unfolding head_by part_of
returns c = rw (← c.word_at-w.ensures, ← c.is_statement.ensures, c.if-not-is_statement.false, ← c.is_too_deep.ensures, c.if-is_too_deep.false, lt-ltb _ _ c.if-from-ge-ROWS.false) c.read_operands.ensures
