use native.Mathlib.Numerals.{towards_suc}
use borrow.Author.Tests.{lt-ltb, le-ltb}
use Rattle.translate_notes.specs.Notes.{noted}
use Rattle.translate_notes.proofs.note.Goals as goal

pub returns-then-row-lt-ROWS : goal.returns-then-row-lt-ROWS
unfolding noted
returns-then-row-lt-ROWS c = rw (lt-ltb _ _ c.if-row-lt-ROWS.true) (simp towards_suc)

pub returns-else-row-lt-ROWS : goal.returns-else-row-lt-ROWS
unfolding noted
returns-else-row-lt-ROWS c = rw (le-ltb _ _ c.if-row-lt-ROWS.false)
