-- Document 01, 'Shape of the store': "an image opened once and held with its counts while rows are asked of it", which
-- answers "no .. where the row .. isn't there"; so too of a channel's capacity and of a task's first row.
use Rattle.std.specs.Prelude.{cond, List, ℕ, ltb, Option, Some, None, Result, Ok, Err, ⊤}
use Rattle.thin_held.specs.Kinds.{Row, Chan, Task, Statement, Counts, ImageFault, Held}
use Rattle.meaning.specs.Bytes.{body_of, rows_of, capacity_in, first_row_in}
use Rattle.image_rows.specs.Rows.{counts_of}
use Rattle.image_check.specs.Check.{checked}

-- OPENING

-- A refused image opens nothing: no row, no channel, no task.
abbrev pub no_counts : Counts
no_counts = record { rows = 0; channels = 0; tasks = 0; back = 0 }

unfoldable pub counts_held : Result ⊤ ImageFault → Counts → Counts
counts_held (Ok done) k = k
counts_held (Err fault) k = no_counts

unfoldable pub held_of : List ℕ → Held
held_of bs = record { answer = checked bs; counts = counts_held (checked bs) (counts_of bs) }

-- ASKING

unfoldable pub row_asked : List ℕ → Held → Row → Option Statement
row_asked bs h n = cond (ltb n.0 h.counts.rows) (Some (rows_of bs n)) None

unfoldable pub capacity_asked : List ℕ → Held → Chan → Option ℕ
capacity_asked bs h c = cond (ltb c.0 h.counts.channels) (Some (capacity_in (body_of bs) h.counts.rows c)) None

unfoldable pub first_row_asked : List ℕ → Held → Task → Option Row
first_row_asked bs h t = cond (ltb t.0 h.counts.tasks) (Some (first_row_in (body_of bs) h.counts.rows h.counts.channels t)) None

-- OPENED AND ASKED

abbrev pub row_of : List ℕ → Row → Option Statement
row_of bs n = row_asked bs (held_of bs) n

abbrev pub capacity_of : List ℕ → Chan → Option ℕ
capacity_of bs c = capacity_asked bs (held_of bs) c

abbrev pub first_row_of : List ℕ → Task → Option Row
first_row_of bs t = first_row_asked bs (held_of bs) t
