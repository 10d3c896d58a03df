-- What the trailer says, as one record; and a row stored in a buffer that an image begins.
use Rattle.std.specs.Prelude.{cond, List, ℕ, ◌+◌, ◌*◌, leb, length}
use Rattle.std.proofs.lemmas.List.Edits.{sets}
use Rattle.image_rows.specs.Kinds.{Row, Statement, Fields, Counts}
use Rattle.meaning.specs.Bytes.{row_size, fields_of, bytes_of, byte_at, two_at, trailer_of}

unfoldable pub counts_in : List ℕ → Counts
counts_in t = record { rows = two_at t 0; channels = byte_at t 2; tasks = byte_at t 3; back = two_at t 4 }

unfoldable pub counts_of : List ℕ → Counts
counts_of bs = counts_in (trailer_of bs)

-- The eight bytes of row r, by its fields or by its statement, every other byte as it was; nothing where they would pass the
-- buffer's end.
unfoldable pub fields_put : List ℕ → Row → Fields → List ℕ
fields_put out r f = cond (leb (row_size * r.0 + row_size) (length out)) (sets out (row_size * r.0) (bytes_of f)) out

unfoldable pub row_put : List ℕ → Row → Statement → List ℕ
row_put out r s = fields_put out r (fields_of s)
