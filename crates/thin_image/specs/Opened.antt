-- Document 01, 'Shape of the store': the image opened is the slice and what is held of it (thin_held/specs/Asked).
use Rattle.std.specs.Prelude.{List, ℕ}
use Rattle.std.specs.Borrow.{Bor}
use Rattle.thin_image.specs.Kinds.{Row, Chan, Task, Held, Opened, Answers}
use Rattle.image_check.specs.Check.{checked}
use Rattle.thin_held.specs.Asked.{held_of, row_of, capacity_of, first_row_of}

abbrev pub opened_of : Bor (List ℕ) → Opened
opened_of s = record { image = s; held = held_of s.now }

-- The bytes of an opened image, and what is held of it.
abbrev pub bytes_of : Opened → List ℕ
bytes_of o = o.image.now

abbrev pub held_by : Opened → Held
held_by o = o.held

-- A question of each kind, of one image.
abbrev pub answers_of : List ℕ → Row → Chan → Task → Answers
answers_of bs n c t = record { check = checked bs; row = row_of bs n; capacity = capacity_of bs c; start = first_row_of bs t }
