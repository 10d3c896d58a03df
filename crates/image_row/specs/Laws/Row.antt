-- In a slice that holds every row, a row passes exactly where it is good.
use Rattle.std.specs.Prelude.{◌≡◌, List, ℕ, ◌*◌, ◌≤◌, ◌<◌, length}
use Rattle.std.proofs.Common.{le-leb, lt-ltb}
use Rattle.image_row.specs.Kinds.{Row}
use Rattle.meaning.specs.Bytes.{row_size, fields_of_row}
use Rattle.image_row.specs.Row.{row_good, row_passes}

pub held_passes : (rs : List ℕ) (rows channels : ℕ) (i : Row) (owed : ℕ) → row_size * rows ≤ length rs → i.0 < rows
    → row_passes rs rows channels i owed ≡ row_good rs rows channels i.0 owed (fields_of_row rs i)
unfolding row_passes
held_passes rs rows channels i owed h k = rw (le-leb _ _ h, lt-ltb _ _ k)
