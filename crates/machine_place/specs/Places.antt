-- `record_fits` (machine_records/specs/Fitting) of a task that is named so often, its row asked first.
use Rattle.std.specs.Prelude.{Bool, ◌&&◌, List, ℕ, eqb}
use Rattle.machine_place.specs.Kinds.{Row, Status, TaskState}
use Rattle.meaning.specs.Bytes.{rows_in}
use Rattle.image_row.specs.Row.{is_target}
use Rattle.meaning_laws.specs.Fits.{mark}
use Rattle.machine_records.specs.Fitting.{place_fits}

module _ (rs : List ℕ) where
  abbrev pub place_named : Row → Status → ℕ → Bool
  place_named row status n = eqb n (mark status) && place_fits status (rows_in rs row)

  abbrev pub record_named : ℕ → TaskState → ℕ → Bool
  record_named rows x n = is_target rs rows x.row && place_named x.row x.status n
