-- Laws that several proofs of this crate cite. Assumes nothing.
use mathlib.Core.Path.{◌≡◌}
use mathlib.Core.Bool.{◌&&◌}
use mathlib.Core.List.{List}
use Prim.Native.Nat.{ℕ, suc, ◌+◌, ◌-◌, ◌*◌, ◌≤◌, ◌<◌}
use native.Mathlib.Numerals.{add-one}
use native.Mathlib.Omega.{arith}
use borrow.Author.Tests.{le-leb, lt-leb}
use lib.Dec.{ltb}
use lib.ListN.{length}
use Rattle.image_row.specs.Kinds.{Row}
use Rattle.meaning.specs.Image.{row_no}
use Rattle.meaning.specs.Bytes.{row_size, fields, fields_at, fields_of_row}
use Rattle.image_row.specs.Row.{is_case_row, cases_follow}

-- The fields of a row that the slice holds are its bytes, and those of a row that it does not hold 0.
pub whole_row : (rs : List ℕ) (r : Row) → row_size * r.0 + row_size ≤ length rs → fields_of_row rs r ≡ fields_at rs (row_size * r.0)
unfolding fields_of_row
whole_row rs r h = rw (le-leb _ _ h)

pub cut_row : (rs : List ℕ) (r : Row) → length rs < row_size * r.0 + row_size → fields_of_row rs r ≡ fields 0 0 0 0 0
unfolding fields_of_row
cut_row rs r h = rw (lt-leb _ _ h)

-- One step of the case rows behind a select.
pub follow_step : (rs : List ℕ) (rows k n i : ℕ) → n < k
    → cases_follow rs rows (k - n) i ≡ (ltb i rows && (is_case_row rs (row_no i) && cases_follow rs rows (k - (n + 1)) (i + 1)))
unfolding cases_follow
follow_step rs rows k n i h =
    let e : k - n ≡ suc (k - (n + 1)) = omega arith in
    rw (e, add-one i)
