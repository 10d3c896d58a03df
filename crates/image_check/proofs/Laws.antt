-- Laws that several proofs of this crate cite. Assumes nothing.
use mathlib.Core.Path.{◌≡◌}
use mathlib.Core.Bool.{Bool, cond}
use mathlib.Core.List.{List}
use Prim.Native.Nat.{ℕ, suc, ◌+◌, ◌-◌, ◌<◌}
use native.Mathlib.Numerals.{add-one}
use native.Mathlib.Omega.{arith}
use Rattle.std.specs.Prelude.{Some}
use Rattle.meaning.specs.Image.{row_no}
use Rattle.meaning.specs.Bytes.{statement_of, fields_of_row}
use Rattle.image_row.specs.Row.{owed_after}
use Rattle.image_check.specs.Check.{first_of, owed_at}

-- One step of a search by number, and of the count of case rows to come.
pub first_step : (bad : ℕ → Bool) (n i : ℕ) → i < n → first_of bad (n - i) i ≡ cond (bad i) (Some i) (first_of bad (n - (i + 1)) (i + 1))
unfolding first_of
first_step bad n i h =
    let e : n - i ≡ suc (n - (i + 1)) = omega arith in
    rw (e, add-one)

pub owed_step : (rs : List ℕ) (i : ℕ) → owed_at rs (i + 1) ≡ owed_after (owed_at rs i) (statement_of (fields_of_row rs (row_no i)))
unfolding owed_at
owed_step rs i = rw add-one
