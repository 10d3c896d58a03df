-- Rows stored in two goes are rows stored in one, and the buffer keeps its length.
use Rattle.std.specs.Prelude.{◌≡◌, refl, Bool, true, false, cond, List, [], ◌∷◌, ◌++◌, ℕ, zero, suc, ◌+◌, ◌*◌, ◌≤◌, leb, length, set}
use Rattle.std.proofs.Common.{ap, ◌∙◌, arith, add-zero}
use Rattle.std.proofs.lemmas.List.Edits.{sets}
use Rattle.std.proofs.Math.Seq.{length-sets}
use Rattle.translate_rows.specs.Kinds.{Row, Statement}
use Rattle.meaning.specs.Image.{row_no}
use Rattle.meaning.specs.Bytes.{row_size, fields_of, bytes_of}
use Rattle.image_rows.specs.Rows.{fields_put, row_put}
use Rattle.translate_rows.specs.RowsPut.{rows_put}

pub rows_put-append : (xs ys : List Statement) (out : List ℕ) (i : ℕ) → rows_put out i (xs ++ ys) ≡ rows_put (rows_put out i xs) (i + length xs) ys
unfolding rows_put
rows_put-append [] ys out i = rw add-zero
rows_put-append (x ∷ xs) ys out i =
    let e : suc i + length xs ≡ i + length (x ∷ xs) = omega arith in
    rw (← e) (rows_put-append xs ys (row_put out (row_no i) x) (suc i))

pub rows_put_cons : (x : Statement) (xs : List Statement) (out : List ℕ) (i : ℕ) → rows_put (row_put out (row_no i) x) (suc i) xs ≡ rows_put out i (x ∷ xs)
unfolding rows_put
rows_put_cons x xs out i = refl

pub rows_put_nil : (out : List ℕ) (i : ℕ) → rows_put out i [] ≡ out
unfolding rows_put
rows_put_nil out i = refl

pub rows_put_one : (x : Statement) (out : List ℕ) (i : ℕ) → row_put out (row_no i) x ≡ rows_put out i (x ∷ [])
unfolding rows_put
rows_put_one x out i = refl

pub length-put : (out : List ℕ) (r : Row) (x : Statement) → length (row_put out r x) ≡ length out
unfolding row_put fields_put
length-put out r x = go (leb (row_size * r.0 + row_size) (length out))
  where
    go : (b : Bool) → length (cond b (sets out (row_size * r.0) (bytes_of (fields_of x))) out) ≡ length out
    go true = length-sets out (row_size * r.0) (bytes_of (fields_of x))
    go false = refl

pub length-rows_put : (xs : List Statement) (out : List ℕ) (i : ℕ) → length (rows_put out i xs) ≡ length out
unfolding rows_put
length-rows_put [] out i = refl
length-rows_put (x ∷ xs) out i = length-rows_put xs (row_put out (row_no i) x) (suc i) ∙ length-put out (row_no i) x

-- A byte behind the buffer's end changes nothing.
pub set_past : (l : List ℕ) (i b : ℕ) → length l ≤ i → l ≡ set l i b
set_past [] i b h = refl
set_past (x ∷ l) zero b h = absurd (omega arith)
set_past (x ∷ l) (suc i) b h = ap (x ∷◌) (set_past l i b (omega arith))
