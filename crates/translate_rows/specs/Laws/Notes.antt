-- Numbers stored in an array of notes, ahead of others and behind them. Assumes nothing.
use Rattle.std.specs.Prelude.{◌≡◌, refl, List, [], ◌∷◌, ◌++◌, ℕ, zero, suc, ◌+◌, ◌*◌, ◌<◌, length, set}
use Rattle.std.proofs.Common.{ap, ◌∙◌, arith}
use Rattle.std.proofs.lemmas.List.Edits.{sets}
use Rattle.meaning.specs.Numbers.{row_limit}
use Rattle.meaning.specs.Text.{Stmt}
use Rattle.meaning.specs.Layout.{size_s}
use Rattle.translate_notes.specs.Notes.{op_s, chan_s, arg_s, inside_s, notes_s, noted}
use Rattle.translate_notes.specs.Laws.Notes.{noted_in}

pub stored_on : (a b l : List ℕ) (i n : ℕ) → n ≡ i + length a → sets (sets l i a) n b ≡ sets l i (a ++ b)
stored_on [] b l i n e = let q : n ≡ i = omega arith in rw q
stored_on (x ∷ a) b l i n e = stored_on a b (set l i x) (suc i) n (omega arith)

set_set : (l : List ℕ) (i j x y : ℕ) → i < j → set (set l j y) i x ≡ set (set l i x) j y
set_set [] i j x y h = refl
set_set (z ∷ l) i zero x y h = absurd (omega arith)
set_set (z ∷ l) zero (suc j) x y h = refl
set_set (z ∷ l) (suc i) (suc j) x y h = ap (z ∷◌) (set_set l i j x y (omega arith))

set_ahead : (ys l : List ℕ) (i j x : ℕ) → i < j → set (sets l j ys) i x ≡ sets (set l i x) j ys
set_ahead [] l i j x h = refl
set_ahead (y ∷ ys) l i j x h = set_ahead ys (set l j y) i (suc j) x (omega arith) ∙ ap (λ (z : List ℕ). sets z (suc j) ys) (set_set l i j x y h)

stored_ahead : (xs ys l : List ℕ) (i j : ℕ) → j ≡ i + length xs → sets (sets l j ys) i xs ≡ sets l i (xs ++ ys)
stored_ahead [] ys l i j e = let q : j ≡ i = omega arith in rw q
stored_ahead (x ∷ xs) ys l i j e =
    ap (λ (z : List ℕ). sets z (suc i) xs) (set_ahead ys l i j x (omega arith)) ∙ stored_ahead xs ys (set l i x) (suc i) j (omega arith)

-- A row's three numbers, stored once what stands behind them is.
pub noted_ahead : (head arg size : ℕ) (ys : List ℕ) (row rows : ℕ) (old : List ℕ) {mid new : List ℕ} → row < row_limit → rows ≡ row + 1 → mid ≡ sets old (3 * rows) ys
    → new ≡ noted mid row head arg size → new ≡ sets old (3 * row) (head ∷ arg ∷ size ∷ ys)
noted_ahead head arg size ys row rows old {mid} l q e f =
    f ∙ noted_in mid row head arg size l ∙ ap (λ (z : List ℕ). sets z (3 * row) (head ∷ arg ∷ size ∷ [])) e
    ∙ stored_ahead (head ∷ arg ∷ size ∷ []) ys old (3 * row) (3 * rows) (omega arith)

-- The note of a statement, stored once what is inside it is noted.
pub noted_as : (x : Stmt) (d row rows : ℕ) (old : List ℕ) {mid new : List ℕ} {head arg size : ℕ} → row < row_limit → rows ≡ row + 1 → mid ≡ sets old (3 * rows) (inside_s x d)
    → new ≡ noted mid row head arg size → head ≡ op_s x + 256 * chan_s x d → arg ≡ arg_s x → size ≡ size_s x → new ≡ sets old (3 * row) (notes_s x d)
noted_as x d row rows old l q e f h a n = rw (← h, ← a, ← n) (noted_ahead _ _ _ (inside_s x d) row rows old l q e f)
