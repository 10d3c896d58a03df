-- A whole job from its notes: its tasks as one body, each closed by a stop; and what is stored in an array is held there. Assumes nothing.
use Rattle.std.specs.Prelude.{◌≡◌, refl, List, [], ◌∷◌, ◌++◌, ℕ, zero, suc, ◌+◌, ◌*◌, ◌≤◌, ◌<◌, length, set, get_or}
use Rattle.std.proofs.Common.{sym, ap, ◌∙◌, append_assoc, arith, length-set}
use Rattle.std.proofs.lemmas.List.Edits.{sets}
use Rattle.translate_rows.specs.Kinds.{Statement, Stop}
use Rattle.meaning.specs.Numbers.{row_limit}
use Rattle.meaning.specs.Text.{Body, empty, ◌▸◌}
use Rattle.meaning.specs.Image.{row_no}
use Rattle.meaning.specs.Layout.{size_s, size_b, entry, rows_s, rows_b, rows_t}
use Rattle.image_laws.proofs.Rows.{size_t, rows_t_size, entry_first}
use Rattle.translate_notes.specs.Notes.{op_s, chan_s, arg_s, inside_s, notes_s, notes_b, closed_with, all_of}
use Rattle.translate_notes.specs.Laws.Notes.{notes_b_length}
use Rattle.translate_rows.specs.RowsPut.{rows_put}
use Rattle.translate_rows.specs.Stored.{Held, BodyHeld, BodyThere}

-- ROWS AND NOTES OF THE WHOLE

pub closed_notes : (b c : Body) (d : ℕ) → notes_b (closed_with b c) d ≡ notes_b b d ++ (12 ∷ 0 ∷ 1 ∷ notes_b c d)
unfolding closed_with notes_b inside_s op_s chan_s arg_s size_s
closed_notes empty c d = refl
closed_notes (s ▸ b) c d = ap (notes_s s d ++◌) (closed_notes b c d) ∙ sym (append_assoc (notes_s s d) (notes_b b d) (12 ∷ 0 ∷ 1 ∷ notes_b c d))

closed_entry : (b c : Body) (i j : ℕ) → entry (closed_with b c) i j ≡ row_no i
unfolding closed_with entry
closed_entry empty c i j = refl
closed_entry (s ▸ b) c i j = refl

closed_rows : (b c : Body) (d i j k : ℕ) → k ≡ i + size_b b → rows_b (closed_with b c) d i j ≡ rows_b b d i k ++ (Stop ∷ rows_b c d (suc k) j)
unfolding closed_with rows_b rows_s size_b size_s
closed_rows empty c d i j k e =
    let q : k ≡ i = omega arith in
    let p : i + 1 ≡ suc i = omega arith in
    rw (q, p)
closed_rows (s ▸ b) c d i j k e =
    let n = i + size_s s in
    let q : k ≡ n + size_b b = omega arith in
    let g : entry b n k ≡ row_no n = ap (entry b n) q ∙ entry_first b n in
    rw (closed_entry b c n j, g, closed_rows b c d n j k q) (sym (append_assoc (rows_s s d i n) (rows_b b d n k) (Stop ∷ rows_b c d (suc k) j)))

closed_size : (b c : Body) → size_b (closed_with b c) ≡ suc (size_b b + size_b c)
unfolding closed_with size_b size_s
closed_size empty c = omega arith
closed_size (s ▸ b) c = let q = closed_size b c in omega arith

pub all_rows : (bs : List Body) (i j : ℕ) → rows_b (all_of bs) 0 i j ≡ rows_t bs i
unfolding all_of rows_b rows_t
all_rows [] i j = refl
all_rows (b ∷ bs) i j =
    let k = i + size_b b in
    closed_rows b (all_of bs) 0 i j k refl ∙ ap (λ (z : List Statement). rows_b b 0 i k ++ (Stop ∷ z)) (all_rows bs (suc k) j)

pub all_size : (bs : List Body) → size_b (all_of bs) ≡ size_t bs
unfolding all_of size_b size_t
all_size [] = refl
all_size (b ∷ bs) = let q = all_size bs in let p = closed_size b (all_of bs) in omega arith

-- WHAT IS STORED IS HELD

get_other : (l : List ℕ) (i j x : ℕ) → i < j → get_or (set l j x) i 0 ≡ get_or l i 0
get_other [] i j x h = refl
get_other (y ∷ l) i zero x h = absurd (omega arith)
get_other (y ∷ l) zero (suc j) x h = refl
get_other (y ∷ l) (suc i) (suc j) x h = get_other l i j x (omega arith)

get_same : (l : List ℕ) (i x : ℕ) → i < length l → get_or (set l i x) i 0 ≡ x
get_same [] i x h = absurd (omega arith)
get_same (y ∷ l) zero x h = refl
get_same (y ∷ l) (suc i) x h = get_same l i x (omega arith)

get_ahead : (xs l : List ℕ) (i j : ℕ) → i < j → get_or (sets l j xs) i 0 ≡ get_or l i 0
get_ahead [] l i j h = refl
get_ahead (x ∷ xs) l i j h = get_ahead xs (set l j x) i (suc j) (omega arith) ∙ get_other l i j x h

pub held_stored : (xs l : List ℕ) (i : ℕ) → i + length xs ≤ length l → Held (sets l i xs) i xs
held_stored [] l i h = tt
held_stored (x ∷ xs) l i h =
    let n = length-set l i x in
    (get_ahead xs (set l i x) i (suc i) (omega arith) ∙ get_same l i x (omega arith), held_stored xs (set l i x) (suc i) (omega arith))

-- PASS 2 OF A WHOLE JOB

-- The notes of a job of so many rows, stored from the array's start on: what `lay_body` from row 0 on is to be given, and what it leaves.
pub job_held : (bs : List Body) (l : List ℕ) {ns : List ℕ} {rows : ℕ} → ns ≡ sets l 0 (notes_b (all_of bs) 0)
    → 3 * row_limit ≤ length l → rows ≡ length (rows_t bs 0) → rows ≤ row_limit → BodyHeld ns (all_of bs) 0 0 rows
job_held bs l e n q m =
    let p = rows_t_size bs 0 in
    let s = all_size bs in
    let z = notes_b_length (all_of bs) 0 in
    (rw e (held_stored (notes_b (all_of bs) 0) l 0 (omega arith)), omega arith)

pub job_there : (ns : List ℕ) (bs : List Body) {rows : ℕ} → BodyHeld ns (all_of bs) 0 0 rows → rows ≤ row_limit → BodyThere ns 0 rows 0
job_there ns bs h m = let q = h.1 in (all_of bs, 0, h, m, omega arith)

pub job_stored : (bs : List Body) (out : List ℕ) (rows : ℕ) {new : List ℕ} → new ≡ rows_put out 0 (rows_b (all_of bs) 0 0 rows) → new ≡ rows_put out 0 (rows_t bs 0)
job_stored bs out rows e = e ∙ ap (rows_put out 0) (all_rows bs 0 rows)
