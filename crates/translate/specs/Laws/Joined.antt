-- The four parts of an image, stored one behind the other, are the image. Assumes nothing.
use Rattle.std.specs.Prelude.{◌≡◌, refl, List, [], ◌∷◌, ◌++◌, ℕ, suc, ◌+◌, ◌*◌, ◌≤◌, length, set, drop}
use Rattle.std.proofs.Common.{sym, ap, ◌∙◌, arith, le-leb, length-append}
use Rattle.std.proofs.lemmas.List.Edits.{sets, sets-eq}
use Rattle.std.proofs.Math.Seq.{length-sets}
use Rattle.translate.specs.Kinds.{Statement}
use Rattle.meaning.specs.Text.{Job}
use Rattle.meaning.specs.Layout.{rows_t, first_rows}
use Rattle.meaning.specs.Bytes.{row_size, fields_of, bytes_of, row_bytes, first_bytes, trailer, image_bytes, job_image}
use Rattle.image_rows.specs.Rows.{fields_put, row_put}
use Rattle.image_laws.proofs.Rows.{first_rows-length}
use Rattle.image_laws.proofs.ReadBack.{row_bytes-length, first_bytes-length, image-length}
use Rattle.translate_rows.specs.RowsPut.{rows_put}

-- Bytes stored one behind the other.
sets-append : (a b l : List ℕ) (i n : ℕ) → n ≡ i + length a → sets l i (a ++ b) ≡ sets (sets l i a) n b
sets-append [] b l i n e = let q : n ≡ i = omega arith in rw q
sets-append (x ∷ a) b l i n e = sets-append a b (set l i x) (suc i) n (omega arith)

-- Rows in a buffer with room for them are their bytes.
rows_put_bytes : (xs : List Statement) (out : List ℕ) (i : ℕ) → row_size * (i + length xs) ≤ length out → rows_put out i xs ≡ sets out (row_size * i) (row_bytes xs)
unfolding rows_put row_put fields_put row_bytes
rows_put_bytes [] out i l = refl
rows_put_bytes (x ∷ xs) out i l =
    let t = le-leb (row_size * i + row_size) (length out) (omega arith) in
    let e : row_size * suc i ≡ row_size * i + length (bytes_of (fields_of x)) = omega arith in
    let n = length-sets out (row_size * i) (bytes_of (fields_of x)) in
    rw t (rows_put_bytes xs (sets out (row_size * i) (bytes_of (fields_of x))) (suc i) (omega arith) ∙ sym (sets-append (bytes_of (fields_of x)) (row_bytes xs) out (row_size * i) (row_size * suc i) e))

-- The parts as pass 2 stores them: rows, capacities, first rows, trailer.
pub joined : (j : Job) (out : List ℕ) {a b c d : List ℕ} {rows channels tasks : ℕ} → rows ≡ length (rows_t j.tasks 0) → channels ≡ length j.capacities → tasks ≡ length j.tasks
    → length (job_image j) ≤ length out
    → a ≡ rows_put out 0 (rows_t j.tasks 0) → b ≡ sets a (row_size * rows) j.capacities
    → c ≡ sets b (row_size * rows + channels) (first_bytes (first_rows j.tasks 0))
    → d ≡ sets c (row_size * rows + channels + 2 * tasks) (trailer rows channels tasks)
    → d ≡ sets out 0 (job_image j)
unfolding job_image image_bytes
joined j out {rows = rows} {channels} {tasks} qr qc qt l ea eb ec ed =
    let R = rows_t j.tasks 0 in
    let C = j.capacities in
    let F = first_rows j.tasks 0 in
    let nr = row_bytes-length R in
    let nf = first_bytes-length F in
    let nt = first_rows-length j.tasks 0 in
    let ni = image-length j in
    let na = length-append (row_bytes R) (C ++ first_bytes F) in
    let nb = length-append C (first_bytes F) in
    let pt : tasks ≡ length F = omega arith in
    let sa = ea ∙ rows_put_bytes R out 0 (omega arith) in
    let sb = eb ∙ ap (λ z. sets z (row_size * rows) C) sa in
    let sc = ec ∙ ap (λ z. sets z (row_size * rows + channels) (first_bytes F)) sb ∙ sym (sets-append C (first_bytes F) (sets out 0 (row_bytes R)) (row_size * rows) (row_size * rows + channels) (omega arith)) ∙ sym (sets-append (row_bytes R) (C ++ first_bytes F) out 0 (row_size * rows) (omega arith)) in
    let sd = ed ∙ ap (λ z. sets z (row_size * rows + channels + 2 * tasks) (trailer rows channels tasks)) sc ∙ sym (sets-append (row_bytes R ++ (C ++ first_bytes F)) (trailer rows channels tasks) out 0 (row_size * rows + channels + 2 * tasks) (omega arith)) in
    sd ∙ rw (qr, qc, pt)

-- An image that fits, stored at the start of a buffer.
pub stored_at_start : (img out : List ℕ) → length img ≤ length out → sets out 0 img ≡ img ++ drop (length img) out
stored_at_start img out l =
    let q : 0 + length img ≡ length img = omega arith in
    sets-eq img out 0 (omega arith) ∙ rw q
