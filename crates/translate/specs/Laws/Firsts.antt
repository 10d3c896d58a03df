-- The first rows of the tasks, as two bytes each. Assumes nothing.
use Rattle.std.specs.Prelude.{◌≡◌, refl, List, [], ◌∷◌, ◌++◌, map, ℕ, suc, ◌+◌, ◌*◌, ◌≤◌, ◌<◌, length, take, drop, get_or, replicate}
use Rattle.std.proofs.Common.{sym, ap, ◌∙◌, arith, add-one, length-take, drop_of_length-le, drop-cons, get_or-take}
use Rattle.std.proofs.lemmas.List.{length-map}
use Rattle.std.proofs.lemmas.List.Edits.{sets}
use Rattle.std.proofs.Math.Seq.{take-append_seam}
use Rattle.meaning.specs.Numbers.{task_limit}
use Rattle.meaning.specs.Text.{Body}
use Rattle.meaning.specs.Layout.{first_rows}
use Rattle.meaning.specs.Bytes.{two, first_bytes}
use Rattle.image_laws.proofs.Rows.{first_rows-length}
use Rattle.translate_rows.specs.Noted.{first_numbers}
use Rattle.translate.specs.Kinds.{Row}
use Rattle.translate.specs.Stored.{pairs}
use Rattle.translate.specs.Laws.Joined.{stored_at_start}

-- One first row is stored: what is left is those of the other tasks.
pub firsts_lap : (fs out : List ℕ) (base n t : ℕ) {first : ℕ} {new : List ℕ} → t < n → n ≤ length fs → first ≡ get_or fs t 0 → new ≡ sets out (base + 2 * t) (two first)
    → sets new (base + 2 * (t + 1)) (pairs (drop (t + 1) (take n fs))) ≡ sets out (base + 2 * t) (pairs (drop t (take n fs)))
unfolding pairs
firsts_lap fs out base n t h l q e =
    let m : t < length (take n fs) = simp length-take (omega arith) in
    let p : base + 2 * (t + 1) ≡ suc (suc (base + 2 * t)) = omega arith in
    rw (drop-cons (take n fs) t 0 m, get_or-take n fs t 0 h, ← q, e, p, add-one)

pub firsts_begin : (fs out : List ℕ) (base n : ℕ) → sets out (base + 2 * 0) (pairs (drop 0 (take n fs))) ≡ sets out base (pairs (take n fs))
firsts_begin fs out base n = let q : base + 2 * 0 ≡ base = omega arith in rw q

pub firsts_end : (fs out : List ℕ) (i n t : ℕ) → n ≤ t → out ≡ sets out i (pairs (drop t (take n fs)))
unfolding pairs
firsts_end fs out i n t h =
    let m : length (take n fs) ≤ t = simp length-take (omega arith) in
    rw (drop_of_length-le (take n fs) {i = t} m)

pairs_rows : (rs : List Row) → pairs (map (λ (r : Row). r.0) rs) ≡ first_bytes rs
unfolding pairs first_bytes
pairs_rows [] = refl
pairs_rows (r ∷ rs) = ap (two r.0 ++◌) (pairs_rows rs)

-- The array that pass 1 leaves begins with the first rows of the tasks there are.
pub firsts_bytes : (bs : List Body) (tasks : ℕ) {fs : List ℕ} → fs ≡ sets (replicate task_limit 0) 0 (first_numbers bs 0) → tasks ≡ length bs → tasks ≤ task_limit
    → pairs (take tasks fs) ≡ first_bytes (first_rows bs 0)
firsts_bytes bs tasks {fs} e q l =
    let n : length (first_numbers bs 0) ≡ tasks = length-map (first_rows bs 0) (λ (r : Row). r.0) ∙ first_rows-length bs 0 ∙ sym q in
    let p = e ∙ stored_at_start (first_numbers bs 0) (replicate task_limit 0) (omega arith) in
    ap (λ (k : ℕ). pairs (take k fs)) (sym n) ∙ ap (λ (z : List ℕ). pairs (take (length (first_numbers bs 0)) z)) p
    ∙ ap pairs (take-append_seam (first_numbers bs 0) _) ∙ pairs_rows (first_rows bs 0)
