-- Cells whose first hold a text and whose rest are zeros: the text tells them all, and a byte more keeps them so.
use Rattle.std.specs.Prelude.{◌≡◌, List, ◌++◌, ℕ, ◌+◌, ◌-◌, ◌<◌, ◌≤◌, length, take, drop, set, replicate}
use Rattle.std.proofs.Common.{ap, sym, ◌∙◌, arith, take-append-drop, length-take-le, drop-drop}
use Rattle.std.proofs.lemmas.List.{drop-set-lt, drop-replicate}

pub padded : (l : List ℕ) (n : ℕ) → n ≤ 128 → length l ≡ 128 → drop n l ≡ replicate (128 - n) 0 → take n l ++ replicate (128 - length (take n l)) 0 ≡ l
padded l n h e z =
    ap (λ (k : ℕ). take n l ++ replicate (128 - k) 0) (length-take-le n l (omega arith)) ∙ ap (λ (w : List ℕ). take n l ++ w) (sym z) ∙ take-append-drop n l

-- Two such arrays of cells, each with how many are shown, that show one text are one.
pub padded_once : (u w : List ℕ) (n m : ℕ) (text : List ℕ)
    → n ≤ 128 → length u ≡ 128 → drop n u ≡ replicate (128 - n) 0 → take n u ≡ text
    → m ≤ 128 → length w ≡ 128 → drop m w ≡ replicate (128 - m) 0 → take m w ≡ text
    → (u ≡ w) × (n ≡ m)
padded_once u w n m text hn lu zu tu hm lw zw tw = (
  sym (padded u n hn lu zu) ∙ ap (λ (s : List ℕ). s ++ replicate (128 - length s) 0) (tu ∙ sym tw) ∙ padded w m hm lw zw,
  sym (length-take-le n u (omega arith)) ∙ ap length (tu ∙ sym tw) ∙ length-take-le m w (omega arith),
)

-- What is the same behind a place is the same behind a later one.
kept_behind : (u w : List ℕ) (n k : ℕ) → drop n u ≡ drop n w → drop (n + k) u ≡ drop (n + k) w
kept_behind u w n k e = sym (drop-drop k n u) ∙ ap (drop k) e ∙ drop-drop k n w

pub padded_more : (l : List ℕ) (n b : ℕ) → n < 128 → length l ≡ 128 → drop n l ≡ replicate (128 - n) 0 → drop (n + 1) (set l n b) ≡ replicate (128 - (n + 1)) 0
padded_more l n b h e z =
    drop-set-lt (n + 1) l n b (omega arith) ∙ kept_behind l (replicate 128 0) n 1 (z ∙ sym (drop-replicate n 128 0)) ∙ drop-replicate (n + 1) 128 0
