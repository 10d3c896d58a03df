-- Two words of one length, eight bytes at most, are equal if their keys are; and what a search finds. Assumes nothing.
use Rattle.std.specs.Prelude.{◌≡◌, refl, Bool, true, false, cond, List, [], ◌∷◌, ℕ, zero, suc, ◌+◌, ◌-◌, ◌*◌, ◌^◌, ◌%◌, ◌≤◌, ◌<◌, eqb, ltb, length, get_or, Option, Some, None}
use Rattle.std.proofs.Common.{ap, pow-suc, arith, eqb-true, ltb-true, ltb-false}
use Rattle.std.proofs.Math.Nat.{pow-le-pow_right, one-le-pow}
use Rattle.text_keys.specs.Keys.{key_more, gathered, key_of, first_from, keyed, searched, found}

-- BYTES

abbrev pub Bytes : List ℕ → Type 0
Bytes w = (i : ℕ) → i < length w → get_or w i 0 < 256

-- With fewer than eight bytes gathered nothing is lost at the next.
more_exact : (key b m : ℕ) → m < 8 → key < 256 ^ m → b < 256 → (key_more key b ≡ key * 256 + b) × (key_more key b < 256 ^ suc m)
more_exact key b m h l f =
    let t : 256 ^ m ≤ 256 ^ 7 = pow-le-pow_right {n = 256} (omega arith) {i = m} {j = 7} (omega arith) in
    let e : key % 256 ^ 7 ≡ key = omega arith in
    (omega arith, omega (arith, pow-suc 256 m))

-- Keys that are equal behind equally many bytes were equal ahead of them, and so are the bytes.
same_gathered : (j k : ℕ) (u w : List ℕ) → Bytes u → Bytes w → length u ≡ length w → length u ≤ 8
    → j < 256 ^ (8 - length u) → k < 256 ^ (8 - length u) → gathered j u ≡ gathered k w → (j ≡ k) × (u ≡ w)
unfolding gathered
same_gathered j k [] [] f g n s a b e = (e, refl)
same_gathered j k [] (y ∷ w) f g n s a b e = absurd (omega arith)
same_gathered j k (x ∷ u) [] f g n s a b e = absurd (omega arith)
same_gathered j k (x ∷ u) (y ∷ w) f g n s a b e =
    let m : suc (8 - suc (length u)) ≡ 8 - length u = omega arith in
    let p = f 0 (omega arith) in
    let q = g 0 (omega arith) in
    let c = more_exact j x (8 - suc (length u)) (omega arith) a p in
    let d = more_exact k y (8 - suc (length u)) (omega arith) b q in
    let f' : Bytes u = λ i h. f (suc i) (omega arith) in
    let g' : Bytes w = λ i h. g (suc i) (omega arith) in
    let r = same_gathered (key_more j x) (key_more k y) u w f' g' (omega arith) (omega arith) (rw m at c.1) (rw m at d.1) e in
    let z = r.0 in
    let v : x ≡ y = omega arith in
    let o = r.1 in
    (omega arith, cc)

pub same_key : (u w : List ℕ) → Bytes u → Bytes w → length u ≡ length w → length u ≤ 8 → key_of u ≡ key_of w → u ≡ w
same_key u w f g n s e =
    let z : 0 < 256 ^ (8 - length u) = one-le-pow (8 - length u) 256 (omega arith) in
    (same_gathered 0 0 u w f g n s z z e).1

-- SEARCHES

pub from_step : (p : ℕ → Bool) (n k : ℕ) → k < n → first_from p (n - k) k ≡ cond (p k) k (first_from p (n - (k + 1)) (k + 1))
unfolding first_from
from_step p n k h = let e : n - k ≡ suc (n - (k + 1)) = omega arith in rw e

-- What is found stands among the places, or behind them, and passes.
pub from_within : (p : ℕ → Bool) (n k : ℕ) → first_from p n k ≤ k + n
unfolding first_from
from_within p zero k = omega arith
from_within p (suc n) k = go (p k) (from_within p n (k + 1))
  where
    go : (b : Bool) → first_from p n (k + 1) ≤ k + 1 + n → cond b k (first_from p n (k + 1)) ≤ k + suc n
    go true h = omega arith
    go false h = omega arith

pub from_passes : (p : ℕ → Bool) (n k : ℕ) → first_from p n k < k + n → p (first_from p n k) ≡ true
unfolding first_from
from_passes p zero k h = absurd (omega arith)
from_passes p (suc n) k h = go (p k) refl (from_passes p n (k + 1)) h
  where
    go : (b : Bool) → p k ≡ b → (first_from p n (k + 1) < k + 1 + n → p (first_from p n (k + 1)) ≡ true)
        → cond b k (first_from p n (k + 1)) < k + suc n → p (cond b k (first_from p n (k + 1))) ≡ true
    go true e r h = e
    go false e r h = r (omega arith)

-- The word at the place that is found has the key and the size.
pub searched_found : (keys sizes : ℕ → ℕ) (key n : ℕ) → searched keys sizes key n < 16
    → (key ≡ keys (searched keys sizes key n)) × (n ≡ sizes (searched keys sizes key n))
unfolding searched
searched_found keys sizes key n = go (eqb n (sizes first)) refl
  where
    first : ℕ
    first = first_from (keyed keys key) 16 0

    go : (b : Bool) → eqb n (sizes first) ≡ b → cond b first 16 < 16 → (key ≡ keys (cond b first 16)) × (n ≡ sizes (cond b first 16))
    go true e h = (eqb-true key (keys first) (from_passes (keyed keys key) 16 0 h), eqb-true n (sizes first) e)
    go false e h = absurd (omega arith)

-- A search asks for the keys of its places alone, and for one size more, which is that of none.
from_same : (p q : ℕ → Bool) (n k : ℕ) → ((i : ℕ) → i < k + n → p i ≡ q i) → first_from p n k ≡ first_from q n k
unfolding first_from
from_same p q zero k e = refl
from_same p q (suc n) k e = rw (e k (omega arith), from_same p q n (k + 1) (λ i h. e i (omega arith)))

pub searched_same : (keys keys' sizes sizes' : ℕ → ℕ) (key n : ℕ) → ((k : ℕ) → k < 16 → keys k ≡ keys' k) → ((k : ℕ) → k < 17 → sizes k ≡ sizes' k)
    → searched keys sizes key n ≡ searched keys' sizes' key n
unfolding searched
searched_same keys keys' sizes sizes' key n e f =
    let s = from_same (keyed keys key) (keyed keys' key) 16 0 (λ i h. ap (eqb key) (e i h)) in
    rw (s, f (first_from (keyed keys' key) 16 0) (omega (arith, from_within (keyed keys' key) 16 0)))

-- WHAT IS FOUND

pub found_some : (m : ℕ) {k : ℕ} → Some k ≡ found m → (m ≡ k) × (m < 16)
found_some m {k} = go (ltb m 16) refl
  where
    go : (b : Bool) → ltb m 16 ≡ b → Some k ≡ cond b (Some m) None → (m ≡ k) × (m < 16)
    go true e q = (cc, ltb-true m 16 e)
    go false e q = absurd (let z : ◌≡◌ {A = ℕ} 0 1 = cc in omega arith)

pub found_none : (m : ℕ) → None ≡ found m → 16 ≤ m
found_none m = go (ltb m 16) refl
  where
    go : (b : Bool) → ltb m 16 ≡ b → ◌≡◌ {A = Option ℕ} None (cond b (Some m) None) → 16 ≤ m
    go true e q = absurd (let z : ◌≡◌ {A = ℕ} 0 1 = cc in omega arith)
    go false e q = ltb-false m 16 e
