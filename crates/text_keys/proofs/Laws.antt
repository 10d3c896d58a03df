-- A search at place k, where the places ahead of it have other keys: one place further, at the key, and behind the last. Assumes
-- nothing.
use mathlib.Core.Path.{◌≡◌, refl, sym, ◌∙◌}
use mathlib.Core.Bool.{Bool, true, false, cond}
use Prim.Native.Nat.{ℕ, ◌+◌, ◌-◌, ◌<◌}
use borrow.Author.Tests.{eq-eqb, ne_eqb}
use lib.Dec.{eqb}
use Rattle.text_keys.specs.Keys.{first_from, keyed, searched}
use Rattle.text_keys.specs.Laws.Keys.{from_step}

-- The place that is found from place k on.
abbrev pub found_from : (ℕ → ℕ) → ℕ → ℕ → ℕ
found_from keys key k = first_from (keyed keys key) (16 - k) k

module _ (keys : ℕ → ℕ) (key k : ℕ) where
  pub search_more : k < 16 → (key ≡ keys k → ⊥) → found_from keys key (k + 1) ≡ found_from keys key k
  search_more h d = sym (from_step (keyed keys key) 16 k h ∙ rw (ne_eqb key (keys k) d))

  module _ (sizes : ℕ → ℕ) (n : ℕ) (ahead : found_from keys key k ≡ found_from keys key 0) where
    pub search_found : k < 16 → key ≡ keys k → searched keys sizes key n ≡ cond (eqb n (sizes k)) k 16
    unfolding searched
    search_found h e =
        let f : found_from keys key 0 ≡ k = sym ahead ∙ from_step (keyed keys key) 16 k h ∙ rw (eq-eqb key (keys k) e) in
        rw f

    pub search_none : k ≡ 16 → k ≡ searched keys sizes key n
    unfolding searched first_from
    search_none e =
        let f : 16 ≡ found_from keys key 0 = rw e at ahead in
        rw (e, ← f) (either (eqb n (sizes 16)) 16)
      where
        either : (b : Bool) (m : ℕ) → m ≡ cond b m m
        either true m = refl
        either false m = refl
