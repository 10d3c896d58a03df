-- Lists by number: a table's entries, cells that are set and cells that are not.
use Rattle.std.specs.Prelude.{◌≡◌, ℕ, zero, suc, ◌+◌, ◌<◌, ◌≤◌, List, [], ◌∷◌, length, take, ◌≢◌, slice_index, slice_index_or, slice_set}
use Rattle.std.proofs.Math.Path.{refl}
use Rattle.std.proofs.Common.{ap, ◌∙◌, le_of_suc-le-suc, add-zero, length-set, get_or-set_same, get_or-set_other}
use native.Mathlib.Omega.{arith}
use Rattle.meaning.specs.Bytes.{tabulate}

module _ {A : Type 0} (f g : ℕ → A) where
  pub table_same : (n i : ℕ) → ((j : ℕ) → i ≤ j → j < i + n → g j ≡ f j) → tabulate g n i ≡ tabulate f n i
  unfolding tabulate
  table_same zero i h = refl
  table_same (suc n) i h = rw (h i (omega arith) (omega arith), table_same n (suc i) (λ j p q. h j (omega arith) (omega arith)))

  pub table_set : (n i m k : ℕ) → k ≡ i + m → m < n → ((j : ℕ) → (j ≢ k) → i ≤ j → j < i + n → g j ≡ f j) → tabulate g n i ≡ slice_set (tabulate f n i) m (g k)
  unfolding tabulate
  table_set zero i m k e h p = absurd (omega arith)
  table_set (suc n) i zero k e h p =
      let z : k ≡ i = omega arith in
      rw (z, table_same n (suc i) (λ j a b. p j (λ q. omega arith) (omega arith) (omega arith)))
  table_set (suc n) i (suc m) k e h p =
      rw (p i (λ q. omega arith) (omega arith) (omega arith), table_set n (suc i) m k (omega arith) (omega arith) (λ j q a b. p j q (omega arith) (omega arith)))

pub table_at : {A : Type 0} (g : ℕ → A) (n i k : ℕ) (d : A) → k < n → slice_index_or (tabulate g n i) k d ≡ g (i + k)
unfolding tabulate
table_at g zero i k d h = absurd (omega arith)
table_at g (suc n) i zero d h = rw add-zero
table_at g (suc n) i (suc k) d h = table_at g n (suc i) k d (le_of_suc-le-suc h) ∙ ap g (omega arith)

pub table-length : {A : Type 0} (f : ℕ → A) (n i : ℕ) → length (tabulate f n i) ≡ n
unfolding tabulate
table-length f zero i = refl
table-length f (suc n) i = ap suc (table-length f n (suc i))

pub take_whole : {A : Type 0} (l : List A) (n : ℕ) → length l ≤ n → take n l ≡ l
take_whole [] zero h = refl
take_whole [] (suc n) h = refl
take_whole (x ∷ xs) zero h = absurd (omega arith)
take_whole (x ∷ xs) (suc n) h = ap (λ l. x ∷ l) (take_whole xs n (le_of_suc-le-suc h))

-- TWO CELLS SET

pub past2 : (l : List ℕ) (a x b y j : ℕ) → (j ≢ a) → (j ≢ b) → slice_index (slice_set (slice_set l a x) b y) j ≡ slice_index l j
past2 l a x b y j p q = get_or-set_other (slice_set l a x) b j y 0 q ∙ get_or-set_other l a j x 0 p

pub first2 : (l : List ℕ) (a x b y : ℕ) → a < length l → (a ≢ b) → slice_index (slice_set (slice_set l a x) b y) a ≡ x
first2 l a x b y h q = get_or-set_other (slice_set l a x) b a y 0 q ∙ get_or-set_same l a x 0 h

pub second2 : (l : List ℕ) (a x b y : ℕ) → b < length l → slice_index (slice_set (slice_set l a x) b y) b ≡ y
second2 l a x b y h = get_or-set_same (slice_set l a x) b y 0 (rw length-set h)
