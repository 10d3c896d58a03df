-- The order names each waiting task once, so it is never longer than the tasks are many, and shorter while one is able.
use Rattle.std.specs.Prelude.{◌≡◌, refl, eqb, length}
use Rattle.std.proofs.Math.Path.{ap}
use Rattle.std.proofs.Common.{◌∙◌, ne_eqb, eq-eqb}
use Rattle.std.proofs.Math.Option.{some}
use mathlib.Core.List.{List, [], ◌∷◌}
use Prim.Native.Nat.{ℕ, zero, suc, ◌+◌, ◌≤◌, ◌<◌}
use native.Mathlib.Omega.{arith}
use Rattle.std.proofs.Math.Decide.{ℕ_discrete}
use Rattle.std.proofs.Math.ListN.{get_elem?}
use Rattle.meaning_laws.specs.Kinds.{Task, Able}
use Rattle.meaning.specs.Machine.{Look, Standing, Machine}
use Rattle.meaning_laws.specs.Lists.{All}
use Rattle.meaning_laws.specs.Fits.{one, times, mark, waiting_at, Fits}
use Rattle.meaning_laws.specs.Laws.Fits.{waiting_at_lem, waiting_le}

-- COUNTING BY NUMBERS

abbrev total : (ℕ → ℕ) → ℕ → ℕ
total f zero = 0
total f (suc n) = f n + total f n

total_zero : (n : ℕ) → total (λ j. 0) n ≡ 0
total_zero zero = refl
total_zero (suc n) = omega (arith, total_zero n)

total_add : (f g : ℕ → ℕ) (n : ℕ) → total (λ j. f j + g j) n ≡ total f n + total g n
total_add f g zero = refl
total_add f g (suc n) = omega (arith, total_add f g n)

total_none : (n k : ℕ) → n ≤ k → total (λ j. one (eqb j k)) n ≡ 0
total_none zero k h = refl
total_none (suc n) k h = rw (ne_eqb n k (λ e. omega arith)) (omega (arith, total_none n k (omega arith)))

total_one : (n k : ℕ) → k < n → total (λ j. one (eqb j k)) n ≡ 1
total_one zero k h = absurd (omega arith)
total_one (suc n) k h =
    elim (ℕ_discrete n k) [
      | yes e ↦ rw (eq-eqb n k e) (omega (arith, total_none n k (omega (arith, e))))
      | no d ↦ rw (ne_eqb n k d) (omega (arith, total_one n k (omega (arith, d))))
    ]

total_most : (f : ℕ → ℕ) (n : ℕ) → ((j : ℕ) → f j ≤ 1) → total f n ≤ n
total_most f zero h = omega arith
total_most f (suc n) h = omega (arith, h n, total_most f n h)

total_less : (f : ℕ → ℕ) (n k : ℕ) → ((j : ℕ) → f j ≤ 1) → k < n → f k ≡ 0 → total f n < n
total_less f zero k h q e = absurd (omega arith)
total_less f (suc n) k h q e =
    elim (ℕ_discrete n k) [
      | yes z ↦ (let y : f n ≡ 0 = ap f z ∙ e in omega (arith, y, total_most f n h))
      | no d ↦ omega (arith, h n, total_less f n k h (omega (arith, d)) e)
    ]

-- NAMES IN THE ORDER

abbrev task : ℕ → Task
task n = record { 0 = n }

-- Every name is below n: then the counts of the n names make up the length.
names_all : (n : ℕ) (o : List Task) → All (λ t. t.0 < n) o → total (λ j. times (task j) o) n ≡ length o
unfolding times
names_all n [] h = total_zero n
names_all n (t ∷ ts) h = total_add (λ j. one (eqb j t.0)) (λ j. times (task j) ts) n ∙ omega (arith, total_one n t.0 h.0, names_all n ts h.1)

module _ {P : Type 0} where
  waiting_below : (l : List (Standing P)) (n : ℕ) → 0 < waiting_at l n → n < length l
  unfolding waiting_at
  waiting_below [] n h = absurd (omega arith)
  waiting_below (x ∷ xs) zero h = omega arith
  waiting_below (x ∷ xs) (suc n) h = omega (arith, waiting_below xs n h)

  at_below : (l : List (Standing P)) (n : ℕ) (x : Standing P) → get_elem? l n ≡ some x → n < length l
  at_below [] n x e = let z : ◌≡◌ {A = ℕ} 0 1 = cc in absurd (omega (arith, z))
  at_below (y ∷ ys) zero x e = omega arith
  at_below (y ∷ ys) (suc n) x e = omega (arith, at_below ys n x e)

-- THE LAWS

module _ {P : Type 0} (look : P → Look P) (m : Machine P) (f : Fits look m) where
  named_below : (o : List Task) → ((t : Task) → times t o ≤ times t m.order) → All (λ t. t.0 < length m.tasks) o
  unfolding times
  named_below [] h = tt
  named_below (t ∷ ts) h =
      let self : one (eqb t.0 t.0) ≡ 1 = ap one (eq-eqb t.0 t.0 refl) in
      (waiting_below m.tasks t.0 (omega (arith, h t, f.ordered t, self)), named_below ts (λ u. omega (arith, h u)))

  counts : ℕ → ℕ
  counts j = times (task j) m.order

  once : (j : ℕ) → counts j ≤ 1
  unfolding counts
  once j = omega (arith, f.ordered (task j), waiting_le m.tasks j)

  all_counted : total counts (length m.tasks) ≡ length m.order
  unfolding counts
  all_counted = names_all (length m.tasks) m.order (named_below m.order (λ t. omega arith))

  pub spare : (t : Task) (x : Standing P) → get_elem? m.tasks t.0 ≡ some x → x.status ≡ Able → length m.order < length m.tasks
  unfolding counts
  spare t x h e = omega (arith, all_counted, total_less counts (length m.tasks) t.0 once (at_below m.tasks t.0 x h) (f.ordered t ∙ waiting_at_lem m.tasks t.0 x h ∙ ap mark e))
