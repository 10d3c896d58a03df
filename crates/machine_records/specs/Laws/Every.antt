-- A test passed by the first n numbers, as a test and as a fact; one number tested.
use Rattle.std.specs.Prelude.{◌≡◌, Bool, true, ◌&&◌}
use Rattle.std.proofs.Math.Path.{refl, ap}
use Rattle.std.proofs.Common.{sym, ◌∙◌, add-zero, zero-add, le_of_suc-le-suc, not-suc-le-zero, add-one}
use Prim.Native.Nat.{ℕ, zero, suc, ◌+◌, ◌-◌, ◌<◌}
use native.Mathlib.Omega.{arith}
use Rattle.meaning.specs.Laws.Tests.{both}
use Rattle.machine_records.specs.Fitting.{every}

pub join : (a b : Bool) → a ≡ true → b ≡ true → (a && b) ≡ true
join a b p q = rw (p, q)

module _ (p : ℕ → Bool) where
  pub every_step : (n i : ℕ) → i < n → every p (n - i) i ≡ (p i && every p (n - (i + 1)) (i + 1))
  unfolding every
  every_step n i h =
      let e : n - i ≡ suc (n - (i + 1)) = omega arith in
      rw (e, add-one)

  every_all : (n i : ℕ) → every p n i ≡ true → (j : ℕ) → j < n → p (i + j) ≡ true
  unfolding every
  every_all zero i e j h = absurd (not-suc-le-zero h)
  every_all (suc n) i e zero h = ap p (add-zero i) ∙ (both (p i) (every p n (suc i)) e).0
  every_all (suc n) i e (suc j) h =
      let z : i + suc j ≡ suc i + j = omega arith in
      ap p z ∙ every_all n (suc i) (both (p i) (every p n (suc i)) e).1 j (le_of_suc-le-suc h)

  all_every : (n i : ℕ) → ((j : ℕ) → j < n → p (i + j) ≡ true) → every p n i ≡ true
  unfolding every
  all_every zero i f = refl
  all_every (suc n) i f =
      join (p i) (every p n (suc i)) (ap p (sym (add-zero i)) ∙ f zero (omega arith))
      (all_every n (suc i) (λ j h. (let z : suc i + j ≡ i + suc j = omega arith in ap p z ∙ f (suc j) (omega arith))))

  pub passes : (n : ℕ) → every p n 0 ≡ true → (j : ℕ) → j < n → p j ≡ true
  passes n e j h = ap p (sym (zero-add j)) ∙ every_all n 0 e j h

  pub pass : (n : ℕ) → ((j : ℕ) → j < n → p j ≡ true) → every p n 0 ≡ true
  pass n f = all_every n 0 (λ j h. ap p (zero-add j) ∙ f j h)
