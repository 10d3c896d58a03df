-- Notes that are held, taken apart. Assumes nothing.
use Rattle.std.specs.Prelude.{◌≡◌, List, [], ◌∷◌, ◌++◌, ℕ, suc, ◌+◌, ◌*◌, get_or, length}
use Rattle.std.proofs.Common.{subst, arith}
use Rattle.translate_rows.specs.Stored.{Held}

module _ (ns : List ℕ) where
  pub held_left : (i : ℕ) (xs ys : List ℕ) → Held ns i (xs ++ ys) → Held ns i xs
  held_left i [] ys h = tt
  held_left i (x ∷ xs) ys h = (h.0, held_left (suc i) xs ys h.1)

  pub held_right : (i k : ℕ) (xs ys : List ℕ) → i + length xs ≡ k → Held ns i (xs ++ ys) → Held ns k ys
  held_right i k [] ys e h = subst (λ n. Held ns n ys) (omega arith) h
  held_right i k (x ∷ xs) ys e h = held_right (suc i) k xs ys (omega arith) h.1

  -- The three numbers at row r, and what is noted behind them.
  pub record Three (r a b c : ℕ) (xs : List ℕ) : Type 0 where
    pub head : get_or ns (3 * r) 0 ≡ a
    pub arg : get_or ns (3 * r + 1) 0 ≡ b
    pub size : get_or ns (3 * r + 2) 0 ≡ c
    pub behind : Held ns (3 * (r + 1)) xs

  pub three : (r a b c : ℕ) (xs : List ℕ) → Held ns (3 * r) (a ∷ b ∷ c ∷ xs) → Three r a b c xs
  three r a b c xs h =
      let p : 3 * r + 1 ≡ suc (3 * r) = omega arith in
      let q : 3 * r + 2 ≡ suc (suc (3 * r)) = omega arith in
      let z : suc (suc (suc (3 * r))) ≡ 3 * (r + 1) = omega arith in
      record { head = h.0; arg = rw p h.1.0; size = rw q h.1.1.0; behind = subst (λ n. Held ns n xs) z h.1.1.1 }
