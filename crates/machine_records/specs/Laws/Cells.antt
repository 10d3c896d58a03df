-- The laws by which loops over an array's cells are proved, over any element and any number of cells.
use Rattle.std.specs.Prelude.{◌≡◌, refl, Bool, true, false, List, [], ◌∷◌, ◌++◌, map, ℕ, zero, suc, ◌+◌, ◌-◌, ◌<◌, ◌≤◌, length, get_or, set, take, drop}
use Rattle.std.proofs.Common.{sym, ap, ◌∙◌, append-nil, le_of_suc-le-suc, not-suc-le-zero, add-one, arith, length-append, length-take, length-drop, take-suc, get_or-drop}
use Rattle.std.proofs.lemmas.List.{length-map}
use Rattle.std.proofs.Math.Seq.{take-nil, take-append_seam}
use Rattle.machine_records.specs.Cells.{over, cons_if, keep}

module _ {A : Type 0} where
  pub take_over : (new old : List A) → take (length new) (over new old) ≡ new
  take_over new old = take-append_seam new (drop (length new) old)

  over_snoc : (new old : List A) (x : A) → length new < length old → set (over new old) (length new) x ≡ over (new ++ (x ∷ [])) old
  over_snoc [] [] x h = absurd (not-suc-le-zero h)
  over_snoc [] (y ∷ ys) x h = refl
  over_snoc (a ∷ b) [] x h = absurd (not-suc-le-zero h)
  over_snoc (a ∷ b) (y ∷ ys) x h = ap (λ (l : List A). a ∷ l) (over_snoc b ys x (le_of_suc-le-suc h))

  pub over_snoc_at : (new old : List A) (x : A) (n : ℕ) → length new ≡ n → n < length old → set (over new old) n x ≡ over (new ++ (x ∷ [])) old
  over_snoc_at new old x n e h = rw (← e) (over_snoc new old x (omega arith))

  cons_if-append : (b : Bool) (y : A) (l m : List A) → cons_if b y (l ++ m) ≡ cons_if b y l ++ m
  cons_if-append true y l m = refl
  cons_if-append false y l m = refl

  keep_append : (p : A → Bool) (xs ys : List A) → keep p (xs ++ ys) ≡ keep p xs ++ keep p ys
  keep_append p [] ys = refl
  keep_append p (x ∷ xs) ys = rw (keep_append p xs ys) (cons_if-append (p x) x (keep p xs) (keep p ys))

  cons_if-length : (b : Bool) (y : A) (l : List A) → length (cons_if b y l) ≤ suc (length l)
  cons_if-length true y l = omega arith
  cons_if-length false y l = omega arith

  pub keep-length : (p : A → Bool) (xs : List A) → length (keep p xs) ≤ length xs
  keep-length p [] = omega arith
  keep-length p (x ∷ xs) = omega (arith, keep-length p xs, cons_if-length (p x) x (keep p xs))

  kept_below : (p : A → Bool) (l : List A) (j : ℕ) → length (keep p (take j l)) ≤ j
  kept_below p l j = omega (arith, keep-length p (take j l), length-take j l)

  -- One lap of a loop that filters l into o, which had the cells z: w are kept of the first j.
  module _ (p : A → Bool) (l z o : List A) (w j : ℕ) (d : A) (hj : j < length l) (hz : j < length z)
      (ho : o ≡ over (keep p (take j l)) z) (hw : w ≡ length (keep p (take j l))) where
    one_more : (b : Bool) → p (get_or l j d) ≡ b → keep p (take (j + 1) l) ≡ keep p (take j l) ++ cons_if b (get_or l j d) []
    one_more b e = rw (add-one, take-suc l j d hj, keep_append, e)

    pub lap_keeps : p (get_or l j d) ≡ true → (set o w (get_or l j d) ≡ over (keep p (take (j + 1) l)) z) × (w + 1 ≡ length (keep p (take (j + 1) l)))
    lap_keeps e =
        let q : keep p (take (j + 1) l) ≡ keep p (take j l) ++ (get_or l j d ∷ []) = one_more true e in (
          rw (ho, hw, q) (over_snoc (keep p (take j l)) z (get_or l j d) (omega (arith, kept_below p l j))),
          rw q (omega (arith, length-append (keep p (take j l)) (get_or l j d ∷ []))),
        )

    pub lap_drops : p (get_or l j d) ≡ false → (o ≡ over (keep p (take (j + 1) l)) z) × (w ≡ length (keep p (take (j + 1) l)))
    lap_drops e =
        let q : keep p (take (j + 1) l) ≡ keep p (take j l) = one_more false e ∙ append-nil (keep p (take j l)) in
        (rw q ho, rw q hw)

  -- A row without its first element: the same taken ahead or behind, and one lap of the loop that shifts it.
  pub tail_take : (n : ℕ) (l : List A) → drop 1 (take n l) ≡ take (n - 1) (drop 1 l)
  tail_take zero l = refl
  tail_take (suc i) [] = sym (take-nil (suc i - 1))
  tail_take (suc i) (x ∷ xs) =
      let e : suc i - 1 ≡ i = omega arith in
      rw e

  pub shift_lap : (row z r : List A) (i : ℕ) (d : A) → i + 1 < length row → i < length z → r ≡ over (take i (drop 1 row)) z → set r i (get_or row (i + 1) d) ≡ over (take (i + 1) (drop 1 row)) z
  shift_lap row z r i d h hz e =
      let n : length (drop 1 row) ≡ length row - 1 = length-drop 1 row in
      let k : 1 + i ≡ i + 1 = omega arith in
      rw (e, ← k, ← get_or-drop 1 row i d, k, add-one, take-suc (drop 1 row) i d (omega arith))
      (over_snoc_at (take i (drop 1 row)) z (get_or (drop 1 row) i d) i (simp length-take (omega arith)) hz)

-- The length of an array of structs, from what is known of the array.
pub length_mapped : (X Y : Type 0) (f : X → Y) (l : List X) (n : ℕ) → length (map f l) ≡ n → length l ≡ n
length_mapped X Y f l n p = sym (length-map l f) ∙ p
