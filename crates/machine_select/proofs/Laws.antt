-- What a case row offers, by its op; one lap of each walk over the case rows, and the clauses of a table that a count picks.
use mathlib.Core.Path.{◌≡◌, refl, sym, ap, ◌∙◌}
use Rattle.std.specs.Prelude.{Option, None}
use mathlib.Core.Bool.{Bool, true, false}
use mathlib.Core.List.{List, [], ◌∷◌}
use Prim.Native.Nat.{ℕ, zero, suc, ◌+◌, ◌-◌, ◌%◌, ◌<◌}
use native.Mathlib.Omega.{arith}
use lib.ListN.{length, get_or}
use Rattle.meaning.specs.declared.Fields.{Fields}
use Rattle.meaning.specs.declared.Op.TheVariants.{Send, Forward, Recv}
use Rattle.machine_records.specs.declared.Offer.{Offer}
use Rattle.meaning.specs.Image.{row_no}
use Rattle.meaning.specs.Laws.Ops.{by_op}
use Rattle.meaning.specs.Bytes.{fields, port_of, statement_of, fields_of_row, rows_in, tabulate}
use Rattle.machine_records.specs.Cells.{keep}
use Rattle.machine_records.specs.Records.{Records}
use Rattle.machine_records.specs.Waiters.{offers, case_offer, one}
use Rattle.machine_records.specs.Rules.{chosen_of}

abbrev offer_by : Fields → ℕ → Option Offer
offer_by f op =
    let p = port_of f.chan in
    let next = row_no f.next in
    get_or (None ∷ None ∷ None ∷ None ∷ None ∷ None ∷ None ∷ None ∷ None ∷ offers (Send p f.arg) next next ∷ offers (Forward p) next next ∷ offers (Recv p) next next ∷ []) op None

module _ (rs : List ℕ) (n : ℕ) (f : Fields) (ef : f ≡ fields_of_row rs (row_no n)) where
  offer_is : offer_by f f.op ≡ case_offer (rows_in rs (row_no n))
  unfolding rows_in statement_of
  offer_is =
      by_op (λ op. offer_by f op ≡ case_offer (statement_of (fields op f.chan f.arg f.next f.other)))
      refl refl refl refl refl refl refl refl refl refl refl refl refl (λ k. refl) f.op
      ∙ ap (λ (g : Fields). case_offer (statement_of g)) ef

  pub offer_at : (op : ℕ) → f.op ≡ op → offer_by f op ≡ case_offer (rows_in rs (row_no n))
  offer_at op e = ap (offer_by f) (sym e) ∙ offer_is

  pub offer_none : (f.op ≡ 9 → ⊥) → (f.op ≡ 10 → ⊥) → (f.op ≡ 11 → ⊥) → None ≡ case_offer (rows_in rs (row_no n))
  offer_none x y z = by_op (λ m. (m ≡ 9 → ⊥) → (m ≡ 10 → ⊥) → (m ≡ 11 → ⊥) → None ≡ offer_by f m)
      (λ u v w. refl) (λ u v w. refl) (λ u v w. refl) (λ u v w. refl) (λ u v w. refl) (λ u v w. refl) (λ u v w. refl) (λ u v w. refl) (λ u v w. refl)
      (λ u v w. absurd (u refl)) (λ u v w. absurd (v refl)) (λ u v w. absurd (w refl)) (λ u v w. refl) (λ m u v w. refl) f.op x y z ∙ offer_is

rows_lap : (k i n : ℕ) → i < k → tabulate (λ j. j) (k - i) (n + i) ≡ (n + i) ∷ tabulate (λ j. j) (k - (i + 1)) (n + (i + 1))
unfolding tabulate
rows_lap k i n h =
    let e : k - i ≡ suc (k - (i + 1)) = omega arith in
    let j : n + (i + 1) ≡ suc (n + i) = omega arith in
    rw (e, j)

-- What is kept of the rows from row n + i on, with row n + i kept or not.
module _ (p : ℕ → Bool) (k i n : ℕ) (h : i < k) where
  pub kept_count : (b : Bool) → p (n + i) ≡ b → length (keep p (tabulate (λ j. j) (k - i) (n + i))) ≡ one b + length (keep p (tabulate (λ j. j) (k - (i + 1)) (n + (i + 1))))
  kept_count true e = rw (rows_lap k i n h, e) (omega arith)
  kept_count false e = rw (rows_lap k i n h, e) (omega arith)

  pub kept_here : (j : ℕ) → p (n + i) ≡ true → j ≡ 0 → get_or (keep p (tabulate (λ j. j) (k - i) (n + i))) j 0 ≡ n + i
  kept_here j e z = rw (rows_lap k i n h, e, z)

  pub kept_next : (j : ℕ) → p (n + i) ≡ true → (j ≡ 0 → ⊥) → get_or (keep p (tabulate (λ j. j) (k - i) (n + i))) j 0 ≡ get_or (keep p (tabulate (λ j. j) (k - (i + 1)) (n + (i + 1)))) (j - 1) 0
  kept_next zero e z = absurd (z refl)
  kept_next (suc j) e z =
      let q : suc j - 1 ≡ j = omega arith in
      rw (rows_lap k i n h, e, q)

  pub kept_past : (j : ℕ) → p (n + i) ≡ false → get_or (keep p (tabulate (λ j. j) (k - i) (n + i))) j 0 ≡ get_or (keep p (tabulate (λ j. j) (k - (i + 1)) (n + (i + 1)))) j 0
  kept_past j e = rw (rows_lap k i n h, e)

-- The case taken, by the number of ready ones.
module _ (rs : List ℕ) (rows : ℕ) (s : Records) (choice : ℕ) where
  pub chosen_some : (ns : List ℕ) → (length ns ≡ 0 → ⊥) → chosen_of rs rows s ns choice ≡ case_offer (rows_in rs (row_no (get_or ns (choice % length ns) 0)))
  chosen_some [] h = absurd (h refl)
  chosen_some (n ∷ ns) h = refl

  pub chosen_none : (ns : List ℕ) → length ns ≡ 0 → chosen_of rs rows s ns choice ≡ None
  chosen_none [] h = refl
  chosen_none (n ∷ ns) h = absurd (omega arith)
