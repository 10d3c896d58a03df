-- The test of plain cells and the fact are one: each gives the other.
use Rattle.std.specs.Prelude.{◌≡◌, true, List, ℕ, ◌+◌, ◌≤◌, ◌<◌, leb}
use Rattle.std.proofs.Common.{sym, zero-add, leb-true, le-leb}
use Rattle.std.proofs.Math.Path.{subst}
use Rattle.std.proofs.Math.ListN.{get_or}
use Rattle.meaning.specs.Laws.Tests.{both}
use Rattle.machine_records.specs.Fitting.{fitting}
use Rattle.machine_store.specs.Store.{Plain, records_in}
use Rattle.machine_fit.specs.Kinds.{Counts}
use Rattle.machine_fit.specs.Fitted.{all_at_most, plainly, fitting_in}
use Rattle.machine_records.specs.Laws.Every.{join, passes, pass}

module _ (c : List ℕ) where
  most_of : (place n top : ℕ) → all_at_most c place n top ≡ true → (i : ℕ) → i < n → get_or c (place + i) 0 ≤ top
  most_of place n top e i h = leb-true _ _ (passes (λ i. leb (get_or c (place + i) 0) top) n e i h)

  of_most : (place n top : ℕ) → ((i : ℕ) → i < n → get_or c (place + i) 0 ≤ top) → all_at_most c place n top ≡ true
  of_most place n top f = pass (λ i. leb (get_or c (place + i) 0) top) n (λ i h. le-leb _ _ (f i h))

  first : (i n : ℕ) → get_or c (0 + i) 0 ≤ n → get_or c i 0 ≤ n
  first i n h = subst (λ k. get_or c k 0 ≤ n) (zero-add i) h

  pub plainly_plain : plainly c ≡ true → Plain c
  unfolding plainly
  plainly_plain e =
      let a = both _ _ e in
      let b = both _ _ a.1 in
      record { statuses = λ t h. first t 2 (most_of 0 16 2 a.0 t h); oks = most_of 16 16 1 b.0; closeds = most_of 48 16 1 b.1 }

  pub plain_plainly : Plain c → plainly c ≡ true
  unfolding plainly
  plain_plainly p =
      join _ _ (of_most 0 16 2 (λ t h. subst (λ k. get_or c k 0 ≤ 2) (sym (zero-add t)) (p.statuses t h)))
      (join _ _ (of_most 16 16 1 p.oks) (of_most 48 16 1 p.closeds))

-- A state that fits is plain, and its records fit; and back.
module _ (rs : List ℕ) (k : Counts) (w c : List ℕ) where
  pub fitting_parts : fitting_in rs k w c ≡ true → Plain c × (fitting rs k (records_in w c) ≡ true)
  unfolding fitting_in
  fitting_parts e =
      let a = both _ _ e in
      (plainly_plain c a.0, a.1)

  pub parts_fitting : Plain c → fitting rs k (records_in w c) ≡ true → fitting_in rs k w c ≡ true
  unfolding fitting_in
  parts_fitting p f = join _ _ (plain_plainly c p) f
