-- Laws that the proofs of this crate cite. Assumes nothing.
use mathlib.Core.Path.{◌≡◌, refl, sym, ap, ◌∙◌}
use mathlib.Core.Bool.{cond}
use mathlib.Core.List.{List}
use Prim.Native.Nat.{ℕ, zero, suc, ◌+◌, ◌%◌, ◌<◌, ◌≤◌}
use native.Mathlib.Nat.{mod-eq_of_lt}
use native.Mathlib.Decide.{dec_lt}
use native.Mathlib.Omega.{arith}
use borrow.Author.Tests.{lt-ltb, le-ltb}
use lib.Dec.{ltb}
use lib.ListN.{get_or, set, replicate}
use Rattle.machine.specs.Kinds.{Row, Counts, TaskState}
use Rattle.meaning.specs.Image.{row_no, task_no}
use Rattle.meaning.specs.Bytes.{tabulate, first_row_in}
use Rattle.machine_records.specs.Records.{Records, blank_task, task_in, with_counts, task_went}
use Rattle.machine_store.specs.Store.{records_in, Plain}
use Rattle.machine_store.specs.Laws.Tables.{table_set, table_at}
use Rattle.machine.specs.Public.{fresh_task, fresh_tasks, fresh_records}

-- A FRESH START: nothing but zeros, then task behind task at its first row

pub blank_plain : Plain (replicate 181 0)
blank_plain = record { statuses = λ t l. zeros 181 t 2; oks = λ t l. zeros 181 (16 + t) 1; closeds = λ k l. zeros 181 (48 + k) 1 }
  where
    zeros : (n i m : ℕ) → get_or (replicate n 0) i 0 ≤ m
    zeros zero i m = omega arith
    zeros (suc n) zero m = omega arith
    zeros (suc n) (suc i) m = zeros n i m

module _ (rs : List ℕ) (k : Counts) where
  blank_reads : records_in (replicate 33 0) (replicate 181 0) ≡ fresh_records (fresh_tasks rs k 0) 0 0
  unfolding records_in tabulate
  blank_reads = refl

  -- The counts are put among the zeros,
  pub fresh_counted : (n m : ℕ) (z : Records) → z ≡ with_counts (records_in (replicate 33 0) (replicate 181 0)) n m → z ≡ fresh_records (fresh_tasks rs k 0) n m
  fresh_counted n m z e = e ∙ ap (λ s. with_counts s n m) blank_reads

  abbrev first_row : ℕ → Row
  first_row t = first_row_in rs k.rows k.channels (task_no t)

  abbrev standing : ℕ → ℕ → TaskState
  standing n t = fresh_task (cond (ltb t n) (first_row t) (row_no 0))

  one_more : (n t : ℕ) → (t ≡ n → ⊥) → ltb t (n + 1) ≡ ltb t n
  one_more n t d =
      elim (dec_lt t n) [
        | yes h ↦ lt-ltb t (n + 1) (omega arith) ∙ sym (lt-ltb t n h)
        | no g ↦ le-ltb t (n + 1) (omega arith) ∙ sym (le-ltb t n (omega arith))
      ]

  -- and a task goes to its first row.
  pub fresh_lap : (t : ℕ) → t < 16 → (r : Row) → r ≡ first_row t → (n m : ℕ) (s z : Records)
      → s ≡ fresh_records (fresh_tasks rs k t) n m → z ≡ task_went s (task_no t) r → z ≡ fresh_records (fresh_tasks rs k (t + 1)) n m
  fresh_lap t h r er n m s z es ez =
      let here : standing (t + 1) t ≡ fresh_task r = rw (lt-ltb t (t + 1) (omega arith), er) in
      let all = table_set (standing t) (standing (t + 1)) 16 0 t t (omega arith) h (λ j d a b. rw (one_more t j d)) in
      let was : task_in (fresh_tasks rs k t) (task_no t) ≡ standing t (0 + t % 16) = table_at (standing t) 16 0 (t % 16) blank_task (omega arith) in
      rw (ez, es, was, mod-eq_of_lt h) (ap (λ xs. fresh_records xs n m) (sym (all ∙ ap (set (tabulate (standing t) 16 0) t) here)))
