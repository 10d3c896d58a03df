-- What the arrays read as where cells of the order are set.
use Rattle.std.specs.Prelude.{◌≡◌, refl, true, false, List, ℕ, zero, suc, ◌+◌, ◌%◌, ◌<◌, ◌≤◌, take}
use Rattle.std.proofs.Common.{sym, ap, ◌∙◌, append-nil, mod-lt, arith, length-set, length-take, drop_of_length-le, take-suc}
use Rattle.std.proofs.Math.ListN.{length, get_or, set}
use Rattle.std.proofs.Math.Seq.{get_or-set_same, get_or-set_other}
use Rattle.machine_order.specs.Kinds.{Task}
use Rattle.meaning.specs.Image.{task_no}
use Rattle.meaning.specs.Bytes.{tabulate}
use Rattle.machine_records.specs.Cells.{over, keep}
use Rattle.machine_records.specs.Laws.Cells.{over_snoc_at, lap_keeps, lap_drops}
use Rattle.machine_records.specs.Records.{other, no_tasks, with_order, joined}
use Rattle.machine_store.specs.Store.{name_of, records_in, state_in, Plain, Made}
use Rattle.machine_store.specs.Laws.Tables.{table_set, table-length, take_whole, past2, first2, second2}
use Rattle.machine_store.specs.Laws.Store.{tasks_same, chans_same, order_same, plain_set}

-- A task behind the others.
pub join_made : (w c : List ℕ) → length c ≡ 181 → (t : Task) → Made (state_in w c) (state_in w (set (set c (32 + get_or c 176 0 % 16) t.0) 176 (get_or c 176 0 % 16 + 1))) (λ s. joined s t)
unfolding records_in
join_made w c lc t =
    let h : get_or c 176 0 % 16 < 16 = mod-lt (get_or c 176 0) {m = 16} (omega arith) in
    let i = get_or c 176 0 % 16 in
    let n = get_or c 176 0 % 16 + 1 in
    let past : (j : ℕ) → (j ≡ 32 + get_or c 176 0 % 16 → ⊥) → (j ≡ 176 → ⊥) → get_or (set (set c (32 + get_or c 176 0 % 16) t.0) 176 (get_or c 176 0 % 16 + 1)) j 0 ≡ get_or c j 0 = past2 c (32 + i) t.0 176 n in
    let d = set (set c (32 + i) t.0) 176 n in
    let p = plain_set c (32 + i) t.0 (λ a. absurd (omega arith)) (λ a b. absurd (omega arith)) (λ a b. absurd (omega arith)) in
    let q = plain_set (set c (32 + i) t.0) 176 n (λ a. absurd (omega arith)) (λ a b. absurd (omega arith)) (λ a b. absurd (omega arith)) in
    record {
      same = rw (
        tasks_same w c d (λ j a b. past j (λ e. omega arith) (λ e. omega arith)) (λ j a b. past j (λ e. omega arith) (λ e. omega arith)),
        chans_same w c d (λ j a b. past j (λ e. omega arith) (λ e. omega arith)),
        table_set (name_of c) (name_of d) 16 0 i i (omega arith) h (λ j e a b. rw (past (32 + j) (λ z. e (omega arith)) (λ z. omega arith))),
        past 177 (λ e. omega arith) (λ e. omega arith),
        past 178 (λ e. omega arith) (λ e. omega arith),
        past 179 (λ e. omega arith) (λ e. omega arith),
        past 180 (λ e. omega arith) (λ e. omega arith),
        first2 c (32 + i) t.0 176 n (omega arith) (λ e. omega arith),
        second2 c (32 + i) t.0 176 n (omega arith),
      );
      plain = λ z. q (p z);
      whole = λ z. (z.0, length-set (set c (32 + i) t.0) 176 n ∙ length-set c (32 + i) t.0 ∙ z.1);
    }

-- The cells after the first j places of an order are written.
abbrev pub written : List ℕ → List Task → ℕ → List ℕ
written c o zero = c
written c o (suc j) = set (written c o j) (32 + j) (get_or o j (task_no 0)).0

module _ (w c : List ℕ) (lc : length c ≡ 181) (o : List Task) (lo : length o ≡ 16) where
  length-written : (j : ℕ) → length (written c o j) ≡ length c
  length-written zero = refl
  length-written (suc j) = length-set (written c o j) (32 + j) (get_or o j (task_no 0)).0 ∙ length-written j

  written_past : (j k : ℕ) → j ≤ 16 → (32 ≤ k → k < 48 → ⊥) → get_or (written c o j) k 0 ≡ get_or c k 0
  written_past zero k h p = refl
  written_past (suc j) k h p = get_or-set_other (written c o j) (32 + j) k (get_or o j (task_no 0)).0 0 (λ e. p (omega arith) (omega arith)) ∙ written_past j k (omega arith) p

  written_plain : (j : ℕ) → j ≤ 16 → Plain c → Plain (written c o j)
  written_plain zero h p = p
  written_plain (suc j) h p =
      plain_set (written c o j) (32 + j) (get_or o j (task_no 0)).0 (λ a. absurd (omega arith)) (λ a b. absurd (omega arith)) (λ a b. absurd (omega arith)) (written_plain j (omega arith) p)

  order_written : (j : ℕ) → j ≤ 16 → tabulate (name_of (written c o j)) 16 0 ≡ over (take j o) (tabulate (name_of c) 16 0)
  order_written zero h = refl
  order_written (suc j) h =
      let l : length (written c o j) ≡ length c = length-written j in
      table_set (name_of (written c o j)) (name_of (written c o (suc j))) 16 0 j j (omega arith) (omega arith) (λ i p a b. rw (get_or-set_other (written c o j) (32 + j) (32 + i) (get_or o j (task_no 0)).0 0 (λ e. p (omega arith))))
      ∙ rw (order_written j (omega arith), get_or-set_same (written c o j) (32 + j) (get_or o j (task_no 0)).0 0 (omega arith), take-suc o j (task_no 0) (omega arith))
      (over_snoc_at (take j o) (tabulate (name_of c) 16 0) (get_or o j (task_no 0)) j (simp length-take (omega arith)) (rw (table-length (name_of c) 16 0) (omega arith)))

  order_whole : tabulate (name_of (written c o 16)) 16 0 ≡ o
  order_whole =
      order_written 16 (omega arith)
      ∙ rw (drop_of_length-le (tabulate (name_of c) 16 0) {i = length (take 16 o)} (rw (table-length (name_of c) 16 0) (simp length-take (omega arith))))
      (append-nil (take 16 o) ∙ take_whole o 16 (omega arith))

  pub order_made : (n : ℕ) → Made (state_in w c) (state_in w (set (written c o 16) 176 n)) (λ s. with_order s o n)
  unfolding records_in
  order_made n =
      let l : length (written c o 16) ≡ length c = length-written 16 in
      let past : (j : ℕ) → (32 ≤ j → j < 48 → ⊥) → (j ≡ 176 → ⊥) → get_or (set (written c o 16) 176 n) j 0 ≡ get_or c j 0 = λ j p q. get_or-set_other (written c o 16) 176 j n 0 q ∙ written_past 16 j (omega arith) p in
      let d = set (written c o 16) 176 n in
      record {
        same = rw (
          tasks_same w c d (λ j a b. past j (λ x y. omega arith) (λ e. omega arith)) (λ j a b. past j (λ x y. omega arith) (λ e. omega arith)),
          chans_same w c d (λ j a b. past j (λ x y. omega arith) (λ e. omega arith)),
          order_same w (written c o 16) d (λ j a b. get_or-set_other (written c o 16) 176 j n 0 (λ e. omega arith)),
          order_whole,
          past 177 (λ a b. omega arith) (λ e. omega arith),
          past 178 (λ a b. omega arith) (λ e. omega arith),
          past 179 (λ a b. omega arith) (λ e. omega arith),
          past 180 (λ a b. omega arith) (λ e. omega arith),
          get_or-set_same (written c o 16) 176 n 0 (omega arith),
        );
        plain = λ p. plain_set (written c o 16) 176 n (λ a. absurd (omega arith)) (λ a b. absurd (omega arith)) (λ a b. absurd (omega arith)) (written_plain 16 (omega arith) p);
        whole = λ z. (z.0, length-set (written c o 16) 176 n ∙ l ∙ z.1);
      }

-- One lap of the walk that keeps every task but t: x stands at place i.
module _ (t : Task) (l kept : List Task) (w i : ℕ) (x : Task) (hl : length l ≡ 16) (hi : i < 16) (ex : x ≡ get_or l (i % 16) (task_no 0))
    (ho : kept ≡ over (keep (other t) (take i l)) no_tasks) (hw : w ≡ length (keep (other t) (take i l))) where
  here : get_or l i (task_no 0) ≡ x
  here =
      let e : i % 16 ≡ i = omega arith in
      ap (λ n. get_or l n (task_no 0)) (sym e) ∙ sym ex

  pub leave_keeps : other t x ≡ true → (set kept w x ≡ over (keep (other t) (take (i + 1) l)) no_tasks) × (w + 1 ≡ length (keep (other t) (take (i + 1) l)))
  leave_keeps d =
      let k = lap_keeps (other t) l no_tasks kept w i (task_no 0) (omega arith) (omega arith) ho hw (rw here d) in
      (ap (set kept w) (sym here) ∙ k.0, k.1)

  pub leave_drops : other t x ≡ false → (kept ≡ over (keep (other t) (take (i + 1) l)) no_tasks) × (w ≡ length (keep (other t) (take (i + 1) l)))
  leave_drops d = lap_drops (other t) l no_tasks kept w i (task_no 0) (omega arith) (omega arith) ho hw (rw here d)
