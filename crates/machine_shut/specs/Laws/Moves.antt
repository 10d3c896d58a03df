-- The walk of a close, lap by lap.
use Rattle.std.specs.Prelude.{◌≡◌, refl, Bool, true, false, not, Option, Some, None, List, [], ◌∷◌, ℕ, suc, ◌+◌, ◌-◌, ◌%◌, ◌<◌, get_or, set, take, drop}
use Rattle.std.proofs.Common.{sym, ap₂, ◌∙◌, drop_of_length-le, drop-cons}
use Rattle.std.proofs.Math.Path.{ap}
use Rattle.std.proofs.Math.Numerals.{add-one}
use Rattle.std.proofs.Math.Nat.{mod-lt}
use native.Mathlib.Omega.{arith}
use Rattle.std.proofs.Math.ListN.{length, length-take}
use Rattle.std.proofs.Math.Seq.{get_or-take}
use Rattle.machine_waiters.specs.Served.{miss_of}
use Rattle.machine_shut.specs.Kinds.{Task, Chan, Row, TaskState, Receiving, Offer, State}
use Rattle.meaning.specs.Image.{task_no}
use Rattle.machine_records.specs.Cells.{over, cons_if, keep}
use Rattle.machine_records.specs.Laws.Cells.{lap_keeps, lap_drops}
use Rattle.machine_records.specs.Records.{Records, task_in, order_of, got_task, no_tasks, with_tasks, with_order}
use Rattle.machine_records.specs.Waiters.{is_offer, one, count_of, matched_at, waits_at, count_waiters}
use Rattle.machine_records.specs.Plans.{idle, woken_by, woken_tasks, woken_all}
use Rattle.machine_store.specs.Store.{records_of, RowIn, Plain, Whole, Made}
use Rattle.machine_store.specs.Laws.Store.{row_same, order_length}
use Rattle.machine_shut.specs.Moves.{Began, WokenSo}

-- A task of the order is woken or kept: what has left the order counts the receivers.
woken_or_kept : (b : Bool) (t : Task) (l : List Task) (n m : ℕ) → n + length l ≡ m → one b + n + length (cons_if (not b) t l) ≡ suc m
woken_or_kept true t l n m h = omega (arith, h)
woken_or_kept false t l n m h = omega (arith, h)

counted : (f : Task → Option Offer) (ts : List Task) → count_of f ts + length (keep (λ t. not (is_offer (f t))) ts) ≡ length ts
counted f [] = omega arith
counted f (t ∷ ts) = woken_or_kept (is_offer (f t)) t (keep (λ u. not (is_offer (f u))) ts) (count_of f ts) (length ts) (counted f ts)

module _ (rs : List ℕ) (s : Records) (c : Chan) (l16 : length s.order ≡ 16) where
  pub woken_count : s.waiting % 17 - length (keep (idle rs s c) (order_of s)) ≡ count_waiters rs s Receiving c
  unfolding count_waiters
  woken_count =
      let b : s.waiting % 17 < 17 = mod-lt s.waiting {m = 17} (omega arith) in
      omega (arith, l16, counted (waits_at rs s Receiving c) (order_of s), length-take (s.waiting % 17) s.order)

  -- The task t stands at place i.
  pub woken_lap : (i : ℕ) (t : Task) (xs : List TaskState) → i < s.waiting % 17 → t ≡ get_or s.order (i % 16) (task_no 0)
      → woken_tasks rs s c (drop i (order_of s)) xs ≡ woken_tasks rs s c (drop (i + 1) (order_of s)) (woken_by rs s c t (waits_at rs s Receiving c t) xs)
  unfolding woken_tasks
  woken_lap i t xs h e =
      let b : s.waiting % 17 < 17 = mod-lt s.waiting {m = 17} (omega arith) in
      let m : i < length (take (s.waiting % 17) s.order) = simp length-take (omega arith) in
      let z : i % 16 ≡ i = omega arith in
      rw (drop-cons (take (s.waiting % 17) s.order) i (task_no 0) m, get_or-take (s.waiting % 17) s.order i (task_no 0) h, add-one, e, z)

-- What the walk has made of the first i places: the tasks' records were xs₀ and are xs; w tasks are kept.
pub record WalkedSo (rs : List ℕ) (c : Chan) (s : Records) (xs₀ xs : List TaskState) (kept : List Task) (w i : ℕ) : Type 0 where
  pub kept_are : kept ≡ over (keep (idle rs s c) (take i s.order)) no_tasks
  pub kept_count : w ≡ length (keep (idle rs s c) (take i s.order))
  pub woken_are : woken_tasks rs s c (order_of s) xs₀ ≡ woken_tasks rs s c (drop i (order_of s)) xs

pub walked_none : (rs : List ℕ) (c : Chan) (s : Records) (xs : List TaskState) → WalkedSo rs c s xs xs no_tasks 0 0
walked_none rs c s xs = record { kept_are = refl; kept_count = refl; woken_are = refl }

-- An offer by where it leads with ok off.
none_offered : (g : Option Offer) → miss_of g ≡ None → not (is_offer g) ≡ true
none_offered None e = refl
none_offered (Some g) e = absurd (let z : ◌≡◌ {A = ℕ} 0 1 = cc in omega (arith, z))

some_offered : (g : Option Offer) (miss : Row) → miss_of g ≡ Some miss → not (is_offer g) ≡ false
some_offered None miss e = absurd (let z : ◌≡◌ {A = ℕ} 0 1 = cc in omega (arith, z))
some_offered (Some g) miss e = refl

module _ (rs : List ℕ) (s : Records) (c : Chan) (t : Task) (xs : List TaskState) where
  none_woken : (g : Option Offer) → miss_of g ≡ None → woken_by rs s c t g xs ≡ xs
  none_woken None e = refl
  none_woken (Some g) e = absurd (let z : ◌≡◌ {A = ℕ} 0 1 = cc in omega (arith, z))

  some_woken : (g : Option Offer) (miss : Row) → miss_of g ≡ Some miss → woken_by rs s c t g xs ≡ set xs (t.0 % 16) (got_task (task_in xs t) 0 false miss)
  some_woken None miss e = absurd (let z : ◌≡◌ {A = ℕ} 0 1 = cc in omega (arith, z))
  some_woken (Some g) miss e = (let q : g.miss ≡ miss = cc in rw q)

-- One lap: the task t stands at place i, and at a row that leads on with ok off as f says.
module _ (rs : List ℕ) (c : Chan) (s z : Records) (before : List ℕ) (b : Began before s z) (l16 : length z.order ≡ 16) (i : ℕ) (h : i < z.waiting % 17)
    (t : Task) (et : t ≡ get_or z.order (i % 16) (task_no 0)) (row : Row) (er : RowIn before t row) (f : Option Row) (ef : f ≡ miss_of (matched_at rs Receiving c row))
    (xs₀ xs : List TaskState) (kept : List Task) (w : ℕ) (p : WalkedSo rs c s xs₀ xs kept w i) where
  small : i < 16
  small =
      let m : z.waiting % 17 < 17 = mod-lt z.waiting {m = 17} (omega arith) in
      omega arith

  long : length s.order ≡ 16
  long = ap (λ (o : List Task). length o) b.order ∙ l16

  within : i < s.waiting % 17
  within = omega (arith, h, ap (λ (n : ℕ). n % 17) b.waiting)

  named : t ≡ get_or s.order (i % 16) (task_no 0)
  named = et ∙ ap (λ (o : List Task). get_or o (i % 16) (task_no 0)) (sym b.order)

  here : get_or s.order i (task_no 0) ≡ t
  here =
      let e : i % 16 ≡ i = omega (arith, small) in
      ap (λ n. get_or s.order n (task_no 0)) (sym e) ∙ sym named

  misses : miss_of (waits_at rs s Receiving c t) ≡ f
  misses = ap (λ r. miss_of (matched_at rs Receiving c r)) (b.rows t [] ∙ sym (er [])) ∙ sym ef

  idle_is : (q : Bool) → not (is_offer (waits_at rs s Receiving c t)) ≡ q → idle rs s c (get_or s.order i (task_no 0)) ≡ q
  idle_is q e = ap (idle rs s c) here ∙ e

  pub walked_keeps : f ≡ None → WalkedSo rs c s xs₀ xs (set kept w t) (w + 1) (i + 1)
  walked_keeps e =
      let k = lap_keeps (idle rs s c) s.order no_tasks kept w i (task_no 0) (omega (arith, small, long)) (omega (arith, small)) p.kept_are p.kept_count (idle_is true (none_offered (waits_at rs s Receiving c t) (misses ∙ e))) in
      record {
        kept_are = ap (set kept w) (sym here) ∙ k.0;
        kept_count = k.1;
        woken_are = p.woken_are ∙ woken_lap rs s c long i t xs within named ∙ ap (woken_tasks rs s c (drop (i + 1) (order_of s))) (none_woken rs s c t xs (waits_at rs s Receiving c t) (misses ∙ e));
      }

  pub walked_wakes : (miss : Row) → f ≡ Some miss → (new : List TaskState) → new ≡ set xs (t.0 % 16) (got_task (task_in xs t) 0 false miss) → WalkedSo rs c s xs₀ new kept w (i + 1)
  walked_wakes miss e new en =
      let k = lap_drops (idle rs s c) s.order no_tasks kept w i (task_no 0) (omega (arith, small, long)) (omega (arith, small)) p.kept_are p.kept_count (idle_is false (some_offered (waits_at rs s Receiving c t) miss (misses ∙ e))) in
      record {
        kept_are = k.0;
        kept_count = k.1;
        woken_are = p.woken_are ∙ woken_lap rs s c long i t xs within named ∙ ap (woken_tasks rs s c (drop (i + 1) (order_of s))) (some_woken rs s c t xs (waits_at rs s Receiving c t) miss (misses ∙ e) ∙ sym en);
      }

-- All but the tasks' records is as it was.
pub others_same : (z y x : Records) (xs : List TaskState) → x ≡ with_tasks y xs → y ≡ with_tasks z y.tasks → x ≡ with_tasks z x.tasks
others_same z y x xs e q = e ∙ ap (λ r. with_tasks r xs) q ∙ ap (with_tasks z) (sym (ap (λ (r : Records). r.tasks) e))

-- The whole walk, and the order put anew.
module _ (rs : List ℕ) (c : Chan) (s : Records) (before : List ℕ) (x₀ x y : State) (b : Began before s (records_of x₀)) (i : ℕ) (e : i ≡ (records_of x₀).waiting % 17)
    (same : records_of x ≡ with_tasks (records_of x₀) (records_of x).tasks) (plain : Plain x₀.cells → Plain x.cells) (kept : List Task) (n : ℕ)
    (p : WalkedSo rs c s (records_of x₀).tasks (records_of x).tasks kept n i) (q : Made x y (λ z. with_order z kept n)) where
  whole : i ≡ s.waiting % 17
  whole = e ∙ ap (λ (m : ℕ). m % 17) (sym b.waiting)

  all_woken : woken_tasks rs s c (order_of s) (records_of x₀).tasks ≡ (records_of x).tasks
  unfolding woken_tasks
  all_woken = p.woken_are ∙ ap (λ ts. woken_tasks rs s c ts (records_of x).tasks) (drop_of_length-le (order_of s) {i = i} (omega (arith, whole, length-take (s.waiting % 17) s.order)))

  order_are : kept ≡ over (keep (idle rs s c) (order_of s)) no_tasks
  order_are = p.kept_are ∙ ap (λ m. over (keep (idle rs s c) (take m s.order)) no_tasks) whole

  order_count : n ≡ length (keep (idle rs s c) (order_of s))
  order_count = p.kept_count ∙ ap (λ m. length (keep (idle rs s c) (take m s.order))) whole

  -- What the whole walk leaves, of arrays of any length: the records with all woken, cells that stay plain, and how many woke.
  pub walked_same : records_of y ≡ woken_all rs s c (records_of x₀)
  walked_same =
      q.same ∙ ap (λ z. with_order z kept n) (same ∙ ap (with_tasks (records_of x₀)) (sym all_woken))
      ∙ ap₂ (with_order (with_tasks (records_of x₀) (woken_tasks rs s c (order_of s) (records_of x₀).tasks))) order_are order_count

  pub walked_plain : Plain x₀.cells → Plain y.cells
  walked_plain z = q.plain (plain z)

  pub walked_counted : (m : ℕ) → m ≡ i - n → m ≡ count_waiters rs s Receiving c
  walked_counted m em = em ∙ ap₂ (λ (a d : ℕ). a - d) whole order_count ∙ woken_count rs s c (ap (λ (o : List Task). length o) b.order ∙ order_length x₀.words x₀.cells)

  -- And of arrays that keep their lengths.
  pub walked_all : (Whole x₀ → Whole x) → (m : ℕ) → m ≡ i - n → WokenSo rs c s x₀ y m
  walked_all wholly m em = record {
    made = record { same = walked_same; plain = walked_plain; whole = λ z. q.whole (wholly z) };
    counted = walked_counted m em;
  }

-- A turn's first changes leave the order as it was.
pub began_here : {x y : State} {f : Records → Records} → Made x y f → (f (records_of x)).order ≡ (records_of x).order → (f (records_of x)).waiting ≡ (records_of x).waiting → Began x.words (records_of x) (records_of y)
began_here {x} p o n = record { rows = λ t d. row_same x.words x.cells d t; order = sym (ap (λ (z : Records). z.order) p.same ∙ o); waiting = sym (ap (λ (z : Records). z.waiting) p.same ∙ n) }
