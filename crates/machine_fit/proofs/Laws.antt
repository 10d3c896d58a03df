-- One lap of each loop. Assumes nothing.
use mathlib.Core.Path.{◌≡◌, refl, sym, ap, ◌∙◌}
use mathlib.Core.Bool.{Bool, true, false, ◌&&◌, and-true, and_assoc}
use mathlib.Core.List.{List}
use Prim.Native.Nat.{ℕ, zero, suc, max, ◌+◌, ◌-◌, ◌%◌, ◌<◌, ◌≤◌}
use native.Mathlib.Numerals.{add-one}
use native.Mathlib.Omega.{arith}
use native.Mathlib.Decide.{ℕ_discrete, dec_le}
use borrow.Author.Tests.{eq-eqb, ne_eqb, le-leb, lt-leb}
use lib.Dec.{eqb, leb}
use lib.ListN.{length, get_or, set, take, drop, length-take, drop_of_length-le, replicate}
use lib.Seq.{drop-cons, get_or-take, get_or-set_same, get_or-set_other}
use Rattle.machine_fit.specs.Kinds.{Task, State}
use Rattle.meaning_laws.specs.Fits.{one, times}
use Rattle.meaning.specs.Image.{task_no}
use Rattle.machine_records.specs.Laws.Every.{every_step}
use Rattle.machine_records.specs.Fitting.{every}
use Rattle.machine_store.specs.Store.{records_of}
use Rattle.machine_store.specs.Laws.Store.{order_length}

-- THE LARGEST OF SOME CELLS

-- The larger of two is at most n where both are.
pub larger_at_most : (a b n : ℕ) → leb (max a b) n ≡ (leb a n && leb b n)
larger_at_most a b n =
    elim (dec_le a n) [
      | yes h ↦
          elim (dec_le b n) [
            | yes k ↦ rw (le-leb a n h, le-leb b n k, le-leb (max a b) n (omega arith))
            | no k ↦ rw (le-leb a n h, lt-leb b n (omega arith), lt-leb (max a b) n (omega arith))
          ]
      | no h ↦ rw (lt-leb a n (omega arith), lt-leb (max a b) n (omega arith))
    ]

-- One lap: m tells of the cells passed, m' of one more.
pub most_lap : (p : ℕ → Bool) (n i : ℕ) (all m m' : Bool) → i < n → all ≡ (m && every p (n - i) i) → m' ≡ (m && p i)
    → all ≡ (m' && every p (n - (i + 1)) (i + 1))
most_lap p n i all m m' h e f =
    let rest = every p (n - (i + 1)) (i + 1) in
    e ∙ ap (λ x. m && x) (every_step p n i h) ∙ sym (and_assoc m (p i) rest) ∙ ap (λ x. x && rest) (sym f)

pub most_done : (p : ℕ → Bool) (k i : ℕ) (all m : Bool) → k ≡ 0 → all ≡ (m && every p k i) → m ≡ all
unfolding every
most_done p k i all m z e = sym (e ∙ ap (λ q. m && every p q i) z ∙ and-true m)

-- THE CELLS OF THE WALK THAT COUNTS NAMES

abbrev pub count_up : List ℕ → ℕ → List ℕ
count_up cells q = set cells q (get_or cells q 0 + 1)

pub fresh_cell : (n t : ℕ) → get_or {A = ℕ} (replicate n 0) t 0 ≡ 0
fresh_cell zero t = refl
fresh_cell (suc n) zero = refl
fresh_cell (suc n) (suc t) = fresh_cell n t

-- A cell counted up holds one more, and every other what it held.
cell_step : (cells : List ℕ) (q t : ℕ) → q < length cells → get_or (count_up cells q) t 0 ≡ get_or cells t 0 + one (eqb t q)
cell_step cells q t h =
    elim (ℕ_discrete t q) [
      | yes e ↦ rw (e, eq-eqb q q refl) (get_or-set_same cells q (get_or cells q 0 + 1) 0 h)
      | no d ↦ rw (ne_eqb t q d, get_or-set_other cells q t (get_or cells q 0 + 1) 0 d) (omega arith)
    ]

one_le : (b : Bool) → one b ≤ 1
one_le true = omega arith
one_le false = omega arith

pub cell_le : (cells : List ℕ) (q t i : ℕ) → q < length cells → get_or cells t 0 ≤ i → get_or (count_up cells q) t 0 ≤ i + 1
cell_le cells q t i h b = omega (arith, cell_step cells q t h, one_le (eqb t q))

-- How often a task stands among the first n of the order, from place i on; behind them it stands no more.
abbrev pub times_from : State → ℕ → ℕ → Task → ℕ
times_from s n i t = times t (drop i (take n (records_of s).order))

pub times_past : (s : State) (n i : ℕ) → n ≤ i → (t : Task) → times_from s n i t ≡ 0
unfolding times
times_past s n i h t =
    let l : length (take n (records_of s).order) ≤ i = simp length-take (omega arith) in
    ap (times t) (drop_of_length-le (take n (records_of s).order) {i = i} l)

-- The task u at place i of the order.
module _ (s : State) (n i : ℕ) (u : Task) (h : i < n) (b : n ≤ 16) (e : u ≡ get_or (records_of s).order (i % 16) (task_no 0)) where
  pub times_step : (t : Task) → times_from s n i t ≡ one (eqb t.0 u.0) + times_from s n (i + 1) t
  unfolding times
  times_step t =
      let o = (records_of s).order in
      let l : length (records_of s).order ≡ 16 = order_length s.words s.cells in
      let m : i < length (take n (records_of s).order) = simp length-take (omega arith) in
      let q : i % 16 ≡ i = omega arith in
      let f : u ≡ get_or (records_of s).order i (task_no 0) = e ∙ ap (λ k. get_or (records_of s).order k (task_no 0)) q in
      rw (drop-cons (take n o) i (task_no 0) m, get_or-take n o i (task_no 0) h, add-one, f)

  -- One lap of the walk that counts names: what a task's cell holds and what the rest of the order adds to it are together what
  -- they were.
  pub count_step : (cells : List ℕ) (t all : ℕ) → length cells ≡ 16 → u.0 < 16 → all ≡ get_or cells t 0 + times_from s n i (task_no t)
      → all ≡ get_or (count_up cells (u.0 % 16)) t 0 + times_from s n (i + 1) (task_no t)
  count_step cells t all k d q =
      let m : u.0 % 16 ≡ u.0 = omega arith in
      rw m (omega (arith, q, times_step (task_no t), cell_step cells u.0 t (omega arith)))
