-- One store for one state: records of the machine's sizes are read again from their arrays, and plain arrays are those of the records
-- that they read as. So two plain stores that read as one state are one store.
use Rattle.std.specs.Prelude.{◌≡◌, ℕ, zero, suc, ◌+◌, ◌*◌, ◌<◌, ◌≤◌, Bool, List, [], ◌∷◌, ◌++◌, length, get_or, take, drop, slice_index, slice_index_or}
use Rattle.std.proofs.Math.Path.{refl, ap, ap₂}
use Rattle.std.proofs.Common.{sym, subst, ◌∙◌, add-zero, get_or-append-add}
use Rattle.std.proofs.Math.Nat.{zero-add}
use native.Mathlib.Omega.{arith}
use Rattle.std.proofs.Math.ListN.{get_or-append}
use Rattle.machine_store.specs.Kinds.{Status, TaskState, ChanState}
use Rattle.meaning.specs.Statuses.{status_number, status_of}
use Rattle.meaning.specs.Image.{task_no}
use Rattle.meaning.specs.Bytes.{tabulate}
use Rattle.machine_records.specs.Records.{Records, blank_task, blank_chan}
use Rattle.machine_records.specs.Laws.Sized.{Sized}
use Rattle.machine_store.specs.Store.{mark_of, mark_no, task_of, chan_of, name_of, records_in, words_of, cells_of, Plain}
use Rattle.machine_store.specs.Laws.Tables.{table_same, table_at, table-length}
use Rattle.machine_store.specs.Laws.Store.{status_again, status_most, mark_again, mark_most}

-- LISTS

module _ {A : Type 0} where
  -- A list is the table of its entries.
  table_from : (xs : List A) (d : A) (f : ℕ → A) (n i : ℕ) → length xs ≡ n → ((j : ℕ) → j < n → f (i + j) ≡ slice_index_or xs j d) → tabulate f n i ≡ xs
  unfolding tabulate
  table_from [] d f zero i e h = refl
  table_from [] d f (suc n) i e h = absurd (omega arith)
  table_from (x ∷ xs) d f zero i e h = absurd (omega arith)
  table_from (x ∷ xs) d f (suc n) i e h =
      ap₂ ◌∷◌ (ap f (sym (add-zero i)) ∙ h zero (omega arith))
      (table_from xs d f n (suc i) (omega arith) (λ j l. (let z : suc i + j ≡ i + suc j = omega arith in ap f z ∙ h (suc j) (omega arith))))

  table_self : (xs : List A) (d : A) (n : ℕ) → length xs ≡ n → tabulate (λ j. get_or xs j d) n 0 ≡ xs
  table_self xs d n e = table_from xs d (λ j. get_or xs j d) n 0 e (λ j l. ap (λ i. get_or xs i d) (zero-add j))

  -- The entry j of a table that stands in a list from place m on.
  part_at : (l : List A) (f : ℕ → A) (n m j : ℕ) (d : A) → take m l ++ (tabulate f n 0 ++ drop (m + n) l) ≡ l → length (take m l) ≡ m → j < n
      → slice_index_or l (m + j) d ≡ f j
  part_at l f n m j d e k h =
      ap₂ (λ xs i. get_or xs (i + j) d) (sym e) (sym k)
      ∙ get_or-append-add (take m l) (tabulate f n 0 ++ drop (m + n) l) j d
      ∙ get_or-append (tabulate f n 0) (drop (m + n) l) d j (omega (arith, table-length f n 0))
      ∙ table_at f n 0 j d h
      ∙ ap f (zero-add j)

-- NUMBERS

status_number_lem : (n : ℕ) → n ≤ 2 → status_number (status_of n) ≡ n
status_number_lem zero h = refl
status_number_lem (suc zero) h = refl
status_number_lem (suc (suc zero)) h = refl
status_number_lem (suc (suc (suc n))) h = absurd (omega arith)

mark_number : (n : ℕ) → n ≤ 1 → mark_no (mark_of n) ≡ n
mark_number zero h = refl
mark_number (suc zero) h = refl
mark_number (suc (suc n)) h = absurd (omega arith)

-- RECORDS READ AGAIN, where their lists are written out: the places are then found by computing

module _ (s : Records) where
  abbrev task : ℕ → TaskState
  task t = slice_index_or s.tasks t blank_task

  abbrev chan : ℕ → ChanState
  chan i = slice_index_or s.chans i blank_chan

  abbrev task_with : ℕ → Status → Bool → TaskState
  task_with t status ok = record { status = status; ok = ok; register = (task t).register; row = (task t).row; laps = tabulate (λ d. slice_index (task t).laps d) 6 0 }

  abbrev spelled_task : ℕ → TaskState
  spelled_task t = task_with t (task t).status (task t).ok

  abbrev spelled_with : List TaskState → List ChanState → Records
  spelled_with xs ks = record {
    tasks = xs;
    taskcount = s.taskcount;
    chans = ks;
    chancount = s.chancount;
    order = tabulate (λ i. get_or s.order i (task_no 0)) 16 0;
    waiting = s.waiting;
    fault = s.fault;
    named = s.named;
    stamp = s.stamp;
  }

  abbrev spelled : Records
  spelled = spelled_with (tabulate spelled_task 16 0) (tabulate chan 16 0)

  abbrev read_task : ℕ → TaskState
  read_task t = task_with t (status_of (status_number (task t).status)) (mark_of (mark_no (task t).ok))

  abbrev read_chan : ℕ → ChanState
  read_chan i = record { closed = mark_of (mark_no (chan i).closed); len = (chan i).len }

  read_spelled : records_in (words_of spelled) (cells_of spelled) ≡ spelled_with (tabulate read_task 16 0) (tabulate read_chan 16 0)
  unfolding records_in words_of cells_of tabulate
  read_spelled = refl

  read_task_lem : (t : ℕ) → read_task t ≡ spelled_task t
  read_task_lem t = rw (status_again (task t).status, mark_again (task t).ok)

  read_chan_lem : (i : ℕ) → read_chan i ≡ chan i
  read_chan_lem i = rw (mark_again (chan i).closed)

  spelled_again : records_in (words_of spelled) (cells_of spelled) ≡ spelled
  spelled_again =
      read_spelled
      ∙ ap₂ spelled_with (table_same spelled_task read_task 16 0 (λ t a b. read_task_lem t)) (table_same chan read_chan 16 0 (λ i a b. read_chan_lem i))

  abbrev cells : List ℕ
  cells = cells_of spelled

  spelled_plain : Plain (cells_of spelled)
  unfolding cells_of tabulate
  spelled_plain = record {
    statuses = λ t l. rw (← zero-add t, part_at cells (λ t. status_number (task t).status) 16 0 t 0 refl refl l) (status_most (task t).status);
    oks = λ t l. rw (part_at cells (λ t. mark_no (task t).ok) 16 16 t 0 refl refl l) (mark_most (task t).ok);
    closeds = λ k l. rw (part_at cells (λ k. mark_no (chan k).closed) 16 48 k 0 refl refl l) (mark_most (chan k).closed);
  }

  module _ (z : Sized s) where
    spelled_task_lem : (t : ℕ) → t < 16 → spelled_task t ≡ task t
    spelled_task_lem t h = rw (table_self (task t).laps 0 6 (z.laps6 t h))

    spelled_is : spelled ≡ s
    spelled_is =
        let tasks = table_same task spelled_task 16 0 (λ t a h. spelled_task_lem t h) ∙ table_self s.tasks blank_task 16 z.tasks16 in
        rw (tasks, table_self s.chans blank_chan 16 z.chans16, table_self s.order (task_no 0) 16 z.order16)

    pub records_again : records_in (words_of s) (cells_of s) ≡ s
    records_again = sym (ap (λ r. records_in (words_of r) (cells_of r)) spelled_is) ∙ spelled_again ∙ spelled_is

    pub again_plain : Plain (cells_of s)
    again_plain = subst (λ r. Plain (cells_of r)) spelled_is spelled_plain

-- ARRAYS MADE AGAIN

module _ (w c : List ℕ) where
  pub records_sized : Sized (records_in w c)
  unfolding records_in
  records_sized = record {
    tasks16 = table-length (task_of w c) 16 0;
    chans16 = table-length (chan_of c) 16 0;
    order16 = table-length (name_of c) 16 0;
    laps6 = λ t l. rw (table_at (task_of w c) 16 0 t blank_task l) (table-length (λ d. slice_index c (80 + 6 * (0 + t) + d)) 6 0);
  }

  pub words_again : length w ≡ 33 → words_of (records_in w c) ≡ w
  unfolding words_of records_in tabulate
  words_again e = table_self w 0 33 e

  abbrev cell : ℕ → ℕ
  cell i = slice_index c i

  -- The cells, where these are put for a status and for a mark.
  abbrev cells_by : (ℕ → ℕ) → (ℕ → ℕ) → List ℕ
  cells_by status mark =
      tabulate (λ t. status (cell t)) 16 0
      ++ tabulate (λ t. mark (cell (16 + t))) 16 0
      ++ tabulate (λ i. cell (32 + i)) 16 0
      ++ tabulate (λ k. mark (cell (48 + k))) 16 0
      ++ tabulate (λ i. cell (64 + i)) 117 0

  cells_read : cells_of (records_in w c) ≡ cells_by (λ n. status_number (status_of n)) (λ n. mark_no (mark_of n))
  unfolding cells_of records_in tabulate
  cells_read = refl

  cells_joined : cells_by (λ n. n) (λ n. n) ≡ tabulate cell 181 0
  unfolding tabulate
  cells_joined = refl

  pub cells_again : length c ≡ 181 → Plain c → cells_of (records_in w c) ≡ c
  cells_again e p =
      let statuses = table_same cell (λ t. status_number (status_of (cell t))) 16 0 (λ t a h. status_number_lem (cell t) (p.statuses t h)) in
      let oks = table_same (λ t. cell (16 + t)) (λ t. mark_no (mark_of (cell (16 + t)))) 16 0 (λ t a h. mark_number (cell (16 + t)) (p.oks t h)) in
      let closeds = table_same (λ k. cell (48 + k)) (λ k. mark_no (mark_of (cell (48 + k)))) 16 0 (λ k a h. mark_number (cell (48 + k)) (p.closeds k h)) in
      cells_read ∙ rw (statuses, oks, closeds) (cells_joined ∙ table_self c 0 181 e)

-- So plain arrays that read as one state's records are one.
pub one_store : (w c v d : List ℕ) → length w ≡ 33 → length c ≡ 181 → Plain c → length v ≡ 33 → length d ≡ 181 → Plain d
    → records_in w c ≡ records_in v d → (w ≡ v) × (c ≡ d)
one_store w c v d lw lc p lv ld q e = (
  sym (words_again w c lw) ∙ ap words_of e ∙ words_again v d lv,
  sym (cells_again w c lc p) ∙ ap cells_of e ∙ cells_again v d ld q,
)
