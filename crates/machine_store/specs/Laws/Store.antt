-- What the two arrays read as where cells of one part are set and the others are as they were.
use Rattle.std.specs.Prelude.{◌≡◌, ℕ, zero, suc, ◌+◌, ◌*◌, ◌%◌, ◌<◌, ◌≤◌, Bool, true, false, List, [], ◌∷◌, length, get_or, set, ◌≢◌, slice_index, slice_index_or, slice_set}
use Rattle.std.proofs.Math.Path.{refl, ap}
use Rattle.std.proofs.Common.{sym, ◌∙◌, zero-add, mod-lt, arith, length-set, get_or-set_same, get_or-set_other}
use Rattle.std.proofs.Math.Decide.{ℕ_discrete}
use Rattle.machine_store.specs.Kinds.{Task, Chan, Row, Status, Able, Waiting, Ended, TaskState, ChanState, Moved, Event, Change, State}
use Rattle.meaning.specs.Numbers.{task_limit, channel_limit, depth_limit, stamp_modulus}
use Rattle.meaning.specs.Statuses.{status_number, status_of}
use Rattle.meaning.specs.Image.{row_no, task_no}
use Rattle.meaning.specs.Bytes.{tabulate}
use Rattle.machine_records.specs.Records.{Records, blank_task, blank_chan, task_in, chan_in, lap_of, got_task, went_task, stood_task, lap_task, with_tasks, halted, ticked, with_counts, with_chan, task_got, task_went, task_stood, task_lapped}
use Rattle.machine_records.specs.Plans.{Done}
use Rattle.machine_store.specs.Store.{mark_of, mark_no, laps_of, task_of, chan_of, name_of, records_in, records_of, state_in, Plain, Made, MadeTurn}
use Rattle.machine_store.specs.Laws.Tables.{table_same, table_set, table_at, table-length, past2, first2, second2}

-- NUMBERS

pub status_again : (s : Status) → status_of (status_number s) ≡ s
status_again Able = refl
status_again Waiting = refl
status_again Ended = refl

pub status_most : (s : Status) → status_number s ≤ 2
status_most Able = omega arith
status_most Waiting = omega arith
status_most Ended = omega arith

pub mark_again : (b : Bool) → mark_of (mark_no b) ≡ b
mark_again true = refl
mark_again false = refl

pub mark_most : (b : Bool) → mark_no b ≤ 1
mark_most true = omega arith
mark_most false = omega arith

-- READING

-- A task's row is told by the words alone.
table_row_of : (w d : List ℕ) (t : Task) → (task_in (records_in w d).tasks t).row ≡ row_no (slice_index w (t.0 % 16))
unfolding records_in
table_row_of w d t = ap (λ (x : TaskState). x.row) (table_at (task_of w d) task_limit 0 (t.0 % task_limit) blank_task (mod-lt t.0 {m = 16} (omega arith))) ∙ ap (λ n. row_no (slice_index w n)) (zero-add (t.0 % task_limit))

module _ (w c : List ℕ) where
  pub task_in_lem : (t : Task) → task_in (records_in w c).tasks t ≡ task_of w c (t.0 % task_limit)
  unfolding records_in
  task_in_lem t = table_at (task_of w c) task_limit 0 (t.0 % task_limit) blank_task (mod-lt t.0 {m = 16} (omega arith)) ∙ ap (task_of w c) (zero-add (t.0 % task_limit))

  pub row_same : (d : List ℕ) (t : Task) → (task_in (records_in w c).tasks t).row ≡ (task_in (records_in w d).tasks t).row
  row_same d t = table_row_of w c t ∙ sym (table_row_of w d t)

  pub lap_in : (t : Task) (d : ℕ) → lap_of (task_in (records_in w c).tasks t) d ≡ slice_index c (80 + 6 * (t.0 % task_limit) + d % depth_limit)
  lap_in t d =
      ap (λ x. lap_of x d) (task_in_lem t)
      ∙ table_at (λ d. slice_index c (80 + 6 * (t.0 % task_limit) + d)) depth_limit 0 (d % depth_limit) 0 (mod-lt d {m = 6} (omega arith))
      ∙ ap (λ n. slice_index c (80 + 6 * (t.0 % task_limit) + n)) (zero-add (d % depth_limit))

  pub chan_in_lem : (k : Chan) → chan_in (records_in w c).chans k ≡ chan_of c (k.0 % channel_limit)
  unfolding records_in
  chan_in_lem k = table_at (chan_of c) channel_limit 0 (k.0 % channel_limit) blank_chan (mod-lt k.0 {m = 16} (omega arith)) ∙ ap (chan_of c) (zero-add (k.0 % channel_limit))

  pub name_in : (i : ℕ) → slice_index_or (records_in w c).order (i % task_limit) (task_no 0) ≡ name_of c (i % task_limit)
  unfolding records_in
  name_in i = table_at (name_of c) task_limit 0 (i % task_limit) (task_no 0) (mod-lt i {m = 16} (omega arith)) ∙ ap (name_of c) (zero-add (i % task_limit))

  pub order_length : length (records_in w c).order ≡ 16
  unfolding records_in
  order_length = table-length (name_of c) 16 0

  pub waiting_in : (records_in w c).waiting ≡ slice_index c 176
  unfolding records_in
  waiting_in = refl

  pub fault_in : (records_in w c).fault ≡ slice_index c 177
  unfolding records_in
  fault_in = refl

  pub named_in : (records_in w c).named ≡ task_no (slice_index c 178)
  unfolding records_in
  named_in = refl

  pub taskcount_in : (records_in w c).taskcount ≡ slice_index c 179
  unfolding records_in
  taskcount_in = refl

  pub chancount_in : (records_in w c).chancount ≡ slice_index c 180
  unfolding records_in
  chancount_in = refl

  pub stamp_in : (records_in w c).stamp ≡ slice_index w 32
  unfolding records_in
  stamp_in = refl

-- PARTS THAT ARE AS THEY WERE: of cells c and cells d, where they agree.

abbrev pub Agree : List ℕ → List ℕ → ℕ → ℕ → Type 0
Agree c d i n = (j : ℕ) → i ≤ j → j < n → slice_index d j ≡ slice_index c j

module _ (w c d : List ℕ) where
  pub tasks_same : Agree c d 0 32 → Agree c d 80 176 → tabulate (task_of w d) 16 0 ≡ tabulate (task_of w c) 16 0
  tasks_same p q = table_same (task_of w c) (task_of w d) 16 0 (λ j a b. rw (
    table_same (λ k. slice_index c (80 + 6 * j + k)) (λ k. slice_index d (80 + 6 * j + k)) 6 0 (λ k e f. q (80 + 6 * j + k) (omega arith) (omega arith)),
    p j (omega arith) (omega arith),
    p (16 + j) (omega arith) (omega arith),
  ))

  pub chans_same : Agree c d 48 80 → tabulate (chan_of d) 16 0 ≡ tabulate (chan_of c) 16 0
  chans_same p = table_same (chan_of c) (chan_of d) 16 0 (λ j a b. rw (p (48 + j) (omega arith) (omega arith), p (64 + j) (omega arith) (omega arith)))

  pub order_same : Agree c d 32 48 → tabulate (name_of d) 16 0 ≡ tabulate (name_of c) 16 0
  order_same p = table_same (name_of c) (name_of d) 16 0 (λ j a b. rw (p (32 + j) (omega arith) (omega arith)))

-- A TASK'S RECORD CHANGED

module _ (w c w' c' : List ℕ) (t : ℕ) (h : t < 16) (x : TaskState) where
  tasks_set : (here : task_of w' c' t ≡ x) (others : (j : ℕ) → (j ≢ t) → j < 16 → task_of w' c' j ≡ task_of w c j) → tabulate (task_of w' c') 16 0 ≡ slice_set (tabulate (task_of w c) 16 0) t x
  tasks_set here others = table_set (task_of w c) (task_of w' c') 16 0 t t (omega arith) h (λ j p a b. others j p (omega arith)) ∙ ap (set (tabulate (task_of w c) 16 0) t) here

  task_changed : task_of w' c' t ≡ x → ((j : ℕ) → (j ≢ t) → j < 16 → task_of w' c' j ≡ task_of w c j) → Agree c c' 32 80 → Agree c c' 176 181 → slice_index w' 32 ≡ slice_index w 32
      → records_in w' c' ≡ with_tasks (records_in w c) (slice_set (records_in w c).tasks t x)
  unfolding records_in
  task_changed here others p q e = rw (
    tasks_set here others,
    chans_same w c c' (λ j a b. p j (omega arith) (omega arith)),
    order_same w c c' (λ j a b. p j (omega arith) (omega arith)),
    q 176 (omega arith) (omega arith),
    q 177 (omega arith) (omega arith),
    q 178 (omega arith) (omega arith),
    q 179 (omega arith) (omega arith),
    q 180 (omega arith) (omega arith),
    e,
  )

-- CELLS STAY PLAIN

set_most : (c : List ℕ) (a x j m : ℕ) → x ≤ m → slice_index c j ≤ m → slice_index (slice_set c a x) j ≤ m
set_most [] a x j m h k = k
set_most (y ∷ c) zero x zero m h k = h
set_most (y ∷ c) zero x (suc j) m h k = k
set_most (y ∷ c) (suc a) x zero m h k = k
set_most (y ∷ c) (suc a) x (suc j) m h k = set_most c a x j m h k

-- A cell set to a number that its part bears.
pub plain_set : (c : List ℕ) (a x : ℕ) → (a < 16 → x ≤ 2) → (16 ≤ a → a < 32 → x ≤ 1) → (48 ≤ a → a < 64 → x ≤ 1) → Plain c → Plain (slice_set c a x)
plain_set c a x s o k p = record {
  statuses = λ j l. at j 2 (λ e. s (omega arith)) (p.statuses j l);
  oks = λ j l. at (16 + j) 1 (λ e. o (omega arith) (omega arith)) (p.oks j l);
  closeds = λ j l. at (48 + j) 1 (λ e. k (omega arith) (omega arith)) (p.closeds j l);
}
  where
    at : (j m : ℕ) → (j ≡ a → x ≤ m) → slice_index c j ≤ m → slice_index (slice_set c a x) j ≤ m
    at j m f l =
        elim (ℕ_discrete j a) [
          | yes e ↦ set_most c a x j m (f e) l
          | no d ↦ rw (get_or-set_other c a j x 0 d) l
        ]

-- A TASK'S RECORD, LEAF BY LEAF

module _ (w c : List ℕ) (t : Task) where
  abbrev task : ℕ
  task = t.0 % task_limit

  task_small : t.0 % 16 < 16
  task_small = mod-lt t.0 {m = 16} (omega arith)

  -- The record that becomes of the one that stood here.
  abbrev becomes : (TaskState → TaskState) → Records
  becomes f = with_tasks (records_in w c) (slice_set (records_in w c).tasks (t.0 % 16) (f (task_in (records_in w c).tasks t)))

  stood_here : (f : TaskState → TaskState) → with_tasks (records_in w c) (slice_set (records_in w c).tasks (t.0 % 16) (f (task_of w c (t.0 % 16)))) ≡ becomes f
  stood_here f = ap (λ y. with_tasks (records_in w c) (slice_set (records_in w c).tasks (t.0 % 16) (f y))) (sym (task_in_lem w c t))

  laps_same : (d : List ℕ) → Agree c d 80 176 → (j : ℕ) → j < 16 → laps_of d j ≡ laps_of c j
  laps_same d p j h = table_same (λ k. slice_index c (80 + 6 * j + k)) (λ k. slice_index d (80 + 6 * j + k)) 6 0 (λ k e f. p (80 + 6 * j + k) (omega arith) (omega arith))

  module _ (lc : length c ≡ 181) where
    pub stood_made : (st : Status) → Made (state_in w c) (state_in w (slice_set c (t.0 % 16) (status_number st))) (λ s. task_stood s t st)
    stood_made st =
        let h = task_small in
        let i = t.0 % 16 in
        let n = status_number st in
        let past : (j : ℕ) → (j ≢ t.0 % 16) → slice_index (slice_set c (t.0 % 16) (status_number st)) j ≡ get_or c j 0 = λ j d. get_or-set_other c i j n 0 d in
        let laps = laps_same (slice_set c i n) (λ j a b. past j (λ e. omega arith)) in
        record {
          same = task_changed w c w (slice_set c i n) i h (stood_task (task_of w c i) st)
              (rw (laps i h, get_or-set_same c i n 0 (omega arith), past (16 + i) (λ e. omega arith), status_again st))
              (λ j d l. rw (laps j l, past j d, past (16 + j) (λ e. omega arith)))
              (λ j a b. past j (λ e. omega arith)) (λ j a b. past j (λ e. omega arith)) refl
              ∙ stood_here (λ x. stood_task x st);
          plain = plain_set c i n (λ a. status_most st) (λ a b. absurd (omega arith)) (λ a b. absurd (omega arith));
          whole = λ z. (z.0, length-set c i n ∙ z.1);
        }

    pub lapped_made : (d k : ℕ) → Made (state_in w c) (state_in w (slice_set c (80 + 6 * (t.0 % 16) + d % 6) k)) (λ s. task_lapped s t d k)
    lapped_made d k =
        let h = task_small in
        let i = t.0 % 16 in
        let g : d % 6 < 6 = mod-lt d {m = 6} (omega arith) in
        let a = 80 + 6 * (t.0 % 16) + d % 6 in
        let past : (j : ℕ) → (j ≢ 80 + 6 * (t.0 % 16) + d % 6) → slice_index (slice_set c (80 + 6 * (t.0 % 16) + d % 6) k) j ≡ get_or c j 0 = λ j e. get_or-set_other c a j k 0 e in
        let here : laps_of (slice_set c (80 + 6 * (t.0 % 16) + d % 6) k) (t.0 % 16) ≡ set (laps_of c (t.0 % 16)) (d % 6) k =
        table_set (λ n. slice_index c (80 + 6 * i + n)) (λ n. slice_index (slice_set c a k) (80 + 6 * i + n)) 6 0 (d % 6) (d % 6) (omega arith) g (λ n p q r. past (80 + 6 * i + n) (λ e. p (omega arith)))
        ∙ ap (set (laps_of c i) (d % 6)) (get_or-set_same c a k 0 (omega arith)) in
        let laps : (j : ℕ) → (j ≢ t.0 % 16) → laps_of (slice_set c (80 + 6 * (t.0 % 16) + d % 6) k) j ≡ laps_of c j =
        λ j p. table_same (λ n. slice_index c (80 + 6 * j + n)) (λ n. slice_index (slice_set c a k) (80 + 6 * j + n)) 6 0 (λ n q r. past (80 + 6 * j + n) (λ e. p (omega arith))) in
        record {
          same = task_changed w c w (slice_set c a k) i h (lap_task (task_of w c i) d k)
              (rw (here, past i (λ e. omega arith), past (16 + i) (λ e. omega arith)))
              (λ j p l. rw (laps j p, past j (λ e. omega arith), past (16 + j) (λ e. omega arith)))
              (λ j p q. past j (λ e. omega arith)) (λ j p q. past j (λ e. omega arith)) refl
              ∙ stood_here (λ x. lap_task x d k);
          plain = plain_set c a k (λ p. absurd (omega arith)) (λ p q. absurd (omega arith)) (λ p q. absurd (omega arith));
          whole = λ z. (z.0, length-set c a k ∙ z.1);
        }

    module _ (lw : length w ≡ 33) where
      pub went_made : (r : Row) → Made (state_in w c) (state_in (slice_set w (t.0 % 16) r.0) (slice_set c (t.0 % 16) (status_number Able))) (λ s. task_went s t r)
      went_made r =
          let h = task_small in
          let i = t.0 % 16 in
          let past : (j : ℕ) → (j ≢ t.0 % 16) → slice_index (slice_set c (t.0 % 16) 0) j ≡ get_or c j 0 = λ j d. get_or-set_other c i j 0 0 d in
          let wpast : (j : ℕ) → (j ≢ t.0 % 16) → slice_index (slice_set w (t.0 % 16) r.0) j ≡ get_or w j 0 = λ j d. get_or-set_other w i j r.0 0 d in
          let laps = laps_same (slice_set c i 0) (λ j a b. past j (λ e. omega arith)) in
          record {
            same = task_changed w c (slice_set w i r.0) (slice_set c i 0) i h (went_task (task_of w c i) r)
                (rw (laps i h, get_or-set_same c i 0 0 (omega arith), past (16 + i) (λ e. omega arith), get_or-set_same w i r.0 0 (omega arith), wpast (16 + i) (λ e. omega arith)))
                (λ j d l. rw (laps j l, past j d, past (16 + j) (λ e. omega arith), wpast j d, wpast (16 + j) (λ e. omega arith)))
                (λ j a b. past j (λ e. omega arith)) (λ j a b. past j (λ e. omega arith)) (wpast 32 (λ e. omega arith))
                ∙ stood_here (λ x. went_task x r);
            plain = plain_set c i 0 (λ a. omega arith) (λ a b. omega arith) (λ a b. omega arith);
            whole = λ z. (length-set w i r.0 ∙ z.0, length-set c i 0 ∙ z.1);
          }

      pub got_made : (v : ℕ) (b : Bool) (r : Row) → Made (state_in w c) (state_in (slice_set (slice_set w (t.0 % 16) r.0) (16 + t.0 % 16) v) (slice_set (slice_set c (t.0 % 16) (status_number Able)) (16 + t.0 % 16) (mark_no b))) (λ s. task_got s t v b r)
      got_made v b r =
          let h = task_small in
          let i = t.0 % 16 in
          let n = mark_no b in
          let past : (j : ℕ) → (j ≢ t.0 % 16) → (j ≢ 16 + t.0 % 16) → slice_index (slice_set (slice_set c (t.0 % 16) 0) (16 + t.0 % 16) (mark_no b)) j ≡ get_or c j 0 = past2 c i 0 (16 + i) n in
          let wpast : (j : ℕ) → (j ≢ t.0 % 16) → (j ≢ 16 + t.0 % 16) → slice_index (slice_set (slice_set w (t.0 % 16) r.0) (16 + t.0 % 16) v) j ≡ get_or w j 0 = past2 w i r.0 (16 + i) v in
          let laps = laps_same (slice_set (slice_set c i 0) (16 + i) n) (λ j a q. past j (λ e. omega arith) (λ e. omega arith)) in
          let p = plain_set c i 0 (λ a. omega arith) (λ a q. omega arith) (λ a q. omega arith) in
          let q = plain_set (slice_set c i 0) (16 + i) n (λ a. absurd (omega arith)) (λ a z. mark_most b) (λ a z. absurd (omega arith)) in
          record {
            same = task_changed w c (slice_set (slice_set w i r.0) (16 + i) v) (slice_set (slice_set c i 0) (16 + i) n) i h (got_task (task_of w c i) v b r)
                (rw (laps i h, first2 c i 0 (16 + i) n (omega arith) (λ e. omega arith), second2 c i 0 (16 + i) n (omega arith), mark_again b, first2 w i r.0 (16 + i) v (omega arith) (λ e. omega arith), second2 w i r.0 (16 + i) v (omega arith)))
                (λ j d l. rw (laps j l, past j d (λ e. omega arith), past (16 + j) (λ e. omega arith) (λ e. d (omega arith)), wpast j d (λ e. omega arith), wpast (16 + j) (λ e. omega arith) (λ e. d (omega arith))))
                (λ j a z. past j (λ e. omega arith) (λ e. omega arith)) (λ j a z. past j (λ e. omega arith) (λ e. omega arith)) (wpast 32 (λ e. omega arith) (λ e. omega arith))
                ∙ stood_here (λ x. got_task x v b r);
            plain = λ z. q (p z);
            whole = λ z. (length-set (slice_set w i r.0) (16 + i) v ∙ length-set w i r.0 ∙ z.0, length-set (slice_set c i 0) (16 + i) n ∙ length-set c i 0 ∙ z.1);
          }

-- A CHANNEL'S RECORD, THE HALT RECORD, THE STAMP

pub chan_made : (w c : List ℕ) → length c ≡ 181 → (k : Chan) (x : ChanState) → Made (state_in w c) (state_in w (slice_set (slice_set c (48 + k.0 % 16) (mark_no x.closed)) (64 + k.0 % 16) x.len)) (λ s. with_chan s k x)
unfolding records_in
chan_made w c lc k x =
    let h : k.0 % 16 < 16 = mod-lt k.0 {m = 16} (omega arith) in
    let i = k.0 % 16 in
    let n = mark_no x.closed in
    let m = x.len in
    let past : (j : ℕ) → (j ≢ 48 + k.0 % 16) → (j ≢ 64 + k.0 % 16) → slice_index (slice_set (slice_set c (48 + k.0 % 16) (mark_no x.closed)) (64 + k.0 % 16) x.len) j ≡ get_or c j 0 = past2 c (48 + i) n (64 + i) m in
    let d = set (slice_set c (48 + i) n) (64 + i) m in
    let p = plain_set c (48 + i) n (λ a. absurd (omega arith)) (λ a b. absurd (omega arith)) (λ a b. mark_most x.closed) in
    let q = plain_set (slice_set c (48 + i) n) (64 + i) m (λ a. absurd (omega arith)) (λ a b. absurd (omega arith)) (λ a b. absurd (omega arith)) in
    record {
      same = rw (
        table_set (chan_of c) (chan_of d) 16 0 i i (omega arith) h (λ j e a b. rw (past (48 + j) (λ z. e (omega arith)) (λ z. omega arith), past (64 + j) (λ z. omega arith) (λ z. e (omega arith)))),
        first2 c (48 + i) n (64 + i) m (omega arith) (λ e. omega arith),
        second2 c (48 + i) n (64 + i) m (omega arith),
        mark_again x.closed,
        tasks_same w c d (λ j a b. past j (λ e. omega arith) (λ e. omega arith)) (λ j a b. past j (λ e. omega arith) (λ e. omega arith)),
        order_same w c d (λ j a b. past j (λ e. omega arith) (λ e. omega arith)),
        past 176 (λ e. omega arith) (λ e. omega arith),
        past 177 (λ e. omega arith) (λ e. omega arith),
        past 178 (λ e. omega arith) (λ e. omega arith),
        past 179 (λ e. omega arith) (λ e. omega arith),
        past 180 (λ e. omega arith) (λ e. omega arith),
      );
      plain = λ z. q (p z);
      whole = λ z. (z.0, length-set (slice_set c (48 + i) n) (64 + i) m ∙ length-set c (48 + i) n ∙ z.1);
    }

pub halt_made : (w c : List ℕ) → length c ≡ 181 → (f : ℕ) (t : Task) → Made (state_in w c) (state_in w (slice_set (slice_set c 177 f) 178 t.0)) (λ s. halted s f t)
unfolding records_in
halt_made w c lc f t =
    let n = t.0 in
    let past : (j : ℕ) → (j ≢ 177) → (j ≢ 178) → slice_index (slice_set (slice_set c 177 f) 178 t.0) j ≡ get_or c j 0 = past2 c 177 f 178 n in
    let d = set (slice_set c 177 f) 178 n in
    let p = plain_set c 177 f (λ a. absurd (omega arith)) (λ a b. absurd (omega arith)) (λ a b. absurd (omega arith)) in
    let q = plain_set (slice_set c 177 f) 178 n (λ a. absurd (omega arith)) (λ a b. absurd (omega arith)) (λ a b. absurd (omega arith)) in
    record {
      same = rw (
        tasks_same w c d (λ j a b. past j (λ e. omega arith) (λ e. omega arith)) (λ j a b. past j (λ e. omega arith) (λ e. omega arith)),
        chans_same w c d (λ j a b. past j (λ e. omega arith) (λ e. omega arith)),
        order_same w c d (λ j a b. past j (λ e. omega arith) (λ e. omega arith)),
        past 176 (λ e. omega arith) (λ e. omega arith),
        past 179 (λ e. omega arith) (λ e. omega arith),
        past 180 (λ e. omega arith) (λ e. omega arith),
        first2 c 177 f 178 n (omega arith) (λ e. omega arith),
        second2 c 177 f 178 n (omega arith),
      );
      plain = λ z. q (p z);
      whole = λ z. (z.0, length-set (slice_set c 177 f) 178 n ∙ length-set c 177 f ∙ z.1);
    }

pub counts_made : (w c : List ℕ) → length c ≡ 181 → (n m : ℕ) → Made (state_in w c) (state_in w (slice_set (slice_set c 179 n) 180 m)) (λ s. with_counts s n m)
unfolding records_in
counts_made w c lc n m =
    let past : (j : ℕ) → (j ≢ 179) → (j ≢ 180) → slice_index (slice_set (slice_set c 179 n) 180 m) j ≡ get_or c j 0 = past2 c 179 n 180 m in
    let d = set (slice_set c 179 n) 180 m in
    let p = plain_set c 179 n (λ a. absurd (omega arith)) (λ a b. absurd (omega arith)) (λ a b. absurd (omega arith)) in
    let q = plain_set (slice_set c 179 n) 180 m (λ a. absurd (omega arith)) (λ a b. absurd (omega arith)) (λ a b. absurd (omega arith)) in
    record {
      same = rw (
        tasks_same w c d (λ j a b. past j (λ e. omega arith) (λ e. omega arith)) (λ j a b. past j (λ e. omega arith) (λ e. omega arith)),
        chans_same w c d (λ j a b. past j (λ e. omega arith) (λ e. omega arith)),
        order_same w c d (λ j a b. past j (λ e. omega arith) (λ e. omega arith)),
        past 176 (λ e. omega arith) (λ e. omega arith),
        past 177 (λ e. omega arith) (λ e. omega arith),
        past 178 (λ e. omega arith) (λ e. omega arith),
        first2 c 179 n 180 m (omega arith) (λ e. omega arith),
        second2 c 179 n 180 m (omega arith),
      );
      plain = λ z. q (p z);
      whole = λ z. (z.0, length-set (slice_set c 179 n) 180 m ∙ length-set c 179 n ∙ z.1);
    }

pub tick_made : (w c : List ℕ) → length w ≡ 33 → (n : ℕ) → n ≡ (slice_index w 32 + 1) % stamp_modulus → Made (state_in w c) (state_in (slice_set w 32 n) c) (λ s. ticked s)
unfolding records_in
tick_made w c lw n e = record {
  same = rw (
    table_same (task_of w c) (task_of (slice_set w 32 n) c) 16 0 (λ j a b. rw (get_or-set_other w 32 j n 0 (λ e. omega arith), get_or-set_other w 32 (16 + j) n 0 (λ e. omega arith))),
    get_or-set_same w 32 n 0 (omega arith),
    e,
  );
  plain = λ z. z;
  whole = λ z. (length-set w 32 n ∙ z.0, z.1);
}

-- ONE CHANGE BEHIND THE OTHER

pub made_then : {x y z : State} {f g : Records → Records} → Made x y f → Made y z g → Made x z (λ s. g (f s))
made_then {g = g} p q = record { same = q.same ∙ ap g p.same; plain = λ a. q.plain (p.plain a); whole = λ a. q.whole (p.whole a) }

-- The same change by another word.
pub made_as : {x y : State} {f : Records → Records} (g : Records → Records) → Made x y f → f (records_of x) ≡ g (records_of x) → Made x y g
made_as g p e = record { same = p.same ∙ e; plain = p.plain; whole = p.whole }

-- A turn whose changes are made, and its answer.
pub made_turn : {x y : State} {f : Records → Records} (m : Moved) (e : Records → Event) (h : Records → Change) → Made x y f → m.event ≡ e (records_of x) → m.change ≡ h (records_of x)
    → MadeTurn x y m (λ s. record { event = e s; after = f s; change = h s })
made_turn m e h p a b = record { same = rw (a, b, p.same); plain = p.plain; whole = p.whole }

pub turn_as_lem : {x y : State} {m : Moved} {f : Records → Done} (g : Records → Done) → MadeTurn x y m f → f (records_of x) ≡ g (records_of x) → MadeTurn x y m g
turn_as_lem g p e = record { same = p.same ∙ e; plain = p.plain; whole = p.whole }

-- A turn whose last changes are a turn of their own.
pub turn_then : {x y z : State} {m : Moved} {f : Records → Records} {g : Records → Done} → Made x y f → MadeTurn y z m g → MadeTurn x z m (λ s. g (f s))
turn_then {g = g} p q = record { same = q.same ∙ ap g p.same; plain = λ a. q.plain (p.plain a); whole = λ a. q.whole (p.whole a) }
