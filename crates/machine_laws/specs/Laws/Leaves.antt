-- The leaves of a turn over the records, seen as the meaning sees them: a task's record stored, the waiting order changed, a
-- channel's record and values stored.
use Rattle.std.specs.Prelude.{◌≡◌, refl, Bool, true, false, cond, not, List, [], ◌∷◌, ◌++◌, map, ℕ, zero, suc, ◌+◌, ◌-◌, ◌%◌, ◌≤◌, ◌<◌, eqb, length, get_or, set, take, drop, replicate}
use Rattle.std.proofs.Common.{sym, ap, ◌∙◌, le_of_suc-le-suc, not-suc-le-zero, mod-eq_of_lt, add-one, arith, length-append, length-take, length-drop, take-suc-set, get_or-set_same, get_or-set_other, set-set}
use Rattle.std.proofs.Math.Option
use Rattle.std.proofs.Math.Option.{none, some}
use Rattle.std.proofs.Math.ListN.{get_elem?}
use Rattle.std.proofs.lemmas.List.{length-replicate, set-get_or}
use Rattle.machine_laws.specs.Kinds.{Task, Chan, TaskState, ChanState}
use Rattle.meaning.specs.Numbers.{task_limit, channel_limit, capacity_limit}
use Rattle.meaning.specs.Machine.{Standing, Channel, channel_at, holding, shut, without}
use Rattle.meaning.specs.Image.{Spot}
use Rattle.meaning_laws.specs.Laws.Lists.{map-set, map_at}
use Rattle.machine_records.specs.Laws.Cells.{take_over, keep-length}
use Rattle.machine_records.specs.Cells.{over, cons_if, keep}
use Rattle.machine_records.specs.Records.{Records, blank_task, blank_chan, task_in, chan_in, no_tasks, other, order_of, chan_longer, chan_shorter, chan_shut, left, joined}
use Rattle.machine_records.specs.Values.{Values, row_for, shifted, with_value, without_first}
use Rattle.machine_records.specs.View.{standing_of, channel_of, channels_of}
use Rattle.machine_laws.specs.Laws.Fit.{Arrays}

-- LISTS

module _ {A : Type 0} where
  take_set : (n : ℕ) (l : List A) (k : ℕ) (x : A) → take n (set l k x) ≡ set (take n l) k x
  take_set zero l k x = refl
  take_set (suc n) [] k x = refl
  take_set (suc n) (y ∷ ys) zero x = refl
  take_set (suc n) (y ∷ ys) (suc k) x = ap (λ (l : List A). y ∷ l) (take_set n ys k x)

  first_at : (l : List A) (n k : ℕ) (d : A) → k < n → n ≤ length l → get_elem? (take n l) k ≡ some (get_or l k d)
  first_at [] n k d h e = absurd (omega arith)
  first_at (x ∷ xs) zero k d h e = absurd (not-suc-le-zero h)
  first_at (x ∷ xs) (suc n) zero d h e = refl
  first_at (x ∷ xs) (suc n) (suc k) d h e = first_at xs n k d (le_of_suc-le-suc h) (le_of_suc-le-suc e)

  past_first : (l : List A) (n k : ℕ) → n ≤ k → get_elem? (take n l) k ≡ none
  past_first l zero k h = refl
  past_first [] (suc n) k h = refl
  past_first (x ∷ xs) (suc n) zero h = absurd (not-suc-le-zero h)
  past_first (x ∷ xs) (suc n) (suc k) h = past_first xs n k (le_of_suc-le-suc h)

-- THE TASKS

standings_set : (n : ℕ) (xs : List TaskState) (k : ℕ) (x : TaskState) → map standing_of (take n (set xs k x)) ≡ set (map standing_of (take n xs)) k (standing_of x)
standings_set n xs k x = ap (map standing_of) (take_set n xs k x) ∙ map-set standing_of (take n xs) k x

pub task_set : (n : ℕ) (xs : List TaskState) (t : Task) (x : TaskState) → t.0 < task_limit
    → map standing_of (take n (set xs (t.0 % task_limit) x)) ≡ set (map standing_of (take n xs)) t.0 (standing_of x)
task_set n xs t x h = rw (mod-eq_of_lt h) (standings_set n xs t.0 x)

pub standings_at : (n : ℕ) (xs : List TaskState) (k : ℕ) → k < n → n ≤ length xs
    → get_elem? (map standing_of (take n xs)) k ≡ some (standing_of (get_or xs k blank_task))
standings_at n xs k h e = map_at standing_of (take n xs) k ∙ ap (Option.map standing_of) (first_at xs n k blank_task h e)

pub standings_past : (n : ℕ) (xs : List TaskState) (k : ℕ) → n ≤ k → get_elem? (map standing_of (take n xs)) k ≡ none
standings_past n xs k h = map_at standing_of (take n xs) k ∙ ap (Option.map standing_of) (past_first xs n k h)

-- The mover's record stored, and then read again: another task's, or its own.
module _ (n : ℕ) (xs : List TaskState) (me : Task) (below : me.0 < task_limit) (y : TaskState) (g : TaskState → TaskState) where
  abbrev standings : List TaskState → List (Standing Spot)
  standings l = map standing_of (take n l)

  abbrev moved : List TaskState
  moved = set xs (me.0 % task_limit) y

  pub tasks_woken : (t : Task) → t.0 < task_limit → (t.0 ≡ me.0 → ⊥)
      → standings (set moved (t.0 % task_limit) (g (task_in moved t))) ≡ set (set (standings xs) me.0 (standing_of y)) t.0 (standing_of (g (task_in xs t)))
  tasks_woken t h apart =
      let others : t.0 % task_limit ≡ me.0 % task_limit → ⊥ = λ e. apart (sym (mod-eq_of_lt h) ∙ e ∙ mod-eq_of_lt below) in
      let z : task_in moved t ≡ task_in xs t = get_or-set_other xs (me.0 % task_limit) (t.0 % task_limit) y blank_task others in
      task_set n moved t (g (task_in moved t)) h
      ∙ ap (λ l. set l t.0 (standing_of (g (task_in moved t)))) (task_set n xs me y below)
      ∙ ap (λ x. set (set (standings xs) me.0 (standing_of y)) t.0 (standing_of (g x))) z

  pub tasks_twice : length xs ≡ task_limit → standings (set moved (me.0 % task_limit) (g (task_in moved me))) ≡ set (standings xs) me.0 (standing_of (g y))
  tasks_twice full =
      ap (λ z. standings (set moved (me.0 % task_limit) (g z))) (get_or-set_same xs (me.0 % task_limit) y blank_task (omega arith))
      ∙ ap standings (set-set xs (me.0 % task_limit) y (g y))
      ∙ task_set n xs me (g y) below

-- THE ORDER

pub order_cells : (ts : List Task) → length ts ≤ task_limit → take (length ts % suc task_limit) (over ts no_tasks) ≡ ts
order_cells ts h =
    let e : length ts % suc task_limit ≡ length ts = omega arith in
    rw e (take_over ts no_tasks)

others : (t : Task) (o : List Task) → keep (other t) o ≡ without t o
unfolding without
others t [] = refl
others t (u ∷ us) = go (eqb t.0 u.0) (others t us)
  where
    go : (b : Bool) → keep (other t) us ≡ without t us → cons_if (not b) u (keep (other t) us) ≡ cond b (without t us) (u ∷ without t us)
    go true e = e
    go false e = ap (λ l. u ∷ l) e

module _ (s : Records) where
  order_most : length (order_of s) ≤ task_limit
  order_most = omega (arith, length-take (s.waiting % suc task_limit) s.order)

  pub order_kept : (p : Task → Bool) → length (keep p (order_of s)) ≤ task_limit
  order_kept p = omega (arith, order_most, keep-length p (order_of s))

  pub order_left : (t : Task) → order_of (left s t) ≡ without t (order_of s)
  order_left t = order_cells (keep (other t) (order_of s)) (order_kept (other t)) ∙ others t (order_of s)

  pub order_joined : (t : Task) → s.waiting < task_limit → length s.order ≡ task_limit → order_of (joined s t) ≡ order_of s ++ t ∷ []
  order_joined t h k =
      let e : s.waiting % task_limit ≡ s.waiting = omega arith in
      let q : (s.waiting + 1) % suc task_limit ≡ suc s.waiting = omega arith in
      let z : s.waiting % suc task_limit ≡ s.waiting = omega arith in
      rw (e, q, z) (take-suc-set s.order s.waiting t (omega arith))

-- THE CHANNELS

channels_set : (ns : List ℕ) (ks : List ChanState) (b : Values) (c : ℕ) (k : ChanState) (r : List ℕ)
    → channels_of ns (set ks c k) (set b c r) ≡ set (channels_of ns ks b) c (channel_of (get_or ns c 0) k r)
channels_set [] ks b c k r = refl
channels_set (n ∷ ns) [] b c k r = refl
channels_set (n ∷ ns) (x ∷ xs) [] zero k r = refl
channels_set (n ∷ ns) (x ∷ xs) [] (suc c) k r = refl
channels_set (n ∷ ns) (x ∷ xs) (y ∷ ys) zero k r = refl
channels_set (n ∷ ns) (x ∷ xs) (y ∷ ys) (suc c) k r = ap (λ l. channel_of n x y ∷ l) (channels_set ns xs ys c k r)

channels_at : (ns : List ℕ) (ks : List ChanState) (b : Values) (c : Chan) → c.0 < length ns → c.0 < length ks → c.0 < length b
    → channel_at (channels_of ns ks b) c ≡ channel_of (get_or ns c.0 0) (get_or ks c.0 blank_chan) (get_or b c.0 [])
channels_at ns ks b c h j k = at ns ks b c.0 h j k
  where
    at : (ns : List ℕ) (ks : List ChanState) (b : Values) (n : ℕ) → n < length ns → n < length ks → n < length b
        → channel_at (channels_of ns ks b) (record { 0 = n }) ≡ channel_of (get_or ns n 0) (get_or ks n blank_chan) (get_or b n [])
    at [] ks b n h j k = absurd (not-suc-le-zero h)
    at (m ∷ ms) [] b n h j k = absurd (not-suc-le-zero j)
    at (m ∷ ms) (x ∷ xs) [] n h j k = absurd (not-suc-le-zero k)
    at (m ∷ ms) (x ∷ xs) (y ∷ ys) zero h j k = refl
    at (m ∷ ms) (x ∷ xs) (y ∷ ys) (suc n) h j k = at ms xs ys n (le_of_suc-le-suc h) (le_of_suc-le-suc j) (le_of_suc-le-suc k)

-- A row without its first value, in as many cells.
module _ (row : List ℕ) (n : ℕ) (most : n ≤ length row) where
  shifted_take : take (n - 1) (shifted row n) ≡ drop 1 (take n row)
  shifted_take =
      let d : length (drop 1 (take n row)) ≡ n - 1 = omega (arith, length-drop 1 (take n row), length-take n row) in
      rw (← d) (take_over (drop 1 (take n row)) (replicate (length row) 0))

  pub shifted-length : length (shifted row n) ≡ length row
  shifted-length =
      let l : List ℕ = drop 1 (take n row) in
      let zeros : List ℕ = replicate (length row) 0 in
      let d = length-append l (drop (length l) zeros) in
      omega (arith, most, d, length-drop 1 (take n row), length-take n row, length-drop (length l) zeros, length-replicate {A = ℕ} (length row) 0)

-- Channel c of the records s and the values b, one of those with a capacity.
module _ (ns : List ℕ) (s : Records) (b : Values) (a : Arrays s b) (c : Chan) (declared : c.0 < length ns) (few : length ns ≤ channel_limit) where
  abbrev cs : List Channel
  cs = channels_of ns s.chans b

  abbrev kept : ChanState
  kept = chan_in s.chans c

  abbrev row : List ℕ
  row = row_for b c

  same : c.0 % channel_limit ≡ c.0
  same = mod-eq_of_lt (omega arith)

  pub chan_is : kept ≡ get_or s.chans c.0 blank_chan
  chan_is = ap (λ j. get_or s.chans j blank_chan) same

  pub cells : length row ≡ capacity_limit
  cells = a.cells16 (c.0 % channel_limit) (omega arith)

  pub channel_at_lem : channel_at cs c ≡ channel_of (get_or ns c.0 0) kept row
  channel_at_lem = rw same (channels_at ns s.chans b c declared (omega (arith, a.chans16)) (omega (arith, a.rows16)))

  put : (k : ChanState) (r : List ℕ)
      → channels_of ns (set s.chans (c.0 % channel_limit) k) (set b (c.0 % channel_limit) r) ≡ set cs c.0 (channel_of (get_or ns c.0 0) k r)
  put k r = channels_set ns s.chans b (c.0 % channel_limit) k r ∙ ap (λ j. set cs j (channel_of (get_or ns j 0) k r)) same

  stored : (k : ChanState) (r vs : List ℕ) → k.closed ≡ kept.closed → take k.len r ≡ vs
      → channels_of ns (set s.chans (c.0 % channel_limit) k) (set b (c.0 % channel_limit) r) ≡ set cs c.0 (holding vs (channel_at cs c))
  stored k r vs e q = put k r ∙ ap (set cs c.0) (rw (channel_at_lem, e, q))

  pub channels_shut : channels_of ns (chan_shut s c).chans b ≡ set cs c.0 (shut (channel_at cs c))
  channels_shut =
      ap (channels_of ns (chan_shut s c).chans) (sym (set-get_or b (c.0 % channel_limit) []))
      ∙ put (record { closed = true; len = kept.len }) row
      ∙ ap (set cs c.0) (rw channel_at_lem)

  pub channels_appended : (v : ℕ) → kept.len < capacity_limit
      → channels_of ns (chan_longer s c).chans (with_value b c kept.len v) ≡ set cs c.0 (holding ((channel_at cs c).buffer ++ v ∷ []) (channel_at cs c))
  channels_appended v h =
      let e : kept.len % capacity_limit ≡ kept.len = mod-eq_of_lt h in
      rw (e, add-one)
      (stored (record { closed = kept.closed; len = suc kept.len }) (set row kept.len v) ((channel_at cs c).buffer ++ v ∷ []) refl
      (take-suc-set row kept.len v (omega (arith, cells)) ∙ rw channel_at_lem))

  module _ (most : kept.len ≤ capacity_limit) (v : ℕ) (vs : List ℕ) (holds : take kept.len row ≡ v ∷ vs) where
    abbrev n : ℕ
    n = kept.len

    length_is : n % suc capacity_limit ≡ n
    length_is = omega arith

    within : n ≤ length row
    within = omega (arith, cells)

    pub channels_taken : channels_of ns (chan_shorter s c).chans (without_first b c n) ≡ set cs c.0 (holding vs (channel_at cs c))
    channels_taken =
        rw length_is
        (stored (record { closed = kept.closed; len = n - 1 }) (shifted row n) vs refl
        (shifted_take row n within ∙ ap (drop 1) holds))

    -- The channel's record is not stored: its length is what it was.
    pub channels_refilled : (w : ℕ)
        → channels_of ns s.chans (with_value (without_first b c n) c (n % suc capacity_limit - 1) w) ≡ set cs c.0 (holding (vs ++ w ∷ []) (channel_at cs c))
    channels_refilled w =
        let after : List ℕ = set (shifted row n) (n - 1) w in
        let some_held : 0 < n = omega (arith, length-take n row, ap (λ (l : List ℕ). length l) holds) in
        let k : (n - 1) % capacity_limit ≡ n - 1 = omega arith in
        let j : n ≡ suc (n - 1) = omega arith in
        let there = get_or-set_same b (c.0 % channel_limit) (shifted row n) [] (omega (arith, a.rows16)) in
        rw (length_is, k, there, set-set b (c.0 % channel_limit) (shifted row n) after)
        (ap (λ l. channels_of ns l (set b (c.0 % channel_limit) after)) (sym (set-get_or s.chans (c.0 % channel_limit) blank_chan))
        ∙ stored kept after (vs ++ w ∷ []) refl
        (ap (λ i. take i after) j
        ∙ take-suc-set (shifted row n) (n - 1) w (omega (arith, shifted-length row n within, cells))
        ∙ ap (λ l. l ++ w ∷ []) (shifted_take row n within ∙ ap (drop 1) holds)))
