-- What no turn over the records changes: the lists stay as long as their arrays, and a state that fits stays one that fits.
use Rattle.std.specs.Prelude.{◌≡◌, false, Option, Some, None, length, get_or, set, drop}
use Rattle.std.proofs.Math.Path.{refl, ap, subst}
use Rattle.std.proofs.Common.{sym, ◌∙◌, arith, length-append, length-drop, get_or-set_same, get_or-set_other}
use mathlib.Core.List.{List, [], ◌∷◌}
use Prim.Native.Nat.{ℕ, zero, suc, ◌+◌, ◌-◌, ◌%◌, ◌≤◌, ◌<◌}
use Rattle.std.proofs.Math.Decide.{ℕ_discrete}
use Rattle.std.proofs.Math.ListN.{length-take, length-set}
use Rattle.machine_laws.specs.Kinds.{Task, Chan, TaskState, ChanState, Change, Keep, Append, Take, Refill, Receiving, Offer, Plan, Refusal}
use Rattle.meaning.specs.Numbers.{task_limit, channel_limit, capacity_limit, depth_limit, stamp_modulus}
use Rattle.meaning.specs.Machine as m
use Rattle.meaning.specs.Image.{Spot, image_look, chan_no}
use Rattle.meaning.specs.Bytes.{row_count, channel_count, body_of, rows_of, capacities_of, capacity_in}
use Rattle.image_check.specs.Sound.{Sound}
use Rattle.meaning_laws.specs.Laws.Points.{Standings}
use Rattle.meaning_laws.specs.Fits.{Within, Fits}
use Rattle.meaning_laws.specs.Laws.Fits.{within_at, fits_turn}
use Rattle.image_laws.specs.Laws.Closed.{OnRow, rows_turn}
use Rattle.machine_records.specs.Cells.{keep}
use Rattle.machine_records.specs.Records.{Records, blank_task, blank_chan, task_in, chan_in, no_tasks, other, order_of, got_task, halted, with_task, with_tasks, with_chan, ordered, joined, task_went, chan_shut, ticked}
use Rattle.machine_records.specs.Laws.Sized.{Laps, Sized}
use Rattle.machine_records.specs.Values.{Values, row_for, shifted, with_value, without_first, changed}
use Rattle.machine_records.specs.Waiters.{waits_at}
use Rattle.machine_records.specs.Plans.{Done, idle, woken_by, woken_tasks, applied}
use Rattle.machine_records.specs.Step.{plan_of, refused_by, stepped_by, stepped}
use Rattle.machine_records.specs.View.{channel_of, view_in, view}
use Rattle.machine_laws.specs.Laws.Fit.{Arrays, Fit}
use Rattle.machine_laws.specs.Laws.Leaves.{order_kept, shifted-length, chan_is, cells, channel_at_lem}
use Rattle.machine_laws.specs.Laws.Capacities.{capacity_count, capacity_at}
use Rattle.machine_laws.specs.Laws.Link.{step_means}

-- An entry behind a set one is that one, or the entry that was there.
at_set : {A : Type 0} (P : A → Type 0) (xs : List A) (i : ℕ) (x : A) (t : ℕ) (d : A) → P x → P (get_or xs t d) → P (get_or (set xs i x) t d)
at_set P [] i x t d p q = q
at_set P (y ∷ xs) zero x zero d p q = p
at_set P (y ∷ xs) zero x (suc t) d p q = q
at_set P (y ∷ xs) (suc i) x zero d p q = q
at_set P (y ∷ xs) (suc i) x (suc t) d p q = at_set P xs i x t d p q

abbrev SixLaps : TaskState → Type 0
SixLaps x = length x.laps ≡ depth_limit

laps_set : (xs : List TaskState) (i : ℕ) (x : TaskState) → SixLaps x → Laps xs → Laps (set xs i x)
laps_set xs i x e l t h = at_set SixLaps xs i x t blank_task e (l t h)

laps_in : (xs : List TaskState) (t : Task) → Laps xs → SixLaps (task_in xs t)
laps_in xs t l = l (t.0 % task_limit) (omega arith)

-- THE RECORDS z behind the records s, whose lists are as long as their arrays

record Shape (s z : Records) : Type 0 where
  tasks : length z.tasks ≡ length s.tasks
  chans : length z.chans ≡ length s.chans
  order : length z.order ≡ task_limit
  laps : Laps s.tasks → Laps z.tasks
  taskcount : z.taskcount ≡ s.taskcount
  chancount : z.chancount ≡ s.chancount
  waiting : s.waiting ≤ task_limit → z.waiting ≤ task_limit
  lengths : (c : ℕ) → (get_or s.chans c blank_chan).len ≤ capacity_limit → (get_or z.chans c blank_chan).len ≤ capacity_limit

-- One change more. A stored channel's length is within the cells if the old one is.
module _ {s z : Records} (k : Shape s z) where
  -- The tasks, the halt record and the stamp.
  abbrev marked : List TaskState → ℕ → Task → ℕ → Records
  marked xs f t n = record {
    tasks = xs;
    taskcount = z.taskcount;
    chans = z.chans;
    chancount = z.chancount;
    order = z.order;
    waiting = z.waiting;
    fault = f;
    named = t;
    stamp = n;
  }

  kept_marks : (xs : List TaskState) (f : ℕ) (t : Task) (n : ℕ) → length xs ≡ length z.tasks → (Laps z.tasks → Laps xs) → Shape s (marked xs f t n)
  kept_marks xs f t n e h = record {
    tasks = e ∙ k.tasks;
    chans = k.chans;
    order = k.order;
    laps = λ l. h (k.laps l);
    taskcount = k.taskcount;
    chancount = k.chancount;
    waiting = k.waiting;
    lengths = k.lengths;
  }

  kept_ticked : Shape s (ticked z)
  kept_ticked = kept_marks z.tasks z.fault z.named ((z.stamp + 1) % stamp_modulus) refl (λ l. l)

  kept_halted : (f : ℕ) (t : Task) → Shape s (halted z f t)
  kept_halted f t = kept_marks z.tasks f t z.stamp refl (λ l. l)

  kept_tasks : (xs : List TaskState) → length xs ≡ length z.tasks → (Laps z.tasks → Laps xs) → Shape s (with_tasks z xs)
  kept_tasks xs e h = kept_marks xs z.fault z.named z.stamp e h

  kept_task : (t : Task) (x : TaskState) → (SixLaps (task_in z.tasks t) → SixLaps x) → Shape s (with_task z t x)
  kept_task t x h =
      let i = t.0 % task_limit in
      kept_tasks (set z.tasks i x) (length-set z.tasks i x) (λ l. laps_set z.tasks i x (h (laps_in z.tasks t l)) l)

  kept_ordered : (ts : List Task) → length ts ≤ task_limit → Shape s (ordered z ts)
  kept_ordered ts h = record {
    tasks = k.tasks;
    chans = k.chans;
    order = omega (arith, h, length-append ts (drop (length ts) no_tasks), length-drop (length ts) no_tasks);
    laps = k.laps;
    taskcount = k.taskcount;
    chancount = k.chancount;
    waiting = λ l. h;
    lengths = k.lengths;
  }

  kept_joined : (t : Task) → Shape s (joined z t)
  kept_joined t = record {
    tasks = k.tasks;
    chans = k.chans;
    order = length-set z.order (z.waiting % task_limit) t ∙ k.order;
    laps = k.laps;
    taskcount = k.taskcount;
    chancount = k.chancount;
    waiting = λ l. omega arith;
    lengths = k.lengths;
  }

  module _ (full : length s.chans ≡ channel_limit) (c : Chan) (q : ChanState)
      (short : (chan_in z.chans c).len ≤ capacity_limit → q.len ≤ capacity_limit) where
    abbrev chans : List ChanState
    chans = set z.chans (c.0 % channel_limit) q

    length_at : (j : ℕ) → (get_or z.chans j blank_chan).len ≤ capacity_limit → (get_or chans j blank_chan).len ≤ capacity_limit
    length_at j l =
        let inside : c.0 % channel_limit < length z.chans = omega (arith, k.chans, full) in
        elim (ℕ_discrete j (c.0 % channel_limit)) [
          | yes e ↦ (
              let n = subst (λ i. (get_or z.chans i blank_chan).len ≤ capacity_limit) e l in
              rw (e, get_or-set_same z.chans (c.0 % channel_limit) q blank_chan inside) (short n)
              )
          | no d ↦ rw (get_or-set_other z.chans (c.0 % channel_limit) j q blank_chan d) l
        ]

    kept_chan : Shape s (with_chan z c q)
    kept_chan = record {
      tasks = k.tasks;
      chans = length-set z.chans (c.0 % channel_limit) q ∙ k.chans;
      order = k.order;
      laps = k.laps;
      taskcount = k.taskcount;
      chancount = k.chancount;
      waiting = k.waiting;
      lengths = λ j l. length_at j (k.lengths j l);
    }

module _ (rs : List ℕ) (s : Records) (c : Chan) where
  woken_by_lem : (t : Task) (g : Option Offer) (xs : List TaskState) → length (woken_by rs s c t g xs) ≡ length xs
  woken_by_lem t None xs = refl
  woken_by_lem t (Some g) xs = length-set xs (t.0 % task_limit) (got_task (task_in xs t) 0 false g.miss)

  woken_tasks_lem : (ts : List Task) (xs : List TaskState) → length (woken_tasks rs s c ts xs) ≡ length xs
  unfolding woken_tasks
  woken_tasks_lem [] xs = refl
  woken_tasks_lem (t ∷ ts) xs = woken_tasks_lem ts (woken_by rs s c t (waits_at rs s Receiving c t) xs) ∙ woken_by_lem t (waits_at rs s Receiving c t) xs

  by_laps : (t : Task) (g : Option Offer) (xs : List TaskState) → Laps xs → Laps (woken_by rs s c t g xs)
  by_laps t None xs l = l
  by_laps t (Some g) xs l = laps_set xs (t.0 % task_limit) (got_task (task_in xs t) 0 false g.miss) (laps_in xs t l) l

  woken_laps : (ts : List Task) (xs : List TaskState) → Laps xs → Laps (woken_tasks rs s c ts xs)
  unfolding woken_tasks
  woken_laps [] xs l = l
  woken_laps (t ∷ ts) xs l = woken_laps ts (woken_by rs s c t (waits_at rs s Receiving c t) xs) (by_laps t (waits_at rs s Receiving c t) xs l)

module _ (s : Records) (line : length s.order ≡ task_limit) (full : length s.chans ≡ channel_limit) where
  kept_all : Shape s s
  kept_all = record { tasks = refl; chans = refl; order = line; laps = λ l. l; taskcount = refl; chancount = refl; waiting = λ l. l; lengths = λ c l. l }

  module _ (rs : List ℕ) (me : Task) where
    -- A partner moved on behind the mover, and taken out of the order.
    woken : (x : TaskState) (t : Task) (y : TaskState) → (SixLaps (task_in s.tasks me) → SixLaps x)
        → (SixLaps (task_in (with_task s me x).tasks t) → SixLaps y)
        → Shape s (ticked (ordered (with_task (with_task s me x) t y) (keep (other t) (order_of s))))
    woken x t y f g = kept_ticked (kept_ordered (kept_task (kept_task kept_all me x f) t y g) (keep (other t) (order_of s)) (order_kept s (other t)))

    chan_kept : (c : Chan) (q : ChanState) → ((chan_in s.chans c).len ≤ capacity_limit → q.len ≤ capacity_limit) → Shape s (with_chan s c q)
    chan_kept c q f = kept_chan kept_all full c q f

    plan_kept : (p : Plan) → Shape s (applied rs s me p).after
    unfolding applied
    plan_kept (Plan.Fail f p) = kept_ticked (kept_halted kept_all f me)
    plan_kept Plan.Wait = kept_ticked (kept_joined (kept_task kept_all me _ (λ l. l)) me)
    plan_kept (Plan.Branch r) = kept_ticked (kept_task kept_all me _ (λ l. l))
    plan_kept (Plan.Lap d k r) =
        let e = length-set (task_in s.tasks me).laps (d % depth_limit) k in
        kept_ticked (kept_task (kept_task kept_all me _ (λ l. e ∙ l)) me _ (λ l. l))
    plan_kept Plan.End = kept_ticked (kept_task kept_all me _ (λ l. l))
    plan_kept (Plan.Hand c v next w on) = woken _ w _ (λ l. l) (λ l. l)
    plan_kept (Plan.Append c v next) = kept_ticked (kept_task (chan_kept c _ (λ l. omega arith)) me _ (λ l. l))
    plan_kept (Plan.Take c v hit) = kept_ticked (kept_task (chan_kept c _ (λ l. omega (arith, l))) me _ (λ l. l))
    plan_kept (Plan.Refill c v hit w sent on) = woken _ w _ (λ l. l) (λ l. l)
    plan_kept (Plan.Receive c v hit w on) = woken _ w _ (λ l. l) (λ l. l)
    plan_kept (Plan.Drain c miss) = kept_ticked (kept_task kept_all me _ (λ l. l))
    plan_kept (Plan.Shut c next) =
        let z : Records = task_went (chan_shut s c) me next in
        let k : Shape s z = kept_task (chan_kept c _ (λ l. l)) me _ (λ l. l) in
        let ts = order_of s in
        let xs = z.tasks in
        let awake = kept_tasks k (woken_tasks rs s c ts xs) (woken_tasks_lem rs s c ts xs) (woken_laps rs s c ts xs) in
        kept_ticked (kept_ordered awake (keep (idle rs s c) (order_of s)) (order_kept s (idle rs s c)))

  module _ (rs : List ℕ) (rows : ℕ) (b : Values) (t : Task) (choice : ℕ) where
    kept_by : (r : Option Refusal) → Shape s (stepped_by rs rows s b t choice r).after
    kept_by None = plan_kept rs t (plan_of rs rows s b (task_in s.tasks t) choice)
    kept_by (Some r) = kept_all

    step_kept : Shape s (stepped rs rows s b t choice).after
    unfolding stepped
    step_kept = kept_by (refused_by s.fault s.taskcount t (task_in s.tasks t).status)

-- THE VALUES

-- As many rows of as many cells as the arrays have.
record Rows16 (b : Values) : Type 0 where
  rows : length b ≡ channel_limit
  cells : (c : ℕ) → c < channel_limit → length (get_or b c []) ≡ capacity_limit

rows_set : (b : Values) (i : ℕ) (row : List ℕ) → length row ≡ capacity_limit → Rows16 b → Rows16 (set b i row)
rows_set b i row e g = record {
  rows = length-set b i row ∙ g.rows;
  cells = λ c l. at_set (λ (r : List ℕ). length r ≡ capacity_limit) b i row c [] e (g.cells c l);
}

module _ (b : Values) (g : Rows16 b) (c : Chan) where
  row_cells : length (row_for b c) ≡ capacity_limit
  row_cells = g.cells (c.0 % channel_limit) (omega arith)

  row_set : (row : List ℕ) → length row ≡ length (row_for b c) → Rows16 (set b (c.0 % channel_limit) row)
  row_set row e = rows_set b (c.0 % channel_limit) row (e ∙ row_cells) g

  value_rows : (len v : ℕ) → Rows16 (with_value b c len v)
  value_rows len v = row_set (set (row_for b c) (len % capacity_limit) v) (length-set (row_for b c) (len % capacity_limit) v)

  first_rows_lem : (len : ℕ) → Rows16 (without_first b c len)
  first_rows_lem len = row_set (shifted (row_for b c) (len % suc capacity_limit)) (shifted-length (row_for b c) (len % suc capacity_limit) (omega (arith, row_cells)))

changed_rows : (b : Values) (h : Change) → Rows16 b → Rows16 (changed b h)
unfolding changed
changed_rows b Keep g = g
changed_rows b (Append c len v) g = value_rows b g c len v
changed_rows b (Take c len) g = first_rows_lem b g c len
changed_rows b (Refill c len v) g = value_rows (without_first b c len) (first_rows_lem b g c len) c (len % suc capacity_limit - 1) v

-- THE ARRAYS

module _ (rs : List ℕ) (rows : ℕ) (s : Records) (b : Values) (a : Arrays s b) (t : Task) (choice : ℕ) where
  pub step_arrays : Arrays (stepped rs rows s b t choice).after (changed b (stepped rs rows s b t choice).change)
  step_arrays =
      let k = step_kept s a.order16 a.chans16 rs rows b t choice in
      let g = changed_rows b (stepped rs rows s b t choice).change (record { rows = a.rows16; cells = a.cells16 }) in
      record { tasks16 = k.tasks ∙ a.tasks16; chans16 = k.chans ∙ a.chans16; order16 = k.order; rows16 = g.rows; cells16 = g.cells }

module _ (rs : List ℕ) (rows : ℕ) (s : Records) (b : Values) (z : Sized s) (t : Task) (choice : ℕ) where
  pub step_sized : Sized (stepped rs rows s b t choice).after
  step_sized =
      let k = step_kept s z.order16 z.chans16 rs rows b t choice in
      record { tasks16 = k.tasks ∙ z.tasks16; chans16 = k.chans ∙ z.chans16; order16 = k.order; laps6 = k.laps z.laps6 }

-- A STATE THAT FITS

-- Lengths within the cells are within the capacities, for so are those that the view shows.
module _ (bs : List ℕ) (sound : Sound bs) (s : Records) (b : Values) (a : Arrays s b) (f : Fits (image_look (rows_of bs)) (view bs s b)) where
  lengths_within : (c : ℕ) → c < channel_count bs → (get_or s.chans c blank_chan).len ≤ capacity_limit
      → (get_or s.chans c blank_chan).len ≤ capacity_in (body_of bs) (row_count bs) (chan_no c)
  unfolding view_in
  lengths_within c h l =
      let n = capacity_count bs in
      let i = sound.most_channels in
      let caps : List ℕ = capacities_of bs in
      let kept : ChanState = chan_in s.chans (chan_no c) in
      let row : List ℕ = row_for b (chan_no c) in
      let e = channel_at_lem caps s b a (chan_no c) (omega arith) (omega arith) in
      let w : Within (channel_of (get_or caps c 0) kept row) = subst Within e (within_at (image_look (rows_of bs)) (view bs s b) (chan_no c) f) in
      let z : kept.len ≡ (get_or s.chans c blank_chan).len = ap (λ k. k.len) (chan_is caps s b a (chan_no c) (omega arith) (omega arith)) in
      omega (arith, w, z, l, cells caps s b a (chan_no c) (omega arith) (omega arith), length-take kept.len row, capacity_at bs c h)

module _ (bs : List ℕ) (sound : Sound bs) (s : Records) (b : Values) (a : Arrays s b) (f : Fit bs s b) (t : Task) (choice : ℕ) where
  abbrev next : Done
  next = stepped (body_of bs) (row_count bs) s b t choice

  after : view bs next.after (changed b next.change) ≡ (m.turn (image_look (rows_of bs)) t choice (view bs s b)).after
  after = ap (λ (z : m.Turned Spot). z.after) (step_means bs sound s b a f t choice)

  pub step_fit : Fit bs (stepped (body_of bs) (row_count bs) s b t choice).after (changed b (stepped (body_of bs) (row_count bs) s b t choice).change)
  step_fit =
      let k = step_kept s a.order16 a.chans16 (body_of bs) (row_count bs) b t choice in
      let arrays = step_arrays (body_of bs) (row_count bs) s b a t choice in
      let fine = subst (Fits (image_look (rows_of bs))) (sym after) (fits_turn (image_look (rows_of bs)) t choice (view bs s b) f.fits) in
      let within = lengths_within bs sound next.after (changed b next.change) arrays fine in
      record {
        taskcount = k.taskcount ∙ f.taskcount;
        chancount = k.chancount ∙ f.chancount;
        waiting = k.waiting f.waiting;
        lengths = λ c h. within c h (k.lengths c (omega (arith, f.lengths c h, sound.capacities c h)));
        rows = subst (Standings (OnRow bs)) (sym after) (rows_turn bs sound t choice (view bs s b) f.rows);
        fits = fine;
      }
