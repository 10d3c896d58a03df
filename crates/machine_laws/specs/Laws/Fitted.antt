-- The test of 17 and the fact that a state fits are one: each gives the other.
use Rattle.std.specs.Prelude.{◌≡◌, true, false, List, [], ◌∷◌, map, ℕ, zero, suc, ◌%◌, ◌≤◌, ◌<◌, leb, length, take}
use Rattle.std.proofs.Math.Path.{refl, sym, subst}
use Rattle.std.proofs.Common.{ap, ◌∙◌, le_of_suc-le-suc, not-suc-le-zero, arith, length-take, get_or-take}
use Rattle.std.proofs.Math.Nat.{mod-eq_of_lt}
use Rattle.std.proofs.Math.Decide.{dec_lt}
use borrow.Author.Tests.{ltb-true, leb-true, eqb-true, lt-ltb, le-leb, eq-eqb, ne_eqb}
use Rattle.std.proofs.Math.Dec.{eqb}
use Rattle.std.proofs.Math.ListN.{get_or}
use Rattle.std.proofs.lemmas.List.{length-map}
use Rattle.machine_laws.specs.Kinds.{Task, Wait, Go, Statement, Do, Close, Range, Repeat, Ifok, Select, Case, Stop, Status, Able, Waiting, Ended, TaskState, ChanState}
use Rattle.meaning.specs.Laws.Tests.{both}
use Rattle.meaning.specs.Numbers.{task_limit, channel_limit, close_under_sender}
use Rattle.meaning.specs.Machine.{Standing}
use Rattle.meaning.specs.Image.{Rows, Spot, image_default, image_repeat, image_statement, image_look, chan_no, task_no}
use Rattle.meaning.specs.Bytes.{row_count, channel_count, task_count, body_of, rows_in, rows_of, capacity_in, capacities_of}
use Rattle.image_rows.specs.Rows.{counts_in, counts_of}
use Rattle.image_row.specs.Row.{is_target}
use Rattle.image_check.specs.Sound.{Sound, Target}
use Rattle.image_check.specs.Laws.Sound.{target_is, is_target_lem}
use Rattle.meaning_laws.specs.Lists.{All}
use Rattle.meaning_laws.specs.Fits.{times, mark, waiting_at, Within, CanWait, PlaceOf, Place}
use Rattle.image_laws.specs.Laws.Closed.{OnRow}
use Rattle.machine_records.specs.Records.{Records, blank_task, blank_chan, order_of}
use Rattle.machine_records.specs.Values.{Values}
use Rattle.machine_records.specs.Fitting.{every, can_wait, place_fits, task_fits, length_fits, name_fits, fitting}
use Rattle.machine_records.specs.Laws.Every.{join, passes, pass}
use Rattle.machine_laws.specs.Laws.Capacities.{capacity_count, capacity_at}
use Rattle.machine_laws.specs.Laws.Fit.{Arrays, Fit}
use Rattle.machine_records.specs.View.{standing_of, channels_of, view_in}

-- TESTS OVER NUMBERS

clash : false ≡ true → ⊥
clash e = let z : ◌≡◌ {A = ℕ} 0 1 = cc in omega (arith, z)

-- LISTS BY NUMBER

module _ {A : Type 0} (Q : A → Type 0) (d : A) where
  all_by : (l : List A) → ((i : ℕ) → i < length l → Q (get_or l i d)) → All Q l
  all_by [] f = tt
  all_by (x ∷ xs) f = (f zero (omega arith), all_by xs (λ i h. f (suc i) (omega arith)))

  by_all : (l : List A) → All Q l → (i : ℕ) → i < length l → Q (get_or l i d)
  by_all [] h i k = absurd (not-suc-le-zero k)
  by_all (x ∷ xs) h zero k = h.0
  by_all (x ∷ xs) h (suc i) k = by_all xs h.1 i (le_of_suc-le-suc k)

get_d_map : {A B : Type 0} (f : A → B) (l : List A) (i : ℕ) (d : A) → get_or (map f l) i (f d) ≡ f (get_or l i d)
get_d_map f [] i d = refl
get_d_map f (x ∷ xs) zero d = refl
get_d_map f (x ∷ xs) (suc i) d = get_d_map f xs i d

-- THE ORDER

waiting_in : (xs : List (Standing Spot)) (d : Standing Spot) (n : ℕ) → n < length xs → waiting_at xs n ≡ mark (get_or xs n d).status
unfolding waiting_at
waiting_in [] d n h = absurd (not-suc-le-zero h)
waiting_in (x ∷ xs) d zero h = refl
waiting_in (x ∷ xs) d (suc n) h = waiting_in xs d n (le_of_suc-le-suc h)

waiting_out : (xs : List (Standing Spot)) (n : ℕ) → length xs ≤ n → waiting_at xs n ≡ 0
unfolding waiting_at
waiting_out [] n h = refl
waiting_out (x ∷ xs) zero h = absurd (not-suc-le-zero h)
waiting_out (x ∷ xs) (suc n) h = waiting_out xs n (le_of_suc-le-suc h)

times_none : (t : Task) (o : List Task) (n : ℕ) → n ≤ t.0 → ((i : ℕ) → i < length o → (get_or o i (task_no 0)).0 < n) → times t o ≡ 0
unfolding times
times_none t [] n h f = refl
times_none t (u ∷ us) n h f =
    let z : u.0 < n = f zero (omega arith) in
    rw (ne_eqb t.0 u.0 (λ e. omega arith)) (omega (arith, times_none t us n h (λ i k. f (suc i) (omega arith))))

times_some : (o : List Task) (i : ℕ) → i < length o → 1 ≤ times (get_or o i (task_no 0)) o
unfolding times
times_some [] i h = absurd (not-suc-le-zero h)
times_some (u ∷ us) zero h = rw (eq-eqb u.0 u.0 refl) (omega arith)
times_some (u ∷ us) (suc i) h = omega (arith, times_some us i (le_of_suc-le-suc h))

-- AN OPERATION THAT CAN WAIT

module _ (rows : Rows) (laps : List ℕ) (i : ℕ) where
  can_wait_lem : (s : Statement) → can_wait s ≡ true → CanWait (image_statement rows laps i s)
  unfolding image_statement image_default
  can_wait_lem (Do o n) e = record { cases = _; only = refl }
  can_wait_lem (Close p n) e = absurd (clash e)
  can_wait_lem (Range p n a) e = record { cases = _; only = refl }
  can_wait_lem (Repeat d k n a) e = absurd (clash e)
  can_wait_lem (Ifok n a) e = absurd (clash e)
  can_wait_lem (Select k Wait) e = record { cases = _; only = refl }
  can_wait_lem (Select k (Go n)) e = absurd (clash e)
  can_wait_lem (Case o n) e = absurd (clash e)
  can_wait_lem Stop e = absurd (clash e)

  waits_can : (s : Statement) → CanWait (image_statement rows laps i s) → can_wait s ≡ true
  unfolding image_statement image_default image_repeat
  waits_can (Do o n) w = refl
  waits_can (Close p n) w = (let z = w.only in cc)
  waits_can (Range p n a) w = refl
  waits_can (Repeat d k n a) w = (let z = w.only in cc)
  waits_can (Ifok n a) w = (let z = w.only in cc)
  waits_can (Select k Wait) w = refl
  waits_can (Select k (Go n)) w = (let z = w.only in cc)
  waits_can (Case o n) w = (let z = w.only in cc)
  waits_can Stop w = (let z = w.only in cc)

-- THE CHANNELS

within_by : (caps : List ℕ) (ks : List ChanState) (b : Values) → ((c : ℕ) → c < length caps → (get_or ks c blank_chan).len ≤ get_or caps c 0)
    → All Within (channels_of caps ks b)
within_by [] ks b f = tt
within_by (n ∷ ns) [] b f = tt
within_by (n ∷ ns) (k ∷ ks) [] f = tt
within_by (n ∷ ns) (k ∷ ks) (r ∷ rs) f = (omega (arith, length-take k.len r, f zero (omega arith)), within_by ns ks rs (λ c h. f (suc c) (omega arith)))

-- BOTH WAYS

module _ (bs : List ℕ) (sound : Sound bs) (s : Records) (b : Values) (a : Arrays s b) where
  abbrev task_now : ℕ → TaskState
  task_now i = get_or s.tasks i blank_task

  abbrev seen_tasks : List (Standing Spot)
  seen_tasks = map standing_of (take s.taskcount s.tasks)

  seen-length : s.taskcount ≤ task_limit → length seen_tasks ≡ s.taskcount
  seen-length h = simp (length-map, length-take) (omega (arith, a.tasks16))

  seen_task : (i : ℕ) → i < s.taskcount → get_or seen_tasks i (standing_of blank_task) ≡ standing_of (task_now i)
  seen_task i h = get_d_map standing_of (take s.taskcount s.tasks) i blank_task ∙ ap standing_of (get_or-take s.taskcount s.tasks i blank_task h)

  abbrev rs : List ℕ
  rs = body_of bs

  abbrev at_row : TaskState → Statement
  at_row x = rows_in rs x.row

  place_is : (st : Status) (x : TaskState) → place_fits st (at_row x) ≡ true → PlaceOf st (image_look (rows_of bs) (standing_of x).point)
  unfolding image_look rows_of
  place_is Able x e = tt
  place_is Waiting x e = can_wait_lem (rows_in rs) x.laps x.row.0 (at_row x) e
  place_is Ended x e = tt

  is_place : (st : Status) (x : TaskState) → PlaceOf st (image_look (rows_of bs) (standing_of x).point) → place_fits st (at_row x) ≡ true
  unfolding image_look rows_of
  is_place Able x w = refl
  is_place Waiting x w = waits_can (rows_in rs) x.laps x.row.0 (at_row x) w
  is_place Ended x w = refl

  -- What the tests ask of task i, as facts.
  pub record TaskFit (i : ℕ) : Type 0 where
    pub row : Target rs (row_count bs) (task_now i).row
    pub once : times (task_no i) (order_of s) ≡ mark (task_now i).status
    pub place : PlaceOf (task_now i).status (image_look (rows_of bs) (standing_of (task_now i)).point)

  task_is : (i : ℕ) → i < task_limit → task_fits rs (counts_of bs) s i ≡ true → TaskFit i
  unfolding task_fits counts_of counts_in row_count
  task_is i h e =
      let small : i % task_limit ≡ i = mod-eq_of_lt h in
      let x = task_now i in
      let f = rw small at e in
      let p = both (is_target rs (row_count bs) x.row) _ f in
      let q = both (eqb (times (task_no i) (order_of s)) (mark x.status)) (place_fits x.status (at_row x)) p.1 in
      record { row = target_is rs (row_count bs) x.row p.0; once = eqb-true _ _ q.0; place = place_is x.status x q.1 }

  is_task : (i : ℕ) → i < task_limit → TaskFit i → task_fits rs (counts_of bs) s i ≡ true
  unfolding task_fits counts_of counts_in row_count
  is_task i h t =
      let small : i % task_limit ≡ i = mod-eq_of_lt h in
      let x = task_now i in
      let n = eqb (times (task_no i) (order_of s)) (mark x.status) in
      rw small
      (join (is_target rs (row_count bs) x.row) _ (is_target_lem rs (row_count bs) x.row t.row)
      (join n (place_fits x.status (at_row x)) (eq-eqb _ _ t.once) (is_place x.status x t.place)))

  -- The whole test, taken apart.
  pub record Tests : Type 0 where
    pub taskcount : s.taskcount ≡ task_count bs
    pub chancount : s.chancount ≡ channel_count bs
    pub fault : s.fault ≤ close_under_sender
    pub waiting : s.waiting ≤ task_limit
    pub names : (i : ℕ) → i < s.waiting → (get_or s.order i (task_no 0)).0 < task_count bs
    pub lengths : (c : ℕ) → c < channel_count bs → (get_or s.chans c blank_chan).len ≤ capacity_in rs (row_count bs) (chan_no c)
    pub tasks : (i : ℕ) → i < task_count bs → TaskFit i

  name_is : (i : ℕ) → i < task_limit → name_fits (counts_of bs) s i ≡ true → (get_or s.order i (task_no 0)).0 < task_count bs
  unfolding name_fits counts_of counts_in task_count
  name_is i h e =
      let small : i % task_limit ≡ i = mod-eq_of_lt h in
      ltb-true _ _ (rw small at e)

  is_name : (i : ℕ) → i < task_limit → (get_or s.order i (task_no 0)).0 < task_count bs → name_fits (counts_of bs) s i ≡ true
  unfolding name_fits counts_of counts_in task_count
  is_name i h l =
      let small : i % task_limit ≡ i = mod-eq_of_lt h in
      rw small (lt-ltb _ _ l)

  length_is : (c : ℕ) → c < channel_limit → length_fits rs (counts_of bs) s c ≡ true → (get_or s.chans c blank_chan).len ≤ capacity_in rs (row_count bs) (chan_no c)
  unfolding length_fits counts_of counts_in row_count
  length_is c h e =
      let small : c % channel_limit ≡ c = mod-eq_of_lt h in
      leb-true _ _ (rw small at e)

  is_length : (c : ℕ) → c < channel_limit → (get_or s.chans c blank_chan).len ≤ capacity_in rs (row_count bs) (chan_no c) → length_fits rs (counts_of bs) s c ≡ true
  unfolding length_fits counts_of counts_in row_count
  is_length c h l =
      let small : c % channel_limit ≡ c = mod-eq_of_lt h in
      rw small (le-leb _ _ l)

  tests_are : fitting rs (counts_of bs) s ≡ true → Tests
  unfolding fitting counts_of counts_in task_count channel_count
  tests_are e =
      let k = counts_of bs in
      let e1 = both (eqb s.taskcount k.tasks) _ e in
      let e2 = both (eqb s.chancount k.channels) _ e1.1 in
      let e3 = both (leb s.fault close_under_sender) _ e2.1 in
      let e4 = both (leb s.waiting task_limit) _ e3.1 in
      let e5 = both (every (name_fits k s) s.waiting 0) _ e4.1 in
      let e6 = both (every (length_fits rs k s) k.channels 0) (every (task_fits rs k s) k.tasks 0) e5.1 in
      let w : s.waiting ≤ task_limit = leb-true _ _ e4.0 in
      record {
        taskcount = eqb-true _ _ e1.0;
        chancount = eqb-true _ _ e2.0;
        fault = leb-true _ _ e3.0;
        waiting = w;
        names = λ i h. name_is i (omega arith) (passes (name_fits k s) s.waiting e5.0 i h);
        lengths = λ c h. length_is c (omega (arith, sound.most_channels)) (passes (length_fits rs k s) k.channels e6.0 c h);
        tasks = λ i h. task_is i (omega (arith, sound.most_tasks)) (passes (task_fits rs k s) k.tasks e6.1 i h);
      }

  are_tests : Tests → fitting rs (counts_of bs) s ≡ true
  unfolding fitting counts_of counts_in task_count channel_count
  are_tests t =
      let k = counts_of bs in
      join (eqb s.taskcount k.tasks) _ (eq-eqb _ _ t.taskcount)
      (join (eqb s.chancount k.channels) _ (eq-eqb _ _ t.chancount)
      (join (leb s.fault close_under_sender) _ (le-leb _ _ t.fault)
      (join (leb s.waiting task_limit) _ (le-leb _ _ t.waiting)
      (join (every (name_fits k s) s.waiting 0) _ (pass (name_fits k s) s.waiting (λ i h. is_name i (omega (arith, t.waiting)) (t.names i h)))
      (join (every (length_fits rs k s) k.channels 0) (every (task_fits rs k s) k.tasks 0)
      (pass (length_fits rs k s) k.channels (λ c h. is_length c (omega (arith, sound.most_channels)) (t.lengths c h)))
      (pass (task_fits rs k s) k.tasks (λ i h. is_task i (omega (arith, sound.most_tasks)) (t.tasks i h))))))))

  few : s.taskcount ≡ task_count bs → s.taskcount ≤ task_limit
  few e = omega (arith, e, sound.most_tasks)

  order_length : s.waiting ≤ task_limit → length (order_of s) ≡ s.waiting
  order_length h = simp length-take (omega (arith, a.order16))

  order_at : s.waiting ≤ task_limit → (i : ℕ) → i < s.waiting → get_or (order_of s) i (task_no 0) ≡ get_or s.order i (task_no 0)
  order_at h i k = get_or-take (s.waiting % suc task_limit) s.order i (task_no 0) (omega arith)

  marked : s.taskcount ≤ task_limit → (n : ℕ) → n < s.taskcount → waiting_at seen_tasks n ≡ mark (task_now n).status
  marked h n k = waiting_in seen_tasks (standing_of blank_task) n (omega (arith, seen-length h)) ∙ ap (λ x. mark x.status) (seen_task n k)

  -- What holds of every task's record holds of every one that the view shows, and the other way.
  module _ (Q : Standing Spot → Type 0) (most : s.taskcount ≤ task_limit) where
    all_seen : ((i : ℕ) → i < s.taskcount → Q (standing_of (task_now i))) → All Q seen_tasks
    all_seen f = all_by Q (standing_of blank_task) seen_tasks each
      where
        each : (i : ℕ) → i < length seen_tasks → Q (get_or seen_tasks i (standing_of blank_task))
        each i h =
            let k : i < s.taskcount = omega (arith, seen-length most) in
            subst Q (sym (seen_task i k)) (f i k)

    seen_all : All Q seen_tasks → (i : ℕ) → i < s.taskcount → Q (standing_of (task_now i))
    seen_all h i k = subst Q (seen_task i k) (by_all Q (standing_of blank_task) seen_tasks h i (omega (arith, seen-length most)))

  -- No task behind the image's is named, and whoever is named is one of the image's.
  unnamed : Tests → (u : Task) → s.taskcount ≤ u.0 → times u (order_of s) ≡ 0
  unnamed t u h = times_none u (order_of s) s.taskcount h below
    where
      below : (i : ℕ) → i < length (order_of s) → (get_or (order_of s) i (task_no 0)).0 < s.taskcount
      below i k =
          let j : i < s.waiting = omega (arith, order_length t.waiting) in
          subst (λ v. v.0 < s.taskcount) (sym (order_at t.waiting i j)) (omega (arith, t.taskcount, t.names i j))

  named : Fit bs s b → (i : ℕ) → i < s.waiting → (get_or s.order i (task_no 0)).0 < task_count bs
  unfolding view_in
  named f i h =
      let u : Task = get_or s.order i (task_no 0) in
      elim (dec_lt u.0 (task_count bs)) [
        | yes k ↦ k
        | no d ↦ absurd (
            let found = times_some (order_of s) i (omega (arith, order_length f.waiting)) in
            let some : 1 ≤ times u (order_of s) = subst (λ v. 1 ≤ times v (order_of s)) (order_at f.waiting i h) found in
            let none : waiting_at seen_tasks u.0 ≡ 0 = waiting_out seen_tasks u.0 (omega (arith, d, seen-length (few f.taskcount), f.taskcount)) in
            omega (arith, some, none, f.fits.ordered u)
            )
      ]

  fit_of : Tests → Fit bs s b
  unfolding view_in
  fit_of t =
      let n16 = few t.taskcount in
      let len = seen-length n16 in
      let n = capacity_count bs in
      record {
        taskcount = t.taskcount;
        chancount = t.chancount;
        waiting = t.waiting;
        lengths = t.lengths;
        rows = all_seen (λ x. OnRow bs x.point) n16 (λ i h. (t.tasks i (omega (arith, t.taskcount))).row);
        fits = record {
          ordered = λ u. elim (dec_lt u.0 s.taskcount) [
            | yes h ↦ (t.tasks u.0 (omega (arith, t.taskcount))).once ∙ sym (marked n16 u.0 h)
            | no d ↦ unnamed t u (omega (arith, d)) ∙ sym (waiting_out seen_tasks u.0 (omega (arith, d, len)))
          ];
          places = all_seen (Place (image_look (rows_of bs))) n16 (λ i h. (t.tasks i (omega (arith, t.taskcount))).place);
          within = within_by (capacities_of bs) s.chans b (λ c h. omega (arith, capacity_at bs c (omega (arith, n)), t.lengths c (omega (arith, n))));
          faults = t.fault;
        };
      }

  tests_of : Fit bs s b → Tests
  unfolding view_in
  tests_of f =
      let n16 = few f.taskcount in
      record {
        taskcount = f.taskcount;
        chancount = f.chancount;
        fault = f.fits.faults;
        waiting = f.waiting;
        names = named f;
        lengths = f.lengths;
        tasks = λ i h. record {
          row = seen_all (λ x. OnRow bs x.point) n16 f.rows i (omega (arith, f.taskcount));
          once = f.fits.ordered (task_no i) ∙ marked n16 i (omega (arith, f.taskcount));
          place = seen_all (Place (image_look (rows_of bs))) n16 f.fits.places i (omega (arith, f.taskcount));
        };
      }

  -- THE LAW
  pub fitting_fit : fitting rs (counts_of bs) s ≡ true → Fit bs s b
  fitting_fit e = fit_of (tests_are e)

  pub fit_fitting : Fit bs s b → fitting rs (counts_of bs) s ≡ true
  fit_fitting f = are_tests (tests_of f)
