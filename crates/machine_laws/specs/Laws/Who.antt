-- Who waits for what: the walk over the waiting tasks' records finds whom the meaning finds.
use Rattle.std.specs.Prelude.{◌≡◌, Bool, Option, Some, None, not, eqb, length, set, take}
use Rattle.std.proofs.Math.Path.{refl, sym, ap}
use Rattle.std.proofs.Common.{◌∙◌, mod-eq_of_lt, arith, eqb-true, eq-eqb, ne_eqb}
use Rattle.std.proofs.Math.Bool.{true, false, cond}
use Rattle.std.proofs.Math.Option.{none, some}
use Rattle.std.proofs.Math.Option as maybe
use mathlib.Core.List.{List, [], ◌∷◌, ◌++◌, map}
use Prim.Native.Nat.{ℕ, zero, suc, ◌+◌, ◌%◌, ◌≤◌, ◌<◌}
use Rattle.std.proofs.Math.Numerals.{add-one}
use Rattle.std.proofs.Math.ListN.{get_or}
use Rattle.machine_laws.specs.Kinds.{Task, Chan, Row, Op, Recv, Statement, Do, Close, Range, Repeat, Ifok, Select, Case, Stop, Able, TaskState, Side, Receiving, Offer, Waiter}
use Rattle.meaning.specs.Numbers.{task_limit}
use Rattle.meaning.specs.Machine as m
use Rattle.meaning.specs.Image.{Spot, spot, row_no, image_case, image_cases, image_repeat, image_statement, image_look}
use Rattle.meaning.specs.Bytes.{rows_in}
use Rattle.meaning_laws.specs.Lists.{All}
use Rattle.meaning_laws.specs.Fits.{one, times, waiting_at, Fits}
use Rattle.machine_records.specs.Cells.{cons_if, keep}
use Rattle.machine_records.specs.Records.{Records, blank_task, task_in, got_task}
use Rattle.machine_records.specs.Waiters as w
use Rattle.machine_records.specs.Plans.{idle, woken_by, woken_tasks}
use Rattle.machine_records.specs.View.{standing_of}
use Rattle.machine_laws.specs.Laws.Leaves.{standings_at, task_set}

-- OFFERS: the case by which a task would be woken

abbrev pub case_of : List ℕ → Op → Row → Row → m.Case Spot
case_of laps o hit miss = record { op = o; hit = spot laps hit; miss = spot laps miss }

abbrev offered : List ℕ → Option Offer → maybe.Option (m.Case Spot)
offered laps None = none
offered laps (Some g) = some (case_of laps g.op g.hit g.miss)

module _ (rs : List ℕ) (side : Side) (c : Chan) (laps : List ℕ) where
  first_of_lem : (o : Op) (h x : Row) (rest : List (m.Case Spot)) (r : Option Offer) → m.first_case (w.serves side c) rest ≡ offered laps r
      → m.first_case (w.serves side c) (case_of laps o h x ∷ rest) ≡ offered laps (w.or_else (w.serving side c (w.offers o h x)) r)
  unfolding m.first_case
  first_of_lem o h x rest r e = go (w.serves side c o)
    where
      go : (b : Bool) → cond b (some (case_of laps o h x)) (m.first_case (w.serves side c) rest) ≡ offered laps (w.or_else (cond b (w.offers o h x) None) r)
      go true = refl
      go false = e

  alone_offers : (o : Op) (h x : Row) → m.first_case (w.serves side c) (case_of laps o h x ∷ []) ≡ offered laps (w.serving side c (w.offers o h x))
  unfolding m.first_case
  alone_offers o h x = go (w.serves side c o)
    where
      go : (b : Bool) → cond b (some (case_of laps o h x)) none ≡ offered laps (cond b (w.offers o h x) None)
      go true = refl
      go false = refl

  case_offers : (st : Statement) (rest : List (m.Case Spot)) (r : Option Offer) → m.first_case (w.serves side c) rest ≡ offered laps r
      → m.first_case (w.serves side c) (image_case laps st ++ rest) ≡ offered laps (w.or_else (w.serving side c (w.case_offer st)) r)
  unfolding image_case
  case_offers (Do o n) rest r e = e
  case_offers (Close p n) rest r e = e
  case_offers (Range p n a) rest r e = e
  case_offers (Repeat d k n a) rest r e = e
  case_offers (Ifok n a) rest r e = e
  case_offers (Select k o) rest r e = e
  case_offers (Case o n) rest r e = first_of_lem o n n rest r e
  case_offers Stop rest r e = e

  cases_offer : (k i : ℕ) → m.first_case (w.serves side c) (image_cases (rows_in rs) laps k i) ≡ offered laps (w.first_case rs side c k i)
  unfolding image_cases m.first_case w.first_case
  cases_offer zero i = refl
  cases_offer (suc k) i = case_offers (rows_in rs (row_no i)) (image_cases (rows_in rs) laps k (suc i)) (w.first_case rs side c k (suc i)) (cases_offer k (suc i))

  statement_offers : (i : ℕ) (st : Statement)
      → m.first_case (w.serves side c) (m.cases_of (image_statement (rows_in rs) laps i st)) ≡ offered laps (w.matched_by rs side c i st)
  unfolding image_statement image_repeat m.cases_of m.first_case
  statement_offers i (Do o n) = alone_offers o n n
  statement_offers i (Close p n) = refl
  statement_offers i (Range p n a) = alone_offers (Recv p) n a
  statement_offers i (Repeat d k n a) = refl
  statement_offers i (Ifok n a) = refl
  statement_offers i (Select k e) = rw add-one (cases_offer k (suc i))
  statement_offers i (Case o n) = refl
  statement_offers i Stop = refl

look_offers : (rs : List ℕ) (side : Side) (c : Chan) (y : TaskState)
    → m.first_case (w.serves side c) (m.cases_of (image_look (rows_in rs) (spot y.laps y.row))) ≡ offered y.laps (w.matched_at rs side c y.row)
unfolding image_look w.matched_at
look_offers rs side c y = statement_offers rs side c y.laps y.row.0 (rows_in rs y.row)

-- THE WALK

abbrev waiter_of : Task → TaskState → Option Offer → List (m.Waiter Spot)
waiter_of t y None = []
waiter_of t y (Some g) = record { who = t; standing = standing_of y; by = case_of y.laps g.op g.hit g.miss } ∷ []

waiter_by_lem : (t : Task) (y : TaskState) (r : Option Offer) → m.waiter_by t (standing_of y) (offered y.laps r) ≡ waiter_of t y r
unfolding m.waiter_by
waiter_by_lem t y None = refl
waiter_by_lem t y (Some g) = refl

waiter_more : (t : Task) (y : TaskState) (r : Option Offer) (rest : List (m.Waiter Spot)) → length (waiter_of t y r ++ rest) ≡ w.one (w.is_offer r) + length rest
waiter_more t y None rest = omega arith
waiter_more t y (Some g) rest = omega arith

-- Whom the walk finds first is the meaning's first.
abbrev pub HeadIs : Records → Option Waiter → List (m.Waiter Spot) → Type 0
HeadIs s None [] = Unit {0}
HeadIs s None (v ∷ vs) = ⊥
HeadIs s (Some f) [] = ⊥
HeadIs s (Some f) (v ∷ vs) = v ≡ record { who = f.task; standing = standing_of (task_in s.tasks f.task); by = case_of (task_in s.tasks f.task).laps f.offer.op f.offer.hit f.offer.miss }

-- What holds of every task of a list holds of the one found there.
abbrev pub FoundHas : (Task → Type 0) → Option Waiter → Type 0
FoundHas Q None = Unit {0}
FoundHas Q (Some f) = Q f.task

pub found_has : (Q : Task → Type 0) (f : Task → Option Offer) (ts : List Task) → All Q ts → FoundHas Q (w.first_of f ts)
found_has Q f [] h = tt
found_has Q f (t ∷ ts) h = go (f t) (found_has Q f ts h.1)
  where
    go : (r : Option Offer) → FoundHas Q (w.first_of f ts) → FoundHas Q (w.found_by t r (w.first_of f ts))
    go None e = e
    go (Some g) e = h.0

-- Every one is a task's number.
abbrev pub Named : Records → List Task → Type 0
Named s ts = All (λ t. t.0 < s.taskcount) ts

module _ (rs : List ℕ) (s : Records) (side : Side) (c : Chan) where
  -- Whom the walk over ts finds, all of them.
  abbrev pub walked : List Task → List (m.Waiter Spot)
  walked [] = []
  walked (t ∷ ts) = waiter_of t (task_in s.tasks t) (w.waits_at rs s side c t) ++ walked ts

  pub count_is : (ts : List Task) → length (walked ts) ≡ w.count_of (w.waits_at rs s side c) ts
  count_is [] = refl
  count_is (t ∷ ts) =
      let g = w.waits_at rs s side c t in
      waiter_more t (task_in s.tasks t) g (walked ts) ∙ ap (w.one (w.is_offer g) +◌) (count_is ts)

  pub head_is : (ts : List Task) → HeadIs s (w.first_of (w.waits_at rs s side c) ts) (walked ts)
  head_is [] = tt
  head_is (t ∷ ts) = go (w.waits_at rs s side c t) (head_is ts)
    where
      go : (r : Option Offer) → HeadIs s (w.first_of (w.waits_at rs s side c) ts) (walked ts)
          → HeadIs s (w.found_by t r (w.first_of (w.waits_at rs s side c) ts)) (waiter_of t (task_in s.tasks t) r ++ walked ts)
      go None e = e
      go (Some g) e = refl

  pub waiters_are : s.taskcount ≤ task_limit → length s.tasks ≡ task_limit → (ts : List Task) → Named s ts
      → m.waiters_in (image_look (rows_in rs)) (w.serves side c) (map standing_of (take s.taskcount s.tasks)) ts ≡ walked ts
  unfolding m.waiters_in m.waiter_at
  waiters_are few full [] h = refl
  waiters_are few full (t ∷ ts) h =
      let n : t.0 < s.taskcount = h.0 in
      let x : TaskState = task_in s.tasks t in
      let e : get_or s.tasks t.0 blank_task ≡ x = ap (λ j. get_or s.tasks j blank_task) (sym (mod-eq_of_lt (omega arith))) in
      let stands = standings_at s.taskcount s.tasks t.0 n (omega arith) in
      rw (stands, e, look_offers rs side c x, waiter_by_lem t x (w.waits_at rs s side c t), waiters_are few full ts h.1)

-- THE ORDER'S NAMES: each is a waiting task's

pub waiting_below : (l : List (m.Standing Spot)) (n : ℕ) → 0 < waiting_at l n → n < length l
unfolding waiting_at
waiting_below [] n h = absurd (omega arith)
waiting_below (x ∷ xs) zero h = omega arith
waiting_below (x ∷ xs) (suc n) h = omega (arith, waiting_below xs n h)

-- What holds of every waiting task holds of every name.
module _ (look : Spot → m.Look Spot) (z : m.Machine Spot) (f : Fits look z) (Q : Task → Type 0)
    (waits : (t : Task) → 0 < waiting_at z.tasks t.0 → Q t) where
  names_have : (o : List Task) → ((t : Task) → times t o ≤ times t z.order) → All Q o
  unfolding times
  names_have [] h = tt
  names_have (t ∷ ts) h =
      let self : one (eqb t.0 t.0) ≡ 1 = ap one (eq-eqb t.0 t.0 refl) in
      (waits t (omega (arith, h t, f.ordered t, self)), names_have ts (λ u. omega (arith, h u)))

  pub order_has : All Q z.order
  order_has = names_have z.order (λ t. omega arith)

-- CLOSE WAKES ALL. The meaning takes the woken tasks out of the order one by one, the records filter it once: the same, for
-- each time every place of a task is taken out.

same_task : (t u : Task) → eqb t.0 u.0 ≡ true → t ≡ u
same_task t u e = ap (λ n. record { 0 = n }) (eqb-true t.0 u.0 e)

without_both : (t u : Task) (o : List Task) → m.without t (m.without u o) ≡ m.without u (m.without t o)
unfolding m.without
without_both t u [] = refl
without_both t u (v ∷ vs) = go (eqb t.0 v.0) (eqb u.0 v.0) refl refl (without_both t u vs)
  where
    go : (a b : Bool) → eqb t.0 v.0 ≡ a → eqb u.0 v.0 ≡ b → m.without t (m.without u vs) ≡ m.without u (m.without t vs)
        → m.without t (cond b (m.without u vs) (v ∷ m.without u vs)) ≡ m.without u (cond a (m.without t vs) (v ∷ m.without t vs))
    go true true p q e = e
    go true false p q e = rw p e
    go false true p q e = rw q e
    go false false p q e = rw (p, q) (ap (λ l. v ∷ l) e)

abbrev drop_if : Bool → Task → List Task → List Task
drop_if true t o = o
drop_if false t o = m.without t o

module _ (p : Task → Bool) where
  -- The order o without the tasks of ts that p is false of, one by one.
  abbrev drops : List Task → List Task → List Task
  drops [] o = o
  drops (t ∷ ts) o = drops ts (drop_if (p t) t o)

  apart : (t u : Task) → p t ≡ false → p u ≡ true → eqb t.0 u.0 ≡ false
  apart t u e h = ne_eqb t.0 u.0 never
    where
      never : t.0 ≡ u.0 → ⊥
      never q =
          let z : false ≡ true = sym e ∙ ap p (same_task t u (eq-eqb t.0 u.0 q)) ∙ h in
          let y : ◌≡◌ {A = ℕ} 0 1 = cc in
          omega (arith, y)

  without_keep : (t : Task) → p t ≡ false → (o : List Task) → m.without t (keep p o) ≡ keep p o
  unfolding m.without
  without_keep t e [] = refl
  without_keep t e (u ∷ us) = go (p u) refl (without_keep t e us)
    where
      go : (b : Bool) → p u ≡ b → m.without t (keep p us) ≡ keep p us → m.without t (cons_if b u (keep p us)) ≡ cons_if b u (keep p us)
      go true h i = rw (apart t u e h) (ap (λ l. u ∷ l) i)
      go false h i = i

  drops_past : (t : Task) → p t ≡ true → (ts o : List Task) → drops ts (t ∷ o) ≡ t ∷ drops ts o
  unfolding m.without
  drops_past t e [] o = refl
  drops_past t e (u ∷ us) o = go (p u) refl (drops_past t e us)
    where
      go : (b : Bool) → p u ≡ b → ((o : List Task) → drops us (t ∷ o) ≡ t ∷ drops us o) → drops us (drop_if b u (t ∷ o)) ≡ t ∷ drops us (drop_if b u o)
      go true h i = i o
      go false h i = rw (apart u t h e) (i (m.without u o))

  drops_without : (t : Task) (ts o : List Task) → drops ts (m.without t o) ≡ m.without t (drops ts o)
  drops_without t [] o = refl
  drops_without t (u ∷ us) o = go (p u) (drops_without t us)
    where
      go : (b : Bool) → ((o : List Task) → drops us (m.without t o) ≡ m.without t (drops us o))
          → drops us (drop_if b u (m.without t o)) ≡ m.without t (drops us (drop_if b u o))
      go true i = i o
      go false i = ap (drops us) (without_both u t o) ∙ i (m.without u o)

  drops_all : (ts : List Task) → drops ts ts ≡ keep p ts
  unfolding m.without
  drops_all [] = refl
  drops_all (t ∷ ts) = go (p t) refl (drops_all ts)
    where
      go : (b : Bool) → p t ≡ b → drops ts ts ≡ keep p ts → drops ts (drop_if b t (t ∷ ts)) ≡ cons_if b t (keep p ts)
      go true h i = drops_past t h ts ts ∙ ap (λ l. t ∷ l) i
      go false h i = rw (eq-eqb t.0 t.0 refl) (drops_without t ts ts ∙ ap (m.without t) i ∙ without_keep t h ts)

-- The laps of every task are what they are in the list ys.
abbrev LapsAs : List TaskState → List TaskState → Type 0
LapsAs ys xs = (t : Task) → (task_in xs t).laps ≡ (task_in ys t).laps

-- A record stored with the laps that were there.
pub laps_kept : (xs : List TaskState) (t : Task) (y : TaskState) → y.laps ≡ (task_in xs t).laps → LapsAs xs (set xs (t.0 % task_limit) y)
laps_kept xs t y e u = at xs (t.0 % task_limit) (u.0 % task_limit) e
  where
    at : (xs : List TaskState) (i j : ℕ) → y.laps ≡ (get_or xs i blank_task).laps → (get_or (set xs i y) j blank_task).laps ≡ (get_or xs j blank_task).laps
    at [] i j e = refl
    at (x ∷ xs) zero zero e = e
    at (x ∷ xs) zero (suc j) e = refl
    at (x ∷ xs) (suc i) zero e = refl
    at (x ∷ xs) (suc i) (suc j) e = at xs i j e

module _ (rs : List ℕ) (s : Records) (few : s.taskcount ≤ task_limit) (c : Chan)
    (cs : List m.Channel) (fault : ℕ) (named : Task) (stamp : ℕ) where
  abbrev seen_as : List TaskState → List Task → m.Machine Spot
  seen_as xs o = record { tasks = map standing_of (take s.taskcount xs); order = o; channels = cs; fault = fault; named = named; stamp = stamp }

  abbrev wakers : List Task → List (m.Waiter Spot)
  wakers ts = walked rs s Receiving c ts

  abbrev awake : List Task → List TaskState → List TaskState
  awake ts xs = woken_tasks rs s c ts xs

  abbrev sleeps : Task → Bool
  sleeps = idle rs s c

  -- What is to be shown of the tasks ts.
  abbrev Woken : List Task → Type 0
  Woken ts = (xs : List TaskState) (o : List Task) → LapsAs s.tasks xs → m.wake_all (wakers ts) (seen_as xs o) ≡ seen_as (awake ts xs) (drops sleeps ts o)

  wake_each : (ts : List Task) → Named s ts → Woken ts
  unfolding m.wake_all woken_tasks
  wake_each [] h xs o l = refl
  wake_each (t ∷ ts) h xs o l = go (w.waits_at rs s Receiving c t) (omega (arith, h.0)) (wake_each ts h.1)
    where
      go : (r : Option Offer) → t.0 < task_limit → Woken ts
          → m.wake_all (waiter_of t (task_in s.tasks t) r ++ wakers ts) (seen_as xs o)
          ≡ seen_as (awake ts (woken_by rs s c t r xs)) (drops sleeps ts (drop_if (not (w.is_offer r)) t o))
      go None n i = i xs o l
      go (Some g) n i =
          let y : TaskState = got_task (task_in xs t) 0 false g.miss in
          let got : List ℕ → TaskState = λ k. record { status = Able; ok = false; register = 0; row = g.miss; laps = k } in
          let same : standing_of (got (task_in s.tasks t).laps) ≡ standing_of y = ap (λ k. standing_of (got k)) (sym (l t)) in
          ap (λ k. m.wake_all (wakers ts) (record { tasks = k; order = m.without t o; channels = cs; fault = fault; named = named; stamp = stamp }))
          (ap (set (map standing_of (take s.taskcount xs)) t.0) same ∙ sym (task_set s.taskcount xs t y n))
          ∙ i (set xs (t.0 % task_limit) y) (m.without t o) (λ u. laps_kept xs t y refl u ∙ l u)

  pub wake_all_lem : (ts : List Task) → Named s ts → (xs : List TaskState) → LapsAs s.tasks xs
      → m.wake_all (wakers ts) (seen_as xs ts) ≡ seen_as (awake ts xs) (keep sleeps ts)
  wake_all_lem ts h xs l = wake_each ts h xs ts l ∙ ap (seen_as (awake ts xs)) (drops_all sleeps ts)
