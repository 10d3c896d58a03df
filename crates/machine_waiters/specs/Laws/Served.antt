-- Two bytes of a row tell what its statement offers.
use Rattle.std.specs.Prelude.{◌≡◌, Bool, true, false, Option, Some, None, List, [], ◌∷◌, eqb, length, get_or, take, drop}
use Rattle.std.proofs.Math.Path.{refl, ap}
use Rattle.std.proofs.Common.{sym, ◌∙◌, mod-lt, add-one, length-take, drop_of_length-le, drop-cons, get_or-take}
use Rattle.std.proofs.Math.Bool.{cond}
use Prim.Native.Nat.{ℕ, zero, suc, ◌+◌, ◌-◌, ◌%◌, ◌<◌, ◌≤◌}
use native.Mathlib.Omega.{arith}
use borrow.Author.Tests.{ne_eqb}
use Rattle.machine_waiters.specs.Kinds.{Task, Chan, Row, Op, Send, Forward, Recv, Side, Receiving, Sending, Offer, Waiter, Head}
use Rattle.meaning.specs.declared.Fields.{Fields}
use Rattle.meaning.specs.Laws.Ops.{beyond, by_op}
use Rattle.meaning.specs.Machine.{is_on, receives_on, sends_on}
use Rattle.meaning.specs.Image.{row_no, task_no}
use Rattle.meaning.specs.Bytes.{fields, port_of, statement_of, fields_of_row, rows_in}
use Rattle.machine_records.specs.Records.{Records, task_in, order_of}
use Rattle.machine_records.specs.Waiters.{offers, case_offer, serving, or_else, first_case, matched_by, matched_at, found_by, first_of, waits_at}
use Rattle.machine_waiters.specs.Served.{head_of, op_serves, case_serves, first_serving, served_at, row_offer, served_offer}

-- A way taken by a test p of a head h that was read as g.
pub taken_by : {A : Type 0} (f : Head → Bool) (h g : Head) (p : Bool) (x y : A) → h ≡ g → p ≡ f h → p ≡ true → cond (f g) x y ≡ x
taken_by f h g p x y e q r = ap (λ b. cond b x y) (ap f (sym e) ∙ sym q ∙ r)

pub left_by : {A : Type 0} (f : Head → Bool) (h g : Head) (p : Bool) (x y : A) → h ≡ g → p ≡ f h → p ≡ false → cond (f g) x y ≡ y
left_by f h g p x y e q r = ap (λ b. cond b x y) (ap f (sym e) ∙ sym q ∙ r)

same_both : {A : Type 0} (b : Bool) (x : A) → cond b x x ≡ x
same_both true x = refl
same_both false x = refl

or_here : (b : Bool) (o : Op) (h m : Row) (x : Option Offer) → cond b (offers o h m) x ≡ or_else (cond b (offers o h m) None) x
or_here true o h m x = refl
or_here false o h m x = refl

module _ (rs : List ℕ) (c : Chan) (ch arg next other : ℕ) where
  abbrev named : Bool
  named = is_on c (port_of ch)

  -- A CASE ROW, ahead of what the rows behind it offer
  case_lap : (side : Side) (x : Option Offer) (op : ℕ)
      → cond (is_on c (port_of ch)) (cond (case_serves side op) (row_offer (statement_of (fields op ch arg next other))) x) x ≡ or_else (serving side c (case_offer (statement_of (fields op ch arg next other)))) x
  unfolding statement_of receives_on sends_on
  case_lap Receiving x =
      by_op (λ op. cond (is_on c (port_of ch)) (cond (case_serves Receiving op) (row_offer (statement_of (fields op ch arg next other))) x) x ≡ or_else (serving Receiving c (case_offer (statement_of (fields op ch arg next other)))) x)
      (same_both named x) (same_both named x) (same_both named x) (same_both named x) (same_both named x) (same_both named x) (same_both named x) (same_both named x) (same_both named x)
      (same_both named x) (same_both named x) (or_here named _ _ _ x) (same_both named x) (λ n. rw (ne_eqb (beyond n) 11 (λ e. omega arith)) (same_both named x))
  case_lap Sending x =
      by_op (λ op. cond (is_on c (port_of ch)) (cond (case_serves Sending op) (row_offer (statement_of (fields op ch arg next other))) x) x ≡ or_else (serving Sending c (case_offer (statement_of (fields op ch arg next other)))) x)
      (same_both named x) (same_both named x) (same_both named x) (same_both named x) (same_both named x) (same_both named x) (same_both named x) (same_both named x) (same_both named x)
      (or_here named _ _ _ x) (or_here named _ _ _ x) (same_both named x) (same_both named x) (λ n. rw (ne_eqb (beyond n) 9 (λ e. omega arith), ne_eqb (beyond n) 10 (λ e. omega arith)) (same_both named x))

  -- ANY ROW: n is its number, and q what the cases behind it offer.
  abbrev asked : ℕ → Side → Option Offer → ℕ → Option Offer
  asked n side q op = cond (eqb op 8) q (cond (is_on c (port_of ch)) (cond (op_serves side op) (row_offer (statement_of (fields op ch arg next other))) None) None)

  row_asked_lem : (n : ℕ) (side : Side) (op : ℕ) → asked n side (first_case rs side c ch (n + 1)) op ≡ matched_by rs side c n (statement_of (fields op ch arg next other))
  unfolding statement_of receives_on sends_on
  row_asked_lem n Receiving =
      by_op (λ op. asked n Receiving (first_case rs Receiving c ch (n + 1)) op ≡ matched_by rs Receiving c n (statement_of (fields op ch arg next other)))
      none none none refl none refl none none refl none none none none (λ n. rw (ne_eqb (beyond n) 8 (λ e. omega arith), same_both {A = Option Offer} (op_serves Receiving (beyond n)) None) none)
    where
      none : ◌≡◌ {A = Option Offer} (cond named None None) None
      none = same_both named None
  row_asked_lem n Sending =
      by_op (λ op. asked n Sending (first_case rs Sending c ch (n + 1)) op ≡ matched_by rs Sending c n (statement_of (fields op ch arg next other)))
      none refl refl none none none none none refl none none none none (λ n. rw (ne_eqb (beyond n) 8 (λ e. omega arith), same_both {A = Option Offer} (op_serves Sending (beyond n)) None) none)
    where
      none : ◌≡◌ {A = Option Offer} (cond named None None) None
      none = same_both named None

module _ (rs : List ℕ) (side : Side) (c : Chan) where
  push : (a b : Bool) (i : ℕ) (r q : Option ℕ) → served_offer rs (cond a (cond b (Some i) r) q) ≡ cond a (cond b (row_offer (rows_in rs (row_no i))) (served_offer rs r)) (served_offer rs q)
  push true true i r q = refl
  push true false i r q = refl
  push false b i r q = refl

  cases_served : (k i : ℕ) → served_offer rs (first_serving rs side c k i) ≡ first_case rs side c k i
  unfolding first_serving first_case rows_in
  cases_served zero i = refl
  cases_served (suc k) i =
      let f = fields_of_row rs (row_no i) in
      push (is_on c (port_of f.chan)) (case_serves side f.op) i (first_serving rs side c k (suc i)) (first_serving rs side c k (suc i))
      ∙ ap (λ x. cond (is_on c (port_of f.chan)) (cond (case_serves side f.op) (row_offer (statement_of f)) x) x) (cases_served k (suc i))
      ∙ case_lap rs c f.chan f.arg f.next f.other side (first_case rs side c k (suc i)) f.op

  -- One lap of the walk over k case rows from row `first` on.
  pub serving_lap : (k i first : ℕ) → i < k
      → first_serving rs side c (k - i) (first + i) ≡ cond (is_on c (port_of (head_of rs (first + i)).chan)) (cond (case_serves side (head_of rs (first + i)).op) (Some (first + i)) (first_serving rs side c (k - (i + 1)) (first + (i + 1)))) (first_serving rs side c (k - (i + 1)) (first + (i + 1)))
  unfolding first_serving
  serving_lap k i first h =
      let e : k - i ≡ suc (k - (i + 1)) = omega arith in
      let z : first + (i + 1) ≡ suc (first + i) = omega arith in
      rw (e, z)

  pub serving_end : (k i first : ℕ) → k ≤ i → first_serving rs side c (k - i) (first + i) ≡ None
  unfolding first_serving
  serving_end k i first h =
      let e : k - i ≡ 0 = omega arith in
      rw e

  select_or : (a : Bool) (x y : Option ℕ) → served_offer rs (cond a x y) ≡ cond a (served_offer rs x) (served_offer rs y)
  select_or true x y = refl
  select_or false x y = refl

  -- What a row is served by offers what the row's statement is matched by.
  pub served_matched : (row : Row) → served_offer rs (served_at rs side c row) ≡ matched_at rs side c row
  unfolding served_at matched_at rows_in
  served_matched row =
      let n = row.0 in
      let f = fields_of_row rs row in
      select_or (eqb f.op 8) (first_serving rs side c f.chan (n + 1)) (cond (is_on c (port_of f.chan)) (cond (op_serves side f.op) (Some n) None) None)
      ∙ ap (λ x. cond (eqb f.op 8) x (served_offer rs (cond (is_on c (port_of f.chan)) (cond (op_serves side f.op) (Some n) None) None))) (cases_served f.chan (n + 1))
      ∙ ap (λ x. cond (eqb f.op 8) (first_case rs side c f.chan (n + 1)) x) (push (is_on c (port_of f.chan)) (op_serves side f.op) n None None)
      ∙ row_asked_lem rs c f.chan f.arg f.next f.other n side f.op

-- WHAT A ROW OFFERS, by its op

abbrev offer_by : Fields → ℕ → Option Offer
offer_by f op =
    let p = port_of f.chan in
    let next = row_no f.next in
    let send = offers (Send p f.arg) next next in
    let forward = offers (Forward p) next next in
    let recv = offers (Recv p) next next in
    get_or (None ∷ send ∷ forward ∷ recv ∷ None ∷ offers (Recv p) next (row_no f.other) ∷ None ∷ None ∷ None ∷ send ∷ forward ∷ recv ∷ None ∷ []) op None

module _ (rs : List ℕ) (n : ℕ) (f : Fields) (ef : f ≡ fields_of_row rs (row_no n)) where
  offer_is : offer_by f f.op ≡ row_offer (rows_in rs (row_no n))
  unfolding rows_in statement_of
  offer_is =
      by_op (λ op. offer_by f op ≡ row_offer (statement_of (fields op f.chan f.arg f.next f.other)))
      refl refl refl refl refl refl refl refl refl refl refl refl refl (λ k. refl) f.op
      ∙ ap (λ (g : Fields). row_offer (statement_of g)) ef

  pub offer_at : (op : ℕ) → f.op ≡ op → offer_by f op ≡ row_offer (rows_in rs (row_no n))
  offer_at op e = ap (offer_by f) (sym e) ∙ offer_is

  pub offer_none : (f.op ≡ 1 → ⊥) → (f.op ≡ 2 → ⊥) → (f.op ≡ 3 → ⊥) → (f.op ≡ 5 → ⊥) → (f.op ≡ 9 → ⊥) → (f.op ≡ 10 → ⊥) → (f.op ≡ 11 → ⊥) → None ≡ row_offer (rows_in rs (row_no n))
  offer_none a b c d x y z = by_op Q (λ i j k l u v w. refl) (λ i j k l u v w. absurd (i refl)) (λ i j k l u v w. absurd (j refl)) (λ i j k l u v w. absurd (k refl)) (λ i j k l u v w. refl)
      (λ i j k l u v w. absurd (l refl)) (λ i j k l u v w. refl) (λ i j k l u v w. refl) (λ i j k l u v w. refl) (λ i j k l u v w. absurd (u refl)) (λ i j k l u v w. absurd (v refl))
      (λ i j k l u v w. absurd (w refl)) (λ i j k l u v w. refl) (λ m i j k l u v w. refl) f.op a b c d x y z ∙ offer_is
    where
      Q : ℕ → Type 0
      Q m = (m ≡ 1 → ⊥) → (m ≡ 2 → ⊥) → (m ≡ 3 → ⊥) → (m ≡ 5 → ⊥) → (m ≡ 9 → ⊥) → (m ≡ 10 → ⊥) → (m ≡ 11 → ⊥) → None ≡ offer_by f m

-- THE WALK OVER THE ORDER: the task t at place i, which stands at a row, and what serves it there

module _ (rs : List ℕ) (s : Records) (side : Side) (c : Chan) (l16 : length s.order ≡ 16) where
  abbrev from : ℕ → Option Waiter
  from i = first_of (waits_at rs s side c) (drop i (order_of s))

  lap : (i : ℕ) (t : Task) → i < s.waiting % 17 → t ≡ get_or s.order (i % 16) (task_no 0) → from i ≡ found_by t (waits_at rs s side c t) (from (i + 1))
  lap i t h e =
      let b : s.waiting % 17 < 17 = mod-lt s.waiting {m = 17} (omega arith) in
      let m : i < length (take (s.waiting % 17) s.order) = simp length-take (omega arith) in
      let z : i % 16 ≡ i = omega arith in
      rw (drop-cons (take (s.waiting % 17) s.order) i (task_no 0) m, get_or-take (s.waiting % 17) s.order i (task_no 0) h, add-one, e, z)

  -- One lap: the task t stands at place i, at a row that is matched by g.
  module _ (i : ℕ) (t : Task) (row : Row) (g : Option Offer) (h : i < s.waiting % 17) (et : t ≡ get_or s.order (i % 16) (task_no 0)) (er : row ≡ (task_in s.tasks t).row) (eg : g ≡ matched_at rs side c row) where
    walk : from i ≡ found_by t g (from (i + 1))
    walk = lap i t h et ∙ ap (λ x. found_by t x (from (i + 1))) (ap (matched_at rs side c) (sym er) ∙ sym eg)

    pub walk_past : g ≡ None → from i ≡ from (i + 1)
    walk_past e = walk ∙ ap (λ x. found_by t x (from (i + 1))) e

    pub walk_hit : (f : Offer) → g ≡ Some f → from i ≡ Some (record { task = t; offer = f })
    walk_hit f e = walk ∙ ap (λ x. found_by t x (from (i + 1))) e

  waits_here : (t : Task) (row : Row) (f : Option ℕ) → row ≡ (task_in s.tasks t).row → f ≡ served_at rs side c row → waits_at rs s side c t ≡ served_offer rs f
  waits_here t row f er ef = ap (matched_at rs side c) (sym er) ∙ sym (served_matched rs side c row) ∙ ap (served_offer rs) (sym ef)

  -- The same lap by the row f that serves the task's row: there is none; there is one, and it offers o; it offers nothing.
  module _ (i : ℕ) (t : Task) (row : Row) (f : Option ℕ) (h : i < s.waiting % 17) (et : t ≡ get_or s.order (i % 16) (task_no 0)) (er : row ≡ (task_in s.tasks t).row) (ef : f ≡ served_at rs side c row) where
    walk_served : (g : Option Offer) → served_offer rs f ≡ g → from i ≡ found_by t g (from (i + 1))
    walk_served g e = lap i t h et ∙ ap (λ x. found_by t x (from (i + 1))) (waits_here t row f er ef ∙ e)

    pub walk_unserved : f ≡ None → from i ≡ from (i + 1)
    walk_unserved e = walk_served None (ap (served_offer rs) e)

    module _ (n : ℕ) (e : f ≡ Some n) (g : Option Offer) (eg : g ≡ row_offer (rows_in rs (row_no n))) where
      pub walk_offered : (o : Offer) → g ≡ Some o → from i ≡ Some (record { task = t; offer = o })
      walk_offered o z = walk_served (Some o) (ap (served_offer rs) e ∙ sym eg ∙ z)

      pub walk_miss : g ≡ None → from i ≡ from (i + 1)
      walk_miss z = walk_served None (ap (served_offer rs) e ∙ sym eg ∙ z)

  pub walked : (i : ℕ) → s.waiting % 17 ≤ i → from i ≡ None
  walked i h = rw (drop_of_length-le (take (s.waiting % 17) s.order) {i = i} (simp length-take (omega arith)))
