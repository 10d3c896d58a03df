-- An image that passes the check is sound: from the tests to the facts.
use Rattle.std.specs.Prelude.{◌≡◌, refl, Bool, true, false, cond, not, ◌&&◌, List, eqb, leb, ltb, length, Option, Some, None, Result, Ok, Err, ⊤}
use Rattle.std.proofs.Math.Path.{sym}
use Rattle.std.proofs.Common.{ap, ◌∙◌, add-zero, zero-add, arith, length-drop}
use Prim.Native.Nat.{ℕ, zero, suc, ◌+◌, ◌-◌, ◌≤◌, ◌<◌}
use borrow.Author.Tests.{ltb-true, ltb-false, leb-true, eqb-true, lt-ltb, lt-leb, not-true, not-false}
use Rattle.image_check.specs.Kinds.{Row, Port, Nil, On, Op, Send, Forward, Recv, Otherwise, Wait, Go, Statement, Do, Close, Range, Repeat, Ifok, Select, Case, Stop, Fields, Counts, ImageFault, TooShort, BadMark, BadVersion, BadCounts, BadDistance, BadRow, BadCapacity, BadFirstRow}
use Rattle.meaning.specs.Numbers.{row_limit, channel_limit, task_limit, capacity_limit, case_limit, lap_limit, depth_limit}
use Rattle.meaning.specs.Image.{row_no, chan_no, task_no}
use Rattle.meaning.specs.Bytes.{fields, statement_of, trailer_size, image_mark, image_version, mark_of, version_of, span_of, row_count, channel_count, task_count, distance, body_of, fields_of_row, rows_in, capacity_in, first_row_in}
use Rattle.meaning.specs.Laws.Tests.{both}
use Rattle.meaning.specs.Laws.Ops.{beyond, by_op}
use Rattle.image_rows.specs.Rows.{counts_in, counts_of}
use Rattle.image_row.specs.Row.{is_case_op, in_table, is_case_row, is_target, port_good, op_good, otherwise_good, cases_follow, statement_good, row_good}
use Rattle.image_check.specs.Check.{owed_at, row_bad, capacity_bad, first_row_bad, first_of, refused_at, body_checked, counts_good, checked}
use Rattle.image_check.specs.Sound.{is_case, PortSound, OpSound, Target, OtherwiseSound, Followed, StatementSound, Sound}

and_false_at : (a b : Bool) → b ≡ false → (a && b) ≡ false
and_false_at true b e = e
and_false_at false b e = refl

past : (n : ℕ) → 11 < n → is_case_op n ≡ false
past n h = and_false_at (leb 9 n) (leb n 11) (lt-leb n 11 h)

-- The ops of case rows are those that read as cases.
case_is : (f : Fields) → is_case_op f.op ≡ is_case (statement_of f)
unfolding statement_of
case_is f =
    by_op (λ n. is_case_op n ≡ is_case (statement_of (fields n f.chan f.arg f.next f.other))) refl refl refl refl refl refl refl refl refl refl refl refl refl
    (λ n. past (beyond n) (omega arith)) f.op

module _ (rs : List ℕ) where
  pub case_row : (r : Row) → is_case_row rs r ≡ is_case (rows_in rs r)
  unfolding is_case_row rows_in
  case_row r = case_is (fields_of_row rs r)

  module _ (rows : ℕ) where
    pub target_is : (r : Row) → is_target rs rows r ≡ true → Target rs rows r
    unfolding is_target
    target_is r e =
        let h = both (ltb r.0 rows) (not (is_case_row rs r)) e in
        record { below = ltb-true _ _ h.0; plain = sym (case_row r) ∙ not-true _ h.1 }

    pub is_target_lem : (r : Row) → Target rs rows r → is_target rs rows r ≡ true
    unfolding is_target
    is_target_lem r t = rw (lt-ltb _ _ t.below, case_row r, t.plain)

    otherwise_is : (e : Otherwise) → otherwise_good rs rows e ≡ true → OtherwiseSound rs rows e
    unfolding otherwise_good
    otherwise_is Wait h = tt
    otherwise_is (Go n) h = target_is n h

    followed_is : (k i : ℕ) → cases_follow rs rows k i ≡ true → Followed rs rows k i
    unfolding cases_follow
    followed_is zero i e = tt
    followed_is (suc k) i e =
        let h = both (ltb i rows) (is_case_row rs (row_no i) && cases_follow rs rows k (suc i)) e in
        let g = both (is_case_row rs (row_no i)) (cases_follow rs rows k (suc i)) h.1 in
        (ltb-true _ _ h.0, sym (case_row (row_no i)) ∙ g.0, followed_is k (suc i) g.1)

    module _ (channels : ℕ) where
      port_is : (p : Port) → port_good channels p ≡ true → PortSound channels p
      unfolding port_good
      port_is Nil e = tt
      port_is (On c) e = ltb-true _ _ e

      op_is : (o : Op) → op_good channels o ≡ true → OpSound channels o
      unfolding op_good
      op_is (Send p v) e = port_is p e
      op_is (Forward p) e = port_is p e
      op_is (Recv p) e = port_is p e

      targets_are : (n a : Row) → (is_target rs rows n && is_target rs rows a) ≡ true → Target rs rows n × Target rs rows a
      targets_are n a e =
          let h = both (is_target rs rows n) (is_target rs rows a) e in
          (target_is n h.0, target_is a h.1)

      statement_is : (i owed : ℕ) (s : Statement) → statement_good rs rows channels i owed s ≡ true → StatementSound rs rows channels i s
      unfolding statement_good
      statement_is i owed (Do o n) e =
          let h = both (op_good channels o) (is_target rs rows n) e in
          (op_is o h.0, target_is n h.1)
      statement_is i owed (Close p n) e =
          let h = both (port_good channels p) (is_target rs rows n) e in
          (port_is p h.0, target_is n h.1)
      statement_is i owed (Range p n a) e =
          let h = both (port_good channels p) (is_target rs rows n && is_target rs rows a) e in
          let g = targets_are n a h.1 in
          (port_is p h.0, g.0, g.1)
      statement_is i owed (Repeat d k n a) e =
          let h = both (ltb d depth_limit) (leb k lap_limit && (is_target rs rows n && is_target rs rows a)) e in
          let f = both (leb k lap_limit) (is_target rs rows n && is_target rs rows a) h.1 in
          let g = targets_are n a f.1 in
          (ltb-true _ _ h.0, leb-true _ _ f.0, g.0, g.1)
      statement_is i owed (Ifok n a) e = targets_are n a e
      statement_is i owed (Select k o) e =
          let h = both (leb k case_limit) (otherwise_good rs rows o && cases_follow rs rows k (suc i)) e in
          let g = both (otherwise_good rs rows o) (cases_follow rs rows k (suc i)) h.1 in
          (leb-true _ _ h.0, otherwise_is o g.0, followed_is k (suc i) g.1)
      statement_is i owed (Case o n) e =
          let h = both (ltb 0 owed) (op_good channels o && is_target rs rows n) e in
          let g = both (op_good channels o) (is_target rs rows n) h.1 in
          (op_is o g.0, target_is n g.1)
      statement_is i owed Stop e = tt

      row_is : (i : ℕ) → row_bad rs rows channels i ≡ false → StatementSound rs rows channels i (rows_in rs (row_no i))
      unfolding row_bad row_good rows_in
      row_is i e =
          let f = fields_of_row rs (row_no i) in
          let h = both (in_table f) (statement_good rs rows channels i (owed_at rs i) (statement_of f)) (not-false _ e) in
          statement_is i (owed_at rs i) (statement_of f) h.1

-- A search that finds nothing has passed every number.
none_bad : (bad : ℕ → Bool) (n i : ℕ) → first_of bad n i ≡ None → (k : ℕ) → k < n → bad (i + k) ≡ false
unfolding first_of
none_bad bad zero i e = λ k h. absurd (omega arith)
none_bad bad (suc n) i e = step (bad i) refl e (none_bad bad n (suc i))
  where
    step : (b : Bool) → bad i ≡ b → cond b (Some i) (first_of bad n (suc i)) ≡ None
        → (first_of bad n (suc i) ≡ None → (k : ℕ) → k < n → bad (suc i + k) ≡ false) → (k : ℕ) → k < suc n → bad (i + k) ≡ false
    step true z e rest k h = cc
    step false z e rest zero h = rw add-zero z
    step false z e rest (suc k) h =
        let j : i + suc k ≡ suc i + k = omega arith in
        rw j (rest e k (omega arith))

-- THE LAW

refused_at_lem : (fault : ℕ → ImageFault) (f : Option ℕ) (r : Result ⊤ ImageFault) → refused_at fault f r ≡ Ok tt → (f ≡ None) × (r ≡ Ok tt)
unfolding refused_at
refused_at_lem fault None r e = (refl, e)
refused_at_lem fault (Some i) r e = (cc, cc)

-- A refusal ahead of the rest did not come.
passed : (b : Bool) (fault : ImageFault) (r : Result ⊤ ImageFault) → cond b (Err fault) r ≡ Ok tt → (b ≡ false) × (r ≡ Ok tt)
passed true fault r e = (cc, cc)
passed false fault r e = (refl, e)

counts_are : (k : Counts) → counts_good k ≡ true
    → (1 ≤ k.rows) × (k.rows ≤ row_limit) × (k.channels ≤ channel_limit) × (1 ≤ k.tasks) × (k.tasks ≤ task_limit) × (k.back ≡ span_of k.rows k.channels k.tasks)
unfolding counts_good
counts_are k e =
    let a = both (leb 1 k.rows) _ e in
    let b = both (leb k.rows row_limit) _ a.1 in
    let c = both (leb k.channels channel_limit) _ b.1 in
    let d = both (leb 1 k.tasks) _ c.1 in
    let f = both (leb k.tasks task_limit) _ d.1 in
    (leb-true _ _ a.0, leb-true _ _ b.0, leb-true _ _ c.0, leb-true _ _ d.0, leb-true _ _ f.0, eqb-true _ _ f.1)

body-length : (bs : List ℕ) → trailer_size ≤ length bs → distance bs ≤ length bs - trailer_size → length (body_of bs) ≡ distance bs + trailer_size
unfolding body_of
body-length bs h g = simp length-drop (omega arith)

-- A slice that has come so far in the check holds every row, capacity and first row.
pub span_held : (bs : List ℕ) → trailer_size ≤ length bs → counts_good (counts_of bs) ≡ true → (counts_of bs).back ≤ length bs - trailer_size
    → span_of (counts_of bs).rows (counts_of bs).channels (counts_of bs).tasks ≤ length (body_of bs)
unfolding counts_of counts_in distance
span_held bs h e g =
    let n = counts_are (counts_of bs) e in
    omega (arith, n.5, body-length bs h g)

-- What the three searches through the image from row 0 on have passed.
module _ (rs : List ℕ) (k : Counts) where
  capacity_is : (c : ℕ) → capacity_bad rs k.rows c ≡ false → capacity_in rs k.rows (chan_no c) ≤ capacity_limit
  unfolding capacity_bad
  capacity_is c e = ltb-false _ _ e

  first_is : (t : ℕ) → first_row_bad rs k.rows k.channels t ≡ false → Target rs k.rows (first_row_in rs k.rows k.channels (task_no t))
  unfolding first_row_bad
  first_is t e = target_is rs k.rows (first_row_in rs k.rows k.channels (task_no t)) (not-false _ e)

  all_passed : (bad : ℕ → Bool) (n : ℕ) → first_of bad n 0 ≡ None → (i : ℕ) → i < n → bad i ≡ false
  all_passed bad n e i h = ap bad (sym (zero-add i)) ∙ none_bad bad n 0 e i h

  body_is : body_checked rs k ≡ Ok tt
      → ((i : ℕ) → i < k.rows → StatementSound rs k.rows k.channels i (rows_in rs (row_no i)))
      × ((c : ℕ) → c < k.channels → capacity_in rs k.rows (chan_no c) ≤ capacity_limit)
      × ((t : ℕ) → t < k.tasks → Target rs k.rows (first_row_in rs k.rows k.channels (task_no t)))
  unfolding body_checked
  body_is e =
      let rows = refused_at_lem (λ i. BadRow (row_no i)) (first_of (row_bad rs k.rows k.channels) k.rows 0) _ e in
      let caps = refused_at_lem (λ c. BadCapacity (chan_no c)) (first_of (capacity_bad rs k.rows) k.channels 0) _ rows.1 in
      let firsts = refused_at_lem (λ t. BadFirstRow (task_no t)) (first_of (first_row_bad rs k.rows k.channels) k.tasks 0) (Ok tt) caps.1 in (
        λ i h. row_is rs k.rows k.channels i (all_passed (row_bad rs k.rows k.channels) k.rows rows.0 i h),
        λ c h. capacity_is c (all_passed (capacity_bad rs k.rows) k.channels caps.0 c h),
        λ t h. first_is t (all_passed (first_row_bad rs k.rows k.channels) k.tasks firsts.0 t h),
      )

pub good_sound : (bs : List ℕ) → checked bs ≡ Ok tt → Sound bs
unfolding checked counts_of counts_in row_count channel_count task_count distance
good_sound bs e =
    let k = counts_of bs in
    let short = passed (ltb (length bs) trailer_size) TooShort _ e in
    let mark = passed (not (eqb (mark_of bs) image_mark)) BadMark _ short.1 in
    let version = passed (not (eqb (version_of bs) image_version)) BadVersion _ mark.1 in
    let counted = passed (not (counts_good k)) BadCounts _ version.1 in
    let reach = passed (ltb (length bs - trailer_size) k.back) BadDistance (body_checked (body_of bs) k) counted.1 in
    let n = counts_are k (not-false _ counted.0) in
    let b = body_is (body_of bs) k reach.1 in
    record {
      some_rows = n.0;
      most_rows = n.1;
      most_channels = n.2;
      some_tasks = n.3;
      most_tasks = n.4;
      whole = body-length bs (ltb-false _ _ short.0) (ltb-false _ _ reach.0) ∙ ap (◌+ trailer_size) n.5;
      statements = b.0;
      capacities = b.1;
      firsts = b.2;
    }
