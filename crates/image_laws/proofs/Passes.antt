-- The image of a proper job passes the image check: from the facts that its rows keep to, each test in turn.
use Rattle.std.specs.Prelude.{◌≡◌, Bool, true, false, cond, ◌&&◌, eqb, length, Option, None, Result, Ok, Err, ⊤}
use Rattle.std.proofs.Math.Path.{refl, ap}
use Rattle.std.proofs.Common.{sym, ap₂, subst, ◌∙◌, add-zero, length-append}
use Rattle.std.proofs.Math.Bool.{not}
use mathlib.Core.List.{List, [], ◌∷◌, ◌++◌}
use Prim.Native.Nat.{ℕ, zero, suc, ◌+◌, ◌-◌, ◌≤◌, ◌<◌}
use native.Mathlib.Omega.{arith}
use borrow.Author.Tests.{lt-ltb, le-ltb, le-leb, eq-eqb}
use Rattle.std.proofs.Math.Dec.{ltb}
use Rattle.image_laws.specs.Kinds.{Row, Port, Nil, On, Op, Send, Forward, Recv, Otherwise, Wait, Go, Statement, Do, Close, Range, Repeat, Ifok, Select, Case, Stop, Fields, Counts, ImageFault, TooShort, BadMark, BadVersion, BadCounts, BadDistance, BadRow, BadCapacity, BadFirstRow}
use Rattle.meaning.specs.Numbers.{capacity_limit, case_limit, lap_limit, depth_limit}
use Rattle.meaning.specs.Text.{Job, Body}
use Rattle.meaning.specs.Image.{row_no, chan_no, task_no}
use Rattle.meaning.specs.Layout.{rows_t}
use Rattle.meaning.specs.Bytes.{fields_of, statement_of, trailer_size, image_mark, image_version, span_of, job_image, mark_of, version_of, row_count, channel_count, task_count, distance, fields_of_row, rows_in, capacity_in, first_row_in, tabulate}
use Rattle.image_rows.specs.Rows.{counts_in, counts_of}
use Rattle.image_row.specs.Row.{same_fields, in_table, is_case_op, owed_after, port_good, op_good, is_case_row, is_target, otherwise_good, cases_follow, statement_good, row_good}
use Rattle.image_check.specs.Check.{owed_at, capacity_bad, row_bad, first_row_bad, first_of, refused_at, body_checked, counts_good, checked}
use Rattle.image_check.specs.Sound.{is_case, PortSound}
use Rattle.meaning_laws.specs.Lists.{All}
use Rattle.image_laws.specs.Proper.{ProperOp, Proper}
use Rattle.image_laws.proofs.Rows.{Holds, Aim, OtherwiseLawful, CasesLawful, StatementLawful, RowsLawful, rows_t-length, laid_t, firsts_aim}
use Rattle.image_laws.proofs.ReadBack.{Written, written, written_holds, image-length, row_count_back, channel_count_back, task_count_back, distance_back, mark_of_back, version_of_back, body_of_back, capacities_tabulated, firsts_tabulated}

and_true : {a b : Bool} → a ≡ true → b ≡ true → (a && b) ≡ true
and_true e f = rw (e, f)

-- The table writes the ops of case rows for cases alone.
case_op_lem : (x : Statement) → is_case_op (fields_of x).op ≡ is_case x
unfolding fields_of
case_op_lem (Do (Send p v) n) = refl
case_op_lem (Do (Forward p) n) = refl
case_op_lem (Do (Recv p) n) = refl
case_op_lem (Close p n) = refl
case_op_lem (Range p n a) = refl
case_op_lem (Repeat d k n a) = refl
case_op_lem (Ifok n a) = refl
case_op_lem (Select k Wait) = refl
case_op_lem (Select k (Go n)) = refl
case_op_lem (Case (Send p v) n) = refl
case_op_lem (Case (Forward p) n) = refl
case_op_lem (Case (Recv p) n) = refl
case_op_lem Stop = refl

port_good_lem : (channels : ℕ) (p : Port) → PortSound channels p → port_good channels p ≡ true
unfolding port_good
port_good_lem channels Nil h = refl
port_good_lem channels (On c) h = lt-ltb c.0 channels h

op_good_lem : (channels : ℕ) (o : Op) → ProperOp channels o → op_good channels o ≡ true
unfolding op_good
op_good_lem channels (Send p v) h = port_good_lem channels p h.0
op_good_lem channels (Forward p) h = port_good_lem channels p h
op_good_lem channels (Recv p) h = port_good_lem channels p h

same : (f : Fields) → same_fields f f ≡ true
same f = and_true (each f.op) (and_true (each f.chan) (and_true (each f.arg) (and_true (each f.next) (each f.other))))
  where
    each : (n : ℕ) → eqb n n ≡ true
    each n = eq-eqb n n refl

-- Fields that read as the statement they were written for are those of the table.
in_table_lem : (x : Statement) → statement_of (fields_of x) ≡ x → in_table (fields_of x) ≡ true
unfolding in_table
in_table_lem x e = rw e (same (fields_of x))

-- THE ROWS of the image rs

module _ (rs : List ℕ) where
  case_row : (i : ℕ) (xs : List Statement) → Written rs i xs → (n : ℕ) → n < length xs → is_case_row rs (row_no (i + n)) ≡ is_case (rows_in rs (row_no (i + n)))
  unfolding is_case_row rows_in
  case_row i [] w n h = absurd (omega arith)
  case_row i (x ∷ xs) w zero h = rw (add-zero, w.0) (case_op_lem x ∙ ap is_case (sym w.1))
  case_row i (x ∷ xs) w (suc n) h = let z : i + suc n ≡ suc i + n = omega arith in rw z (case_row (suc i) xs w.2 n (omega arith))

  module _ (xs : List Statement) (w : Written rs 0 xs) (channels : ℕ) where
    abbrev top : ℕ
    top = length xs

    case_known : (r : Row) → r.0 < top → is_case_row rs r ≡ is_case (rows_in rs r)
    case_known r h = let z : 0 + r.0 ≡ r.0 = omega arith in rw z at (case_row 0 xs w r.0 h)

    target : (r : Row) → Aim (rows_in rs) top channels r → is_target rs top r ≡ true
    unfolding is_target
    target r a = and_true (lt-ltb r.0 top a.below) (ap not (case_known r a.below ∙ a.plain))

    otherwise_good_lem : (e : Otherwise) → OtherwiseLawful (rows_in rs) top channels e → otherwise_good rs top e ≡ true
    unfolding otherwise_good
    otherwise_good_lem Wait h = refl
    otherwise_good_lem (Go n) h = target n h

    cases_follow_lem : (k i : ℕ) → CasesLawful (rows_in rs) top channels k i → cases_follow rs top k i ≡ true
    unfolding cases_follow
    cases_follow_lem zero i h = refl
    cases_follow_lem (suc k) i h = and_true (lt-ltb i top h.0) (and_true (case_known (row_no i) h.0 ∙ h.1) (cases_follow_lem k (suc i) h.2))

    statement_good_lem : (owed i : ℕ) (x : Statement) → StatementLawful (rows_in rs) top channels owed i x → statement_good rs top channels i owed x ≡ true
    unfolding statement_good
    statement_good_lem owed i (Do o n) h = and_true (op_good_lem channels o h.0) (target n h.1)
    statement_good_lem owed i (Close p n) h = and_true (port_good_lem channels p h.0) (target n h.1)
    statement_good_lem owed i (Range p n a) h = and_true (port_good_lem channels p h.0) (and_true (target n h.1) (target a h.2))
    statement_good_lem owed i (Repeat d k n a) h = and_true (lt-ltb d depth_limit h.0) (and_true (le-leb k lap_limit h.1) (and_true (target n h.2) (target a h.3)))
    statement_good_lem owed i (Ifok n a) h = and_true (target n h.0) (target a h.1)
    statement_good_lem owed i (Select k e) h = and_true (le-leb k case_limit h.0) (and_true (otherwise_good_lem e h.1) (cases_follow_lem k (suc i) h.2))
    statement_good_lem owed i (Case o n) h = and_true (lt-ltb 0 owed h.0) (and_true (op_good_lem channels o h.1) (target n h.2))
    statement_good_lem owed i Stop h = refl

    row_passes_lem : (i : ℕ) (x : Statement) → fields_of_row rs (row_no i) ≡ fields_of x → statement_of (fields_of x) ≡ x → StatementLawful (rows_in rs) top channels (owed_at rs i) i x → row_bad rs top channels i ≡ false
    unfolding row_bad row_good
    row_passes_lem i x e b h = rw e (ap not (and_true (in_table_lem x b) (rw b (statement_good_lem (owed_at rs i) i x h))))

    rows_pass : (ys : List Statement) (i : ℕ) → Written rs i ys → RowsLawful (rows_in rs) top channels (owed_at rs i) i ys → first_of (row_bad rs top channels) (length ys) i ≡ None
    unfolding first_of owed_at
    rows_pass [] i v h = refl
    rows_pass (y ∷ ys) i v h =
        let e : owed_after (owed_at rs i) y ≡ owed_at rs (suc i) = ap (owed_after (owed_at rs i)) (sym (ap statement_of v.0 ∙ v.1)) in
        rw (row_passes_lem i y v.0 v.1 h.0) (rows_pass ys (suc i) v.2 (subst (λ n. RowsLawful (rows_in rs) top channels n (suc i) ys) e h.1))

    first_passes : (t : ℕ) → Aim (rows_in rs) top channels (first_row_in rs top channels (task_no t)) → first_row_bad rs top channels t ≡ false
    unfolding first_row_bad
    first_passes t a = ap not (target (first_row_in rs top channels (task_no t)) a)

  capacity_passes : (rows c : ℕ) → capacity_in rs rows (chan_no c) ≤ capacity_limit → capacity_bad rs rows c ≡ false
  unfolding capacity_bad
  capacity_passes rows c h = le-ltb capacity_limit (capacity_in rs rows (chan_no c)) h

-- THE CHECK

-- A search through what is tabulate, where each thing tabulate is good.
none_tabulated : {A : Type 0} (bad : ℕ → Bool) (f : ℕ → A) (Q : A → Type 0) → ((i : ℕ) → Q (f i) → bad i ≡ false) → (n i : ℕ) → All Q (tabulate f n i) → first_of bad n i ≡ None
unfolding first_of tabulate
none_tabulated bad f Q good zero i h = refl
none_tabulated bad f Q good (suc n) i h = rw (good i h.0) (none_tabulated bad f Q good n (suc i) h.1)

refused_at_lem : (fault : ℕ → ImageFault) {f : Option ℕ} {r : Result ⊤ ImageFault} → f ≡ None → r ≡ Ok tt → refused_at fault f r ≡ Ok tt
unfolding refused_at
refused_at_lem n e g = rw (e, g)

passed : (fault : ImageFault) {b : Bool} {r : Result ⊤ ImageFault} → b ≡ false → r ≡ Ok tt → cond b (Err fault) r ≡ Ok tt
passed n e g = rw (e, g)

-- What the trailer says, as one record.
abbrev pub job_counts : Job → Counts
job_counts j = record {
  rows = length (rows_t j.tasks 0);
  channels = length j.capacities;
  tasks = length j.tasks;
  back = span_of (length (rows_t j.tasks 0)) (length j.capacities) (length j.tasks);
}

-- Each task has its stop row.
some_rows : (bs : List Body) → 1 ≤ length bs → 1 ≤ length (rows_t bs 0)
some_rows [] h = absurd (omega arith)
some_rows (b ∷ bs) h = omega (arith, rows_t-length b bs 0)

module _ (j : Job) (p : Proper j) where
  abbrev k : Counts
  k = job_counts j

  abbrev rs : List ℕ
  rs = job_image j

  counts_good_lem : counts_good k ≡ true
  unfolding counts_good
  counts_good_lem =
      and_true (le-leb _ _ (some_rows j.tasks p.some_tasks))
      (and_true (le-leb _ _ p.most_rows)
      (and_true (le-leb _ _ p.most_channels) (and_true (le-leb _ _ p.some_tasks) (and_true (le-leb _ _ p.most_tasks) (eq-eqb k.back k.back refl)))))

  reads : Holds (rows_in rs) 0 (rows_t j.tasks 0)
  reads = written_holds rs 0 (rows_t j.tasks 0) (written j p)

  no_bad_row : first_of (row_bad rs k.rows k.channels) k.rows 0 ≡ None
  unfolding owed_at
  no_bad_row =
      let xs = rows_t j.tasks 0 in
      rows_pass rs xs (written j p) k.channels xs 0 (written j p) (laid_t (rows_in rs) k.rows k.channels j.tasks 0 p.bodies (omega arith) reads 0)

  no_bad_capacity : first_of (capacity_bad rs k.rows) k.channels 0 ≡ None
  no_bad_capacity = none_tabulated (capacity_bad rs k.rows) (λ c. capacity_in rs k.rows (chan_no c)) (λ n. n ≤ capacity_limit) (capacity_passes rs k.rows) k.channels 0 (rw (capacities_tabulated j) p.capacities)

  no_bad_first : first_of (first_row_bad rs k.rows k.channels) k.tasks 0 ≡ None
  no_bad_first =
      none_tabulated (first_row_bad rs k.rows k.channels) (λ t. first_row_in rs k.rows k.channels (task_no t)) (Aim (rows_in rs) k.rows k.channels)
      (first_passes rs (rows_t j.tasks 0) (written j p) k.channels) k.tasks 0
      (rw (firsts_tabulated j p) (firsts_aim (rows_in rs) k.rows k.channels j.tasks 0 (omega arith) reads))

  body_good : body_checked rs k ≡ Ok tt
  unfolding body_checked
  body_good = refused_at_lem (λ i. BadRow (row_no i)) no_bad_row (refused_at_lem (λ c. BadCapacity (chan_no c)) no_bad_capacity (refused_at_lem (λ t. BadFirstRow (task_no t)) no_bad_first refl))

module _ (pre : List ℕ) (j : Job) (p : Proper j) where
  abbrev bs : List ℕ
  bs = pre ++ job_image j

  pub counts_back : counts_of (pre ++ job_image j) ≡ job_counts j
  unfolding counts_of counts_in row_count channel_count task_count distance
  counts_back = λ i. record { rows = row_count_back pre j p i; channels = channel_count_back pre j i; tasks = task_count_back pre j i; back = distance_back pre j p i }

  whole : length bs ≡ length pre + ((job_counts j).back + trailer_size)
  whole = length-append pre (job_image j) ∙ ap (length pre +◌) (image-length j)

  pub laid_good : checked (pre ++ job_image j) ≡ Ok tt
  unfolding checked
  laid_good =
      passed TooShort (le-ltb (length bs) trailer_size (omega (arith, whole)))
      (passed BadMark (ap not (eq-eqb (mark_of bs) image_mark (mark_of_back pre j)))
      (passed BadVersion (ap not (eq-eqb (version_of bs) image_version (version_of_back pre j)))
      (passed BadCounts (ap not (ap counts_good counts_back ∙ counts_good_lem j p))
      (passed BadDistance (ap (λ k. ltb (length bs - trailer_size) k.back) counts_back ∙ le-ltb (length bs - trailer_size) (job_counts j).back (omega (arith, whole)))
      (ap₂ body_checked (body_of_back pre j p) counts_back ∙ body_good j p)))))
