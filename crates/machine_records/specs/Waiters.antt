-- Who waits for what, over the records of a state and the rows from row 0 on. The rules are the meaning's (`receives_on`,
-- `sends_on`); what is said here is how the waiting tasks are walked.
use Rattle.std.specs.Prelude.{Bool, true, false, cond, Option, Some, None, List, [], ◌∷◌, ℕ, zero, suc, ◌+◌}
use Rattle.machine_records.specs.Kinds.{Task, Chan, Row, Op, Recv, Statement, Do, Close, Range, Repeat, Ifok, Select, Case, Stop, Side, Receiving, Sending, Offer, Waiter}
use Rattle.meaning.specs.Machine.{receives_on, sends_on}
use Rattle.meaning.specs.Image.{row_no}
use Rattle.meaning.specs.Bytes.{rows_in}
use Rattle.machine_records.specs.Records.{Records, task_in, order_of}

abbrev pub serves : Side → Chan → Op → Bool
serves Receiving c o = receives_on c o
serves Sending c o = sends_on c o

abbrev pub offers : Op → Row → Row → Option Offer
offers o h x = Some (record { op = o; hit = h; miss = x })

abbrev pub case_offer : Statement → Option Offer
case_offer (Do o n) = None
case_offer (Close p n) = None
case_offer (Range p n a) = None
case_offer (Repeat d k n a) = None
case_offer (Ifok n a) = None
case_offer (Select k e) = None
case_offer (Case o n) = offers o n n
case_offer Stop = None

abbrev pub serving : Side → Chan → Option Offer → Option Offer
serving side c None = None
serving side c (Some f) = cond (serves side c f.op) (Some f) None

abbrev pub or_else : Option Offer → Option Offer → Option Offer
or_else None f = f
or_else (Some g) f = Some g

module _ (rs : List ℕ) (side : Side) (c : Chan) where
  -- The first of k case rows from row i on that serves.
  unfoldable pub first_case : ℕ → ℕ → Option Offer
  first_case zero i = None
  first_case (suc k) i = or_else (serving side c (case_offer (rows_in rs (row_no i)))) (first_case k (suc i))

  abbrev pub matched_by : ℕ → Statement → Option Offer
  matched_by row (Do o n) = serving side c (offers o n n)
  matched_by row (Close p n) = None
  matched_by row (Range p n a) = serving side c (offers (Recv p) n a)
  matched_by row (Repeat d k n a) = None
  matched_by row (Ifok n a) = None
  matched_by row (Select k e) = first_case k (row + 1)
  matched_by row (Case o n) = None
  matched_by row Stop = None

  unfoldable pub matched_at : Row → Option Offer
  matched_at row = matched_by row.0 (rows_in rs row)

abbrev pub found_by : Task → Option Offer → Option Waiter → Option Waiter
found_by t None f = f
found_by t (Some g) f = Some (record { task = t; offer = g })

abbrev pub first_of : (Task → Option Offer) → List Task → Option Waiter
first_of f [] = None
first_of f (t ∷ ts) = found_by t (f t) (first_of f ts)

abbrev pub is_offer : Option Offer → Bool
is_offer None = false
is_offer (Some g) = true

abbrev pub one : Bool → ℕ
one true = 1
one false = 0

abbrev pub count_of : (Task → Option Offer) → List Task → ℕ
count_of f [] = 0
count_of f (t ∷ ts) = one (is_offer (f t)) + count_of f ts

module _ (rs : List ℕ) (s : Records) (side : Side) (c : Chan) where
  -- The operation by which a task would be woken.
  abbrev pub waits_at : Task → Option Offer
  waits_at t = matched_at rs side c (task_in s.tasks t).row

  unfoldable pub first_waiter : Option Waiter
  first_waiter = first_of waits_at (order_of s)

  unfoldable pub count_waiters : ℕ
  count_waiters = count_of waits_at (order_of s)
