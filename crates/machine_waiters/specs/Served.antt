-- By which row a waiting task is served, by two bytes of each row: words for the contracts of this crate. That they say what
-- `matched_at` says of the decoded rows is proved in laws/Served.
use Rattle.std.specs.Prelude.{Bool, true, cond, Option, Some, None, List, ℕ, zero, suc, ◌+◌, eqb}
use Rattle.machine_waiters.specs.Kinds.{Chan, Row, Recv, Statement, Do, Close, Range, Repeat, Ifok, Select, Case, Stop, Side, Receiving, Sending, Offer, Head}
use Rattle.meaning.specs.Machine.{is_on}
use Rattle.meaning.specs.Image.{row_no}
use Rattle.machine_records.specs.Waiters.{offers}
use Rattle.meaning.specs.Bytes.{port_of, fields_of_row, rows_in}

abbrev pub head_of : List ℕ → ℕ → Head
head_of rs n = record { op = (fields_of_row rs (row_no n)).op; chan = (fields_of_row rs (row_no n)).chan }

abbrev pub op_serves : Side → ℕ → Bool
op_serves Receiving op = cond (eqb op 3) true (eqb op 5)
op_serves Sending op = cond (eqb op 1) true (eqb op 2)

abbrev pub case_serves : Side → ℕ → Bool
case_serves Receiving op = eqb op 11
case_serves Sending op = cond (eqb op 9) true (eqb op 10)

module _ (rs : List ℕ) (side : Side) (c : Chan) where
  -- The first of k case rows from row i on.
  unfoldable pub first_serving : ℕ → ℕ → Option ℕ
  first_serving zero i = None
  first_serving (suc k) i = cond (is_on c (port_of (head_of rs i).chan)) (cond (case_serves side (head_of rs i).op) (Some i) (first_serving k (suc i))) (first_serving k (suc i))

  abbrev pub served_by : ℕ → Head → Option ℕ
  served_by n h = cond (eqb h.op 8) (first_serving h.chan (n + 1)) (cond (is_on c (port_of h.chan)) (cond (op_serves side h.op) (Some n) None) None)

  unfoldable pub served_at : Row → Option ℕ
  served_at row = served_by row.0 (head_of rs row.0)

-- What a row, or case row, offers.
abbrev pub row_offer : Statement → Option Offer
row_offer (Do o n) = offers o n n
row_offer (Close p n) = None
row_offer (Range p n a) = offers (Recv p) n a
row_offer (Repeat d k n a) = None
row_offer (Ifok n a) = None
row_offer (Select k e) = None
row_offer (Case o n) = offers o n n
row_offer Stop = None

abbrev pub served_offer : List ℕ → Option ℕ → Option Offer
served_offer rs None = None
served_offer rs (Some n) = row_offer (rows_in rs (row_no n))

-- Where an operation leads after a receive with ok off.
abbrev pub miss_of : Option Offer → Option Row
miss_of None = None
miss_of (Some f) = Some f.miss
