-- The channel rules over the records. Each table follows the meaning's table of the same name clause by clause, with plans for its
-- turns; that the two agree is proved in crate machine_laws. An operation answers none where it would wait.
use Rattle.std.specs.Prelude.{Bool, true, false, Option, Some, None, List, [], ◌∷◌, ℕ, ◌%◌, ltb, length, get_or}
use Rattle.std.proofs.Math.Option.{none, some}
use Rattle.std.proofs.Math.Option as maybe
use Rattle.machine_records.specs.Kinds.{Chan, Row, Port, Nil, On, Op, Send, Forward, Recv, Receiving, Sending, Offer, Waiter, Plan}
use Rattle.meaning.specs.Numbers.{send_on_closed, close_of_nil, close_of_closed, close_under_sender}
use Rattle.meaning.specs.Machine.{payload}
use Rattle.meaning.specs.Image.{row_no}
use Rattle.meaning.specs.Bytes.{rows_in, capacity_in, tabulate}
use Rattle.machine_records.specs.Cells.{keep}
use Rattle.machine_records.specs.Records.{Records, task_in, chan_in}
use Rattle.machine_records.specs.Values.{Values, oldest}
use Rattle.machine_records.specs.Waiters.{case_offer, first_waiter}

-- SEND of v on c: is it closed; who waits to receive; is there room?
abbrev pub send_on : Chan → ℕ → Row → Bool → Option Waiter → Bool → maybe.Option Plan
send_on c v next true f r = some (Plan.Fail send_on_closed (On c))
send_on c v next false (Some w) r = some (Plan.Hand c v next w.task w.offer.hit)
send_on c v next false None true = some (Plan.Append c v next)
send_on c v next false None false = none

-- RECEIVE on c, whose oldest value is v: is there a value; who waits to send; is it closed?
module _ (s : Records) where
  -- What a waiting sender sends by its operation.
  abbrev pub sent_by : Waiter → ℕ
  sent_by w = payload w.offer.op (task_in s.tasks w.task).register

  abbrev pub receive_on : Chan → Row → Row → ℕ → Bool → Option Waiter → Bool → maybe.Option Plan
  receive_on c hit miss v true (Some w) q = some (Plan.Refill c v hit w.task (sent_by w) w.offer.hit)
  receive_on c hit miss v true None q = some (Plan.Take c v hit)
  receive_on c hit miss v false (Some w) q = some (Plan.Receive c (sent_by w) hit w.task w.offer.hit)
  receive_on c hit miss v false None true = some (Plan.Drain c miss)
  receive_on c hit miss v false None false = none

-- CLOSE of c: is it closed; who waits to receive, and to send?
abbrev pub close_on : Chan → Row → Bool → Option Waiter → Option Waiter → Plan
close_on c next true r w = Plan.Fail close_of_closed (On c)
close_on c next false (Some t) w = Plan.Shut c next
close_on c next false None (Some w) = Plan.Fail close_under_sender (On c)
close_on c next false None None = Plan.Shut c next

-- OPERATIONS: rs is the image from row 0 on, with so many rows.

module _ (rs : List ℕ) (rows : ℕ) (s : Records) where
  -- "Length below capacity"
  abbrev pub has_room : Chan → Bool
  has_room c = ltb (chan_in s.chans c).len (capacity_in rs rows c)

  unfoldable pub send_to : Port → ℕ → Row → maybe.Option Plan
  send_to Nil v next = none
  send_to (On c) v next = send_on c v next (chan_in s.chans c).closed (first_waiter rs s Receiving c) (has_room c)

module _ (rs : List ℕ) (s : Records) (b : Values) where
  unfoldable pub receive_from : Port → Row → Row → maybe.Option Plan
  receive_from Nil hit miss = none
  receive_from (On c) hit miss = receive_on s c hit miss (oldest b c) (ltb 0 (chan_in s.chans c).len) (first_waiter rs s Sending c) (chan_in s.chans c).closed

-- An operation of a task with this register, which leads to `hit`, or to `miss` from a receive with ok off.
module _ (rs : List ℕ) (rows : ℕ) (s : Records) (b : Values) (register : ℕ) where
  abbrev pub attempt : Op → Row → Row → maybe.Option Plan
  attempt (Send p v) hit miss = send_to rs rows s p v hit
  attempt (Forward p) hit miss = send_to rs rows s p register hit
  attempt (Recv p) hit miss = receive_from rs s b p hit miss

module _ (rs : List ℕ) (s : Records) where
  unfoldable pub close_port : Port → Row → Plan
  close_port Nil next = Plan.Fail close_of_nil Nil
  close_port (On c) next = close_on c next (chan_in s.chans c).closed (first_waiter rs s Receiving c) (first_waiter rs s Sending c)

-- SELECT: "a case is ready if its operation alone wouldn't wait (a send on a closed channel is ready and faults)"

abbrev pub can_send : Bool → Option Waiter → Bool → Bool
can_send true f r = true
can_send false (Some w) r = true
can_send false None r = r

abbrev pub can_receive : Bool → Option Waiter → Bool → Bool
can_receive true f q = true
can_receive false (Some w) q = true
can_receive false None q = q

module _ (rs : List ℕ) (rows : ℕ) (s : Records) where
  unfoldable pub send_ready : Port → Bool
  send_ready Nil = false
  send_ready (On c) = can_send (chan_in s.chans c).closed (first_waiter rs s Receiving c) (has_room rs rows s c)

  unfoldable pub receive_ready : Port → Bool
  receive_ready Nil = false
  receive_ready (On c) = can_receive (ltb 0 (chan_in s.chans c).len) (first_waiter rs s Sending c) (chan_in s.chans c).closed

  abbrev pub op_ready : Op → Bool
  op_ready (Send p v) = send_ready p
  op_ready (Forward p) = send_ready p
  op_ready (Recv p) = receive_ready p

  abbrev pub offer_ready : Option Offer → Bool
  offer_ready None = false
  offer_ready (Some f) = op_ready f.op

  abbrev pub row_ready : ℕ → Bool
  row_ready n = offer_ready (case_offer (rows_in rs (row_no n)))

  -- The rows of the ready cases among k case rows from row i on.
  unfoldable pub ready_rows : ℕ → ℕ → List ℕ
  ready_rows k i = keep row_ready (tabulate (λ n. n) k i)

  -- "With k > 0 ready, take ready case number (choice mod k), counted from 0 in text order."
  abbrev pub chosen_of : List ℕ → ℕ → Option Offer
  chosen_of [] choice = None
  chosen_of (r ∷ rs') choice = case_offer (rows_in rs (row_no (get_or (r ∷ rs') (choice % length (r ∷ rs')) 0)))

  unfoldable pub chosen_case : ℕ → ℕ → ℕ → Option Offer
  chosen_case k i choice = chosen_of (ready_rows k i) choice
