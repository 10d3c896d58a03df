-- What a plan does: the event, the records after the turn, and what becomes of the values. A plan is decided before anything is
-- changed (Rules, Step); here it is carried out, one change behind the other.
use Rattle.std.specs.Prelude.{Bool, true, false, not, Option, Some, None, List, [], ◌∷◌, ℕ, ◌%◌, set}
use Rattle.machine_records.specs.Kinds.{Task, Chan, Waiting, Ended, Event, Appended, Handed, Taken, Refilled, Received, Drained, Closed, Waits, Branched, Finished, Faulted, Refused, TaskState, Change, Keep, Append, Take, Refill, Receiving, Offer, Fault, Plan}
use Rattle.meaning.specs.Numbers.{task_limit, send_on_closed, close_of_nil, close_of_closed, close_under_sender}
use Rattle.machine_records.specs.Cells.{keep}
use Rattle.machine_records.specs.Records.{Records, task_in, chan_in, order_of, got_task, with_tasks, halted, ticked, task_got, task_went, task_stood, task_lapped, chan_longer, chan_shorter, chan_shut, ordered, joined, left}
use Rattle.machine_records.specs.Waiters.{is_offer, waits_at, count_waiters}

-- A turn made over the records.
pub record Done : Type 0 where
  pub event : Event
  pub after : Records
  pub change : Change

abbrev pub fault_number : Fault → ℕ
fault_number Fault.SendOnClosed = send_on_closed
fault_number Fault.CloseOfNil = close_of_nil
fault_number Fault.CloseOfClosed = close_of_closed
fault_number Fault.CloseUnderSender = close_under_sender

-- "The stamp .. rises by one at each turn not refused"
abbrev pub did : Event → Records → Change → Done
did e z h = record { event = e; after = ticked z; change = h }

-- "Refused turns, unused fields, state kept"
abbrev pub refused_turn : Records → ℕ → Done
refused_turn s n = record { event = Refused n; after = s; change = Keep }

-- ALL THAT WAIT TO RECEIVE WAKE: rs is the image from row 0 on, s the records at which the turn began.

module _ (rs : List ℕ) (s : Records) (c : Chan) where
  abbrev pub idle : Task → Bool
  idle t = not (is_offer (waits_at rs s Receiving c t))

  abbrev pub woken_by : Task → Option Offer → List TaskState → List TaskState
  woken_by t None xs = xs
  woken_by t (Some g) xs = set xs (t.0 % task_limit) (got_task (task_in xs t) 0 false g.miss)

  -- "all such tasks wake in order with 0, ok off"
  unfoldable pub woken_tasks : List Task → List TaskState → List TaskState
  woken_tasks [] xs = xs
  woken_tasks (t ∷ ts) xs = woken_tasks ts (woken_by t (waits_at rs s Receiving c t) xs)

  abbrev pub woken_all : Records → Records
  woken_all z = ordered (with_tasks z (woken_tasks (order_of s) z.tasks)) (keep idle (order_of s))

-- THE PLANS, made by the mover `me`

module _ (rs : List ℕ) (s : Records) (me : Task) where
  unfoldable pub applied : Plan → Done
  -- "Faults change nothing but the halt record (fault number, task named: the mover) and the stamp."
  applied (Plan.Fail f p) = did (Faulted p f me) (halted s f me) Keep
  applied Plan.Wait = did Waits (joined (task_stood s me Waiting) me) Keep
  applied (Plan.Branch r) = did Branched (task_went s me r) Keep
  applied (Plan.Lap d k r) = did Branched (task_went (task_lapped s me d k) me r) Keep
  applied Plan.End = did Finished (task_stood s me Ended) Keep
  -- send: "the first gets the value, ok on"; "append"
  applied (Plan.Hand c v next w on) = did (Handed c v w) (left (task_got (task_went s me next) w v true on) w) Keep
  applied (Plan.Append c v next) = did (Appended c v) (task_went (chan_longer s c) me next) (Append c (chan_in s.chans c).len v)
  -- receive: "take the oldest, ok on"; "if a task waits to send, the first one's value is appended and it wakes"; "take its value,
  -- ok on"; "value 0, ok off"
  applied (Plan.Take c v hit) = did (Taken c v) (task_got (chan_shorter s c) me v true hit) (Take c (chan_in s.chans c).len)
  applied (Plan.Refill c v hit w sent on) = did (Refilled c v w) (left (task_went (task_got s me v true hit) w on) w) (Refill c (chan_in s.chans c).len sent)
  applied (Plan.Receive c v hit w on) = did (Received c v w) (left (task_went (task_got s me v true hit) w on) w) Keep
  applied (Plan.Drain c miss) = did (Drained c) (task_got s me 0 false miss) Keep
  -- close: "The buffer is kept."
  applied (Plan.Shut c next) = did (Closed c (count_waiters rs s Receiving c)) (woken_all rs s c (task_went (chan_shut s c) me next)) Keep
