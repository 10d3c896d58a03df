-- The four numbers of an event tell it: document 01's table gives no two events of turns the same numbers.
use Rattle.std.specs.Prelude.{◌≡◌, Bool, Option, Some, None, cond, List, [], ◌∷◌, ℕ, zero, suc, ◌+◌, ◌%◌, ◌≤◌, ◌<◌, eqb, length, get_or}
use Rattle.std.proofs.Math.Path.{refl}
use Rattle.std.proofs.Common.{sym, ap, ◌∙◌, ne_eqb, ltb-true}
use Rattle.std.proofs.Math.Bool.{true, false}
use Rattle.std.proofs.Math.Option.{none, some}
use Rattle.std.proofs.Math.Option as maybe
use Rattle.std.proofs.Math.Numerals.{add-one}
use native.Mathlib.Omega.{arith}
use Rattle.std.proofs.Math.Dec.{ltb}
use Rattle.std.proofs.Math.ListN.{get_or-eq_default}
use Rattle.machine_laws.specs.Kinds.{Task, Chan, Row, Port, Nil, On, Op, Send, Forward, Recv, Otherwise, Wait, Go, Statement, Do, Close, Range, Repeat, Ifok, Select, Case, Stop, Status, Able, Waiting, Ended, Event, Appended, Handed, Taken, Refilled, Received, Drained, Closed, Waits, Branched, Finished, Faulted, Refused, EventNumbers, TaskState, Side, Receiving, Sending, Waiter, Plan, Refusal}
use Rattle.meaning.specs.Events.{no_channel, no_value, no_partner, port_number, numbers}
use Rattle.meaning.specs.Numbers.{halted, no_fault}
use Rattle.meaning.specs.Image.{row_no}
use Rattle.meaning.specs.Bytes.{port_of, row_count, channel_count, body_of, rows_in, tabulate}
use Rattle.image_check.specs.Sound.{PortSound, OpSound, Followed, StatementSound, Sound}
use Rattle.meaning_laws.specs.Lists.{All}
use Rattle.meaning_laws.specs.Laws.Lists.{all_get, all_weaken}
use Rattle.machine_records.specs.Cells.{cons_if, keep}
use Rattle.machine_records.specs.Records.{Records, task_in, chan_in, lap_of, order_of}
use Rattle.machine_records.specs.Values.{Values, oldest}
use Rattle.machine_records.specs.Waiters.{case_offer, waits_at, first_waiter}
use Rattle.machine_records.specs.Plans.{applied}
use Rattle.machine_records.specs.Rules as r
use Rattle.machine_records.specs.Step.{or_wait, no_case, repeated, plan_by, offer_of, plan_of, refusal_of, refused_by, stepped_by, stepped}
use Rattle.machine_laws.specs.Laws.Fit.{Arrays, Fit}
use Rattle.machine_laws.specs.Laws.Who.{FoundHas, found_has}
use Rattle.machine_laws.specs.Laws.Link.{few_tasks, order_named, row_below}

-- 255 stands for no partner and for nil, so no task and no channel of the event is of that number; and a refusal's number is
-- none of the others'.
abbrev pub PortNumbered : Port → Type 0
PortNumbered Nil = Unit {0}
PortNumbered (On c) = c.0 < no_channel

abbrev pub Numbered : Event → Type 0
Numbered (Appended c v) = Unit {0}
Numbered (Handed c v q) = Unit {0}
Numbered (Taken c v) = Unit {0}
Numbered (Refilled c v q) = q.0 < no_partner
Numbered (Received c v q) = Unit {0}
Numbered (Drained c) = Unit {0}
Numbered (Closed c n) = Unit {0}
Numbered Waits = Unit {0}
Numbered Branched = Unit {0}
Numbered Finished = Unit {0}
Numbered (Faulted p f t) = PortNumbered p
Numbered (Refused n) = halted ≤ n

abbrev chan : ℕ → Chan
chan n = record { 0 = n }

abbrev task : ℕ → Task
task n = record { 0 = n }

-- The table, read back: the event of each number, from 0 on.
abbrev table : ℕ → ℕ → ℕ → List Event
table c v q =
    Refused 0
    ∷ Appended (chan c) v
    ∷ Handed (chan c) v (task q)
    ∷ cond (eqb q no_partner) (Taken (chan c) v) (Refilled (chan c) v (task q))
    ∷ Received (chan c) v (task q)
    ∷ Drained (chan c)
    ∷ Closed (chan c) v
    ∷ Waits
    ∷ Branched
    ∷ Finished
    ∷ Faulted (port_of c) v (task q) ∷ []

unfoldable pub event_of : EventNumbers → Event
event_of n = get_or (table n.channel n.value n.partner) n.number (Refused n.number)

port_told : (p : Port) → PortNumbered p → port_of (port_number p) ≡ p
port_told Nil h = refl
port_told (On c) h = rw (ne_eqb c.0 no_channel (λ e. omega arith))

event_told : (e : Event) → Numbered e → event_of (numbers e) ≡ e
unfolding event_of numbers
event_told (Appended c v) h = refl
event_told (Handed c v q) h = refl
event_told (Taken c v) h = refl
event_told (Refilled c v q) h = rw (ne_eqb q.0 no_partner (λ e. omega arith))
event_told (Received c v q) h = refl
event_told (Drained c) h = refl
event_told (Closed c n) h = refl
event_told Waits h = refl
event_told Branched h = refl
event_told Finished h = refl
event_told (Faulted p f t) h = ap (λ q. Faulted q f t) (port_told p h)
event_told (Refused n) h = get_or-eq_default (table no_channel no_value no_partner) (Refused n) {n = n} (omega arith)

pub events_told : (e f : Event) → Numbered e → Numbered f → numbers e ≡ numbers f → e ≡ f
events_told e f h g n = sym (event_told e h) ∙ ap event_of n ∙ event_told f g

-- THE EVENTS OF A TURN on a sound image, from a state that fits

all_keep : {A : Type 0} (R : A → Type 0) (p : A → Bool) (l : List A) → All R l → All R (keep p l)
all_keep R p [] h = tt
all_keep R p (x ∷ xs) h = go (p x) (all_keep R p xs h.1)
  where
    go : (q : Bool) → All R (keep p xs) → All R (cons_if q x (keep p xs))
    go true e = (h.0, e)
    go false e = e

rows_listed : (rs : List ℕ) (rows k i : ℕ) → Followed rs rows k i → All (λ n. n < rows) (tabulate (λ n. n) k i)
unfolding tabulate
rows_listed rs rows zero i h = tt
rows_listed rs rows (suc k) i h = (h.0, rows_listed rs rows k (suc i) h.2)

-- What a plan tells, carried out from the records s.
module _ (rs : List ℕ) (s : Records) (me : Task) where
  abbrev Told : Plan → Type 0
  Told p = Numbered (applied rs s me p).event

  abbrev EachTold : maybe.Option Plan → Type 0
  EachTold none = Unit {0}
  EachTold (some p) = Told p

  or_told : (z : maybe.Option Plan) → EachTold z → Told (or_wait z)
  unfolding applied
  or_told none h = tt
  or_told (some p) h = h

  send_told : (c : Chan) (v : ℕ) (next : Row) (q : Bool) (w : Option Waiter) (room : Bool) → PortNumbered (On c) → EachTold (r.send_on c v next q w room)
  unfolding applied
  send_told c v next true w room h = h
  send_told c v next false (Some f) room h = tt
  send_told c v next false None true h = tt
  send_told c v next false None false h = tt

  receive_told : (c : Chan) (hit miss : Row) (v : ℕ) (q : Bool) (w : Option Waiter) (z : Bool)
      → FoundHas (λ t. t.0 < no_partner) w → EachTold (r.receive_on s c hit miss v q w z)
  unfolding applied
  receive_told c hit miss v true (Some f) z h = h
  receive_told c hit miss v true None z h = tt
  receive_told c hit miss v false (Some f) z h = tt
  receive_told c hit miss v false None true h = tt
  receive_told c hit miss v false None false h = tt

  repeat_told : (x : TaskState) (d n : ℕ) (body after : Row) → Told (repeated x d n body after)
  unfolding repeated applied
  repeat_told x d n body after = go (ltb (lap_of x d) n)
    where
      go : (q : Bool) → Told (cond q (Plan.Lap d ((lap_of x d + 1) % 256) body) (Plan.Lap d 0 after))
      go true = tt
      go false = tt

  close_told : (c : Chan) (next : Row) (q : Bool) (i j : Option Waiter) → PortNumbered (On c) → Told (r.close_on c next q i j)
  unfolding applied
  close_told c next true i j h = h
  close_told c next false (Some f) j h = tt
  close_told c next false None (Some f) h = h
  close_told c next false None None h = tt

  default_told : (e : Otherwise) → Told (no_case e)
  unfolding applied
  default_told Wait = tt
  default_told (Go n) = tt

module _ (bs : List ℕ) (sound : Sound bs) (s : Records) (b : Values) (a : Arrays s b) (f : Fit bs s b) where
  abbrev rs : List ℕ
  rs = body_of bs

  abbrev rows : ℕ
  rows = row_count bs

  found_told : (side : Side) (c : Chan) → FoundHas (λ t. t.0 < no_partner) (first_waiter rs s side c)
  unfolding first_waiter
  found_told side c =
      let few = few_tasks bs sound s b a f in
      found_has (λ t. t.0 < no_partner) (waits_at rs s side c) (order_of s)
      (all_weaken (λ t. t.0 < s.taskcount) (λ t. t.0 < no_partner) (order_of s) (λ t h. omega (arith, h, few)) (order_named bs sound s b a f))

  chan_told : (c : Chan) → c.0 < channel_count bs → PortNumbered (On c)
  chan_told c h = omega (arith, h, sound.most_channels)

  module _ (me : Task) (x : TaskState) where
    send_to_told : (p : Port) (v : ℕ) (next : Row) → PortSound (channel_count bs) p → EachTold rs s me (r.send_to rs rows s p v next)
    unfolding r.send_to
    send_to_told Nil v next h = tt
    send_to_told (On c) v next h =
        send_told rs s me c v next (chan_in s.chans c).closed (first_waiter rs s Receiving c) (r.has_room rs rows s c) (chan_told c h)

    attempt_told : (o : Op) (hit miss : Row) → OpSound (channel_count bs) o → EachTold rs s me (r.attempt rs rows s b x.register o hit miss)
    unfolding r.receive_from
    attempt_told (Send p v) hit miss h = send_to_told p v hit h
    attempt_told (Forward p) hit miss h = send_to_told p x.register hit h
    attempt_told (Recv Nil) hit miss h = tt
    attempt_told (Recv (On c)) hit miss h =
        let k = chan_in s.chans c in
        receive_told rs s me c hit miss (oldest b c) (ltb 0 k.len) (first_waiter rs s Sending c) k.closed (found_told Sending c)

    op_told : (o : Op) (hit miss : Row) → OpSound (channel_count bs) o → Told rs s me (or_wait (r.attempt rs rows s b x.register o hit miss))
    op_told o hit miss h = or_told rs s me (r.attempt rs rows s b x.register o hit miss) (attempt_told o hit miss h)

    close_port_told : (p : Port) (next : Row) → PortSound (channel_count bs) p → Told rs s me (r.close_port rs s p next)
    unfolding r.close_port applied
    close_port_told Nil next h = tt
    close_port_told (On c) next h =
        close_told rs s me c next (chan_in s.chans c).closed (first_waiter rs s Receiving c) (first_waiter rs s Sending c) (chan_told c h)

    -- A select of k cases with the default e, and the row of the case that it takes.
    module _ (k : ℕ) (e : Otherwise) where
      case_told : (i : ℕ) (st : Statement) → StatementSound rs rows (channel_count bs) i st → Told rs s me (plan_by rs rows s b x (Select k e) (case_offer st))
      case_told i (Do o n) h = default_told rs s me e
      case_told i (Close p n) h = default_told rs s me e
      case_told i (Range p n z) h = default_told rs s me e
      case_told i (Repeat d l n z) h = default_told rs s me e
      case_told i (Ifok n z) h = default_told rs s me e
      case_told i (Select l g) h = default_told rs s me e
      case_told i (Case o n) h = op_told o n n h.0
      case_told i Stop h = default_told rs s me e

      chosen_told : (js : List ℕ) (choice : ℕ) → All (λ n. n < rows) js → Told rs s me (plan_by rs rows s b x (Select k e) (r.chosen_of rs rows s js choice))
      chosen_told [] choice h = default_told rs s me e
      chosen_told (j ∷ js) choice h =
          let n : ℕ = get_or (j ∷ js) (choice % length (j ∷ js)) 0 in
          let below : n < rows = all_get (λ i. i < rows) (j ∷ js) (choice % length (j ∷ js)) 0 h (omega (arith, sound.some_rows)) in
          case_told n (rows_in rs (row_no n)) (sound.statements n below)

    act_told : (choice : ℕ) (st : Statement) → StatementSound rs rows (channel_count bs) x.row.0 st
        → Told rs s me (plan_by rs rows s b x st (offer_of rs rows s (x.row.0 + 1) choice st))
    unfolding r.chosen_case r.ready_rows applied
    act_told choice (Do o n) h = op_told o n n h.0
    act_told choice (Close p n) h = close_port_told p n h.0
    act_told choice (Range p n z) h = op_told (Recv p) n z h.0
    act_told choice (Repeat d k n z) h = repeat_told rs s me x d k n z
    act_told choice (Ifok n z) h = tt
    act_told choice (Select k e) h =
        chosen_told k e (keep (r.row_ready rs rows s) (tabulate (λ n. n) k (x.row.0 + 1))) choice
        (all_keep (λ n. n < rows) (r.row_ready rs rows s) (tabulate (λ n. n) k (x.row.0 + 1)) (rw add-one (rows_listed rs rows k (suc x.row.0) h.2)))
    act_told choice (Case o n) h = tt
    act_told choice Stop h = tt

  module _ (t : Task) (choice : ℕ) where
    -- The event of the turn, by why it is refused.
    abbrev TurnTold : Option Refusal → Type 0
    TurnTold y = Numbered (stepped_by rs rows s b t choice y).event

    as_told : t.0 < s.taskcount → (st : Status) → TurnTold (refusal_of st)
    unfolding plan_of
    as_told h Able =
        let x : TaskState = task_in s.tasks t in
        act_told t x choice (rows_in rs x.row) (sound.statements x.row.0 (row_below bs sound s b a f t h))
    as_told h Waiting = omega arith
    as_told h Ended = omega arith

    pub step_told : Numbered (stepped (body_of bs) (row_count bs) s b t choice).event
    unfolding stepped refused_by
    step_told = go (eqb s.fault no_fault) (ltb t.0 s.taskcount) refl
      where
        go : (p q : Bool) → ltb t.0 s.taskcount ≡ q → TurnTold (cond p (cond q (refusal_of (task_in s.tasks t).status) (Some Refusal.NoSuchTask)) (Some Refusal.Halted))
        go true true e = as_told (ltb-true t.0 s.taskcount e) (task_in s.tasks t).status
        go true false e = omega arith
        go false q e = omega arith
