-- Document 01, 'Channel rules' and the turns of 'What comes back': the machine, said once for text and image.
-- It runs over any kind P of control points, the places where a task can stand. A function `look` says what a task at a
-- point does next, and no rule here asks more of a point: Text gives one P and one `look`, Image another.
use Rattle.std.specs.Prelude.{Bool, true, false, cond, List, [], ◌∷◌, ◌++◌, map, ℕ, zero, suc, ◌+◌, ◌%◌, length, get_or, set, ltb, eqb}
use Rattle.std.proofs.Math.Option.{Option, none, some}
use Rattle.std.proofs.Math.ListN.{get_elem?}
use Rattle.meaning.specs.Kinds.{Task, Chan, Port, Nil, On, Op, Send, Forward, Recv, Status, Able, Waiting, Ended, Event, Appended, Handed, Taken, Refilled, Received, Drained, Closed, Waits, Branched, Finished, Faulted, Refused}
use Rattle.meaning.specs.Numbers.{stamp_modulus, halted, no_such_task, has_ended, is_waiting, no_fault, send_on_closed, close_of_nil, close_of_closed, close_under_sender}

-- WHAT A TASK DOES NEXT

-- An operation, and where it leads: to `hit`, but to `miss` from a receive with ok off. Only a range tells the two apart.
pub record Case (P : Type 0) : Type 0 where
  pub op : Op
  pub hit : P
  pub miss : P

-- A select has its cases in text order and perhaps a default. An operation that stands alone, and a range's receive, is a
-- select of one case and no default: it is taken if it wouldn't wait, whatever the choice, and otherwise waits.
pub data Look (P : Type 0) : Type 0 where
  tries : List (Case P) → Option P → Look P
  closes : Port → P → Look P
  branches : P → Look P
  asks : P → P → Look P  -- the ok mark: where to go with it on, and with it off
  ends : Look P

abbrev pub alone : {P : Type 0} → Op → P → P → Look P
alone o hit miss = tries (record { op = o; hit = hit; miss = miss } ∷ []) none

-- THE MACHINE

pub record Standing (P : Type 0) : Type 0 where
  pub status : Status
  pub register : ℕ
  pub ok : Bool
  pub point : P

-- The buffer's values, oldest first.
pub record Channel : Type 0 where
  pub capacity : ℕ
  pub closed : Bool
  pub buffer : List ℕ

-- "One waiting order holds all waiting tasks, longest first." The halt record is the fault and the task named.
pub record Machine (P : Type 0) : Type 0 where
  pub tasks : List (Standing P)
  pub order : List Task
  pub channels : List Channel
  pub fault : ℕ
  pub named : Task
  pub stamp : ℕ

-- A turn's event, and the machine after it.
pub record Turned (P : Type 0) : Type 0 where
  pub event : Event
  pub after : Machine P

-- "A fresh start": registers 0, ok marks off, nobody waiting, channels open and empty, no fault, stamp 0.
unfoldable pub fresh : {P : Type 0} → List ℕ → List P → Machine P
fresh capacities points = record {
  tasks = map (λ p. record { status = Able; register = 0; ok = false; point = p }) points;
  order = [];
  channels = map (λ n. record { capacity = n; closed = false; buffer = [] }) capacities;
  fault = no_fault;
  named = record { 0 = 0 };
  stamp = 0;
}

-- What document 01's demand compares after each turn: everything but the points.
unfoldable pub seen : {P : Type 0} → Machine P → Machine (Unit {0})
seen m = record {
  tasks = map (λ x. record { status = x.status; register = x.register; ok = x.ok; point = tt }) m.tasks;
  order = m.order;
  channels = m.channels;
  fault = m.fault;
  named = m.named;
  stamp = m.stamp;
}

-- Of a turn: the event, and all of the machine but the points.
abbrev pub seen_turn : {P : Type 0} → Turned P → Event × Machine (Unit {0})
seen_turn r = (r.event, seen r.after)

-- OPERATIONS AND CHANNELS

unfoldable pub is_on : Chan → Port → Bool
is_on c Nil = false
is_on c (On d) = eqb c.0 d.0

unfoldable pub receives_on : Chan → Op → Bool
receives_on c (Send p v) = false
receives_on c (Forward p) = false
receives_on c (Recv p) = is_on c p

unfoldable pub sends_on : Chan → Op → Bool
sends_on c (Send p v) = is_on c p
sends_on c (Forward p) = is_on c p
sends_on c (Recv p) = false

-- What an operation sends from a task with this register: "`forward C` (sends the register)".
unfoldable pub payload : Op → ℕ → ℕ
payload (Send p v) register = v
payload (Forward p) register = register
payload (Recv p) register = 0

abbrev pub channel_at : List Channel → Chan → Channel
channel_at cs c = get_or cs c.0 (record { capacity = 0; closed = false; buffer = [] })

abbrev pub holding : List ℕ → Channel → Channel
holding b c = record { capacity = c.capacity; closed = c.closed; buffer = b }

-- "The buffer is kept."
abbrev pub shut : Channel → Channel
shut c = record { capacity = c.capacity; closed = true; buffer = c.buffer }

-- "Length below capacity"
abbrev pub has_room : Channel → Bool
has_room c = ltb (length c.buffer) c.capacity

-- The order with a task taken out of it.
unfoldable pub without : Task → List Task → List Task
without t [] = []
without t (u ∷ us) = cond (eqb t.0 u.0) (without t us) (u ∷ without t us)

-- A waiting task, how it stands, and the case by which it would be woken.
pub record Waiter (P : Type 0) : Type 0 where
  pub who : Task
  pub standing : Standing P
  pub by : Case P

-- CHANGES TO A TASK AND TO THE MACHINE

module _ {P : Type 0} where
  -- The task has received v by this case and moves on: its register is the value received, its mark says whether it was one.
  abbrev pub gets : ℕ → Bool → Case P → Standing P
  gets v true k = record { status = Able; register = v; ok = true; point = k.hit }
  gets v false k = record { status = Able; register = v; ok = false; point = k.miss }

  -- The task moves on, its register and mark kept.
  abbrev pub goes : P → Standing P → Standing P
  goes p x = record { status = Able; register = x.register; ok = x.ok; point = p }

  -- The task stays where it is, and waits or has ended.
  abbrev pub stays : Status → Standing P → Standing P
  stays s x = record { status = s; register = x.register; ok = x.ok; point = x.point }

  abbrev pub put : Task → Standing P → Machine P → Machine P
  put t x m = record { tasks = set m.tasks t.0 x; order = m.order; channels = m.channels; fault = m.fault; named = m.named; stamp = m.stamp }

  abbrev pub queue : List Task → Machine P → Machine P
  queue o m = record { tasks = m.tasks; order = o; channels = m.channels; fault = m.fault; named = m.named; stamp = m.stamp }

  abbrev pub store : Chan → Channel → Machine P → Machine P
  store c k m = record { tasks = m.tasks; order = m.order; channels = set m.channels c.0 k; fault = m.fault; named = m.named; stamp = m.stamp }

  abbrev pub halt : ℕ → Task → Machine P → Machine P
  halt f t m = record { tasks = m.tasks; order = m.order; channels = m.channels; fault = f; named = t; stamp = m.stamp }

  -- "The stamp .. rises by one at each turn not refused, and 65,535 is followed by 0."
  abbrev pub tick : Machine P → Machine P
  tick m = record { tasks = m.tasks; order = m.order; channels = m.channels; fault = m.fault; named = m.named; stamp = (m.stamp + 1) % stamp_modulus }

  abbrev pub did : Event → Machine P → Turned P
  did e m = record { event = e; after = tick m }

  -- "Refused turns, unused fields, state kept"
  abbrev pub refused : ℕ → Machine P → Turned P
  refused n m = record { event = Refused n; after = m }

  -- "A woken task finishes its operation, leaves the order and moves on in the waker's turn." Standing x is how it moves on.
  abbrev pub wake : Waiter P → Standing P → Machine P → Machine P
  wake w x m = put w.who x (queue (without w.who m.order) m)

  -- "all such tasks wake in order with 0, ok off"
  unfoldable pub wake_all : List (Waiter P) → Machine P → Machine P
  wake_all [] m = m
  wake_all (w ∷ ws) m = wake_all ws (wake w (gets 0 false w.by) m)

  -- What a waiting sender sends, and how it then moves on.
  abbrev pub sent_by : Waiter P → ℕ
  sent_by w = payload w.by.op w.standing.register

  abbrev pub sender : Waiter P → Standing P
  sender w = goes w.by.hit w.standing

  -- THE RULES. The mover `me` stands as x in the machine m. Each rule takes what it asks, in the document's order, and
  -- answers the turn; an operation answers none where it would wait.
  module _ (me : Task) (x : Standing P) (m : Machine P) where
    -- The machine with the mover moved on to p; with the value v received by the case k, ok on or off.
    abbrev pub moved : P → Machine P
    moved p = put me (goes p x) m

    abbrev pub took : ℕ → Bool → Case P → Machine P
    took v b k = put me (gets v b k) m

    abbrev pub channel : Chan → Channel
    channel c = channel_at m.channels c

    -- "A fault halts the machine. Faults change nothing but the halt record (fault number, task named: the mover) and the
    -- stamp."
    abbrev pub fails : ℕ → Port → Turned P
    fails f p = did (Faulted p f me) (halt f me m)

    -- send of v on c by the case k: is c closed; who waits to receive on c; is there room in its buffer?
    unfoldable pub send_on : Chan → ℕ → Case P → Bool → List (Waiter P) → Bool → Option (Turned P)
    -- "Closed: fault 1."
    send_on c v k true rs b = some (fails send_on_closed (On c))
    -- "A task waits to receive: the first gets the value, ok on."
    send_on c v k false (r ∷ rs) b = some (did (Handed c v r.who) (wake r (gets v true r.by) (moved k.hit)))
    -- "Length below capacity: append."
    send_on c v k false [] true = some (did (Appended c v) (store c (holding ((channel c).buffer ++ v ∷ []) (channel c)) (moved k.hit)))
    -- "Otherwise wait."
    send_on c v k false [] false = none

    -- receive on c by the case k: what its buffer holds; who waits to send on c; is c closed?
    unfoldable pub receive_on : Chan → Case P → List ℕ → List (Waiter P) → Bool → Option (Turned P)
    -- "Buffer not empty (closed or not): take the oldest, ok on; if a task waits to send, the first one's value is appended
    -- and it wakes."
    receive_on c k (v ∷ vs) (s ∷ ss) b = some (did (Refilled c v s.who) (wake s (sender s) (store c (holding (vs ++ sent_by s ∷ []) (channel c)) (took v true k))))
    receive_on c k (v ∷ vs) [] b = some (did (Taken c v) (store c (holding vs (channel c)) (took v true k)))
    -- "Buffer empty and a task waits to send: take its value, ok on."
    receive_on c k [] (s ∷ ss) b = some (did (Received c (sent_by s) s.who) (wake s (sender s) (took (sent_by s) true k)))
    -- "Closed: value 0, ok off."
    receive_on c k [] [] true = some (did (Drained c) (took 0 false k))
    -- "Otherwise wait."
    receive_on c k [] [] false = none

    -- close of c, then to p: is c closed; who waits to receive on c; who waits to send on c?
    unfoldable pub close_on : Chan → P → Bool → List (Waiter P) → List (Waiter P) → Turned P
    -- "Closed: fault 3."
    close_on c p true rs ss = fails close_of_closed (On c)
    -- "Any task waits to receive: close, and all such tasks wake in order with 0, ok off." "6 closed (value = tasks woken)"
    close_on c p false (r ∷ rs) ss = did (Closed c (length (r ∷ rs))) (wake_all (r ∷ rs) (store c (shut (channel c)) (moved p)))
    -- "Otherwise, any task waits to send: fault 4, the channel stays open."
    close_on c p false [] (s ∷ ss) = fails close_under_sender (On c)
    -- "Otherwise close."
    close_on c p false [] [] = did (Closed c 0) (store c (shut (channel c)) (moved p))

    -- select: the turns of its ready cases in text order, its default, and the choice.
    unfoldable pub choose : List (Turned P) → Option P → ℕ → Turned P
    -- "With k > 0 ready, take ready case number (choice mod k), counted from 0 in text order."
    choose (r ∷ rs) d choice = get_or (r ∷ rs) (choice % length (r ∷ rs)) r
    -- "With none: default if there is one,"
    choose [] (some p) choice = did Branched (moved p)
    -- "otherwise wait": at the end of the order.
    choose [] none choice = did Waits (put me (stays Waiting x) (queue (m.order ++ me ∷ []) m))

  unfoldable pub cases_of : Look P → List (Case P)
  cases_of (tries ks d) = ks
  cases_of (closes p n) = []
  cases_of (branches n) = []
  cases_of (asks y n) = []
  cases_of ends = []

  -- "A woken select takes its first matching case in text order."
  unfoldable pub first_case : (Op → Bool) → List (Case P) → Option (Case P)
  first_case fits [] = none
  first_case fits (k ∷ ks) = cond (fits k.op) (some k) (first_case fits ks)

  unfoldable pub waiter_by : Task → Standing P → Option (Case P) → List (Waiter P)
  waiter_by t x none = []
  waiter_by t x (some k) = record { who = t; standing = x; by = k } ∷ []

  unfoldable pub add_if : Option (Turned P) → List (Turned P) → List (Turned P)
  add_if none rs = rs
  add_if (some r) rs = r ∷ rs

module _ {P : Type 0} (look : P → Look P) where
  unfoldable pub waiter_at : (Op → Bool) → Task → Option (Standing P) → List (Waiter P)
  waiter_at fits t none = []
  waiter_at fits t (some x) = waiter_by t x (first_case fits (cases_of (look x.point)))

  unfoldable pub waiters_in : (Op → Bool) → List (Standing P) → List Task → List (Waiter P)
  waiters_in fits xs [] = []
  waiters_in fits xs (t ∷ ts) = waiter_at fits t (get_elem? xs t.0) ++ waiters_in fits xs ts

  -- "'Waits on c to receive' means the task is waiting at a recv, range, or select with a recv case on c; likewise to send.
  -- .. 'First' below means first in" the order: the waiting tasks with an operation that fits, longest first.
  -- The order names waiting tasks alone and a mover is able to move, so the mover is never its own partner.
  unfoldable pub waiters : (Op → Bool) → Machine P → List (Waiter P)
  waiters fits m = waiters_in fits m.tasks m.order

  -- A turn of `me`, which stands as x in the machine m, with this choice.
  module _ (me : Task) (choice : ℕ) (x : Standing P) (m : Machine P) where
    unfoldable pub send_to : Port → ℕ → Case P → Option (Turned P)
    -- send on c, "nil: wait."
    send_to Nil v k = none
    send_to (On c) v k = send_on me x m c v k (channel_at m.channels c).closed (waiters (receives_on c) m) (has_room (channel_at m.channels c))

    unfoldable pub receive_from : Port → Case P → Option (Turned P)
    -- receive on c, "nil: wait."
    receive_from Nil k = none
    receive_from (On c) k = receive_on me x m c k (channel_at m.channels c).buffer (waiters (sends_on c) m) (channel_at m.channels c).closed

    -- The turn that an operation would make, or none where it would wait.
    unfoldable pub attempt : Op → Case P → Option (Turned P)
    attempt (Send p v) k = send_to p v k
    attempt (Forward p) k = send_to p x.register k
    attempt (Recv p) k = receive_from p k

    -- "a case is ready if its operation alone wouldn't wait (a send on a closed channel is ready and faults)"
    unfoldable pub ready : List (Case P) → List (Turned P)
    ready [] = []
    ready (k ∷ ks) = add_if (attempt k.op k) (ready ks)

    unfoldable pub close : Port → P → Turned P
    -- close c, "nil: fault 2."
    close Nil p = fails me x m close_of_nil Nil
    close (On c) p = close_on me x m c p (channel_at m.channels c).closed (waiters (receives_on c) m) (waiters (sends_on c) m)

    unfoldable pub act : Look P → Turned P
    act (tries ks d) = choose me x m (ready ks) d choice
    act (closes p n) = close p n
    act (branches p) = did Branched (moved me x m p)
    act (asks y n) = did Branched (moved me x m (cond x.ok y n))
    act ends = did Finished (put me (stays Ended x) m)

    -- "16 ended, 15 waiting"
    unfoldable pub turn_as : Status → Turned P
    turn_as Ended = refused has_ended m
    turn_as Waiting = refused is_waiting m
    turn_as Able = act (look x.point)

  unfoldable pub turn_of : Task → ℕ → Machine P → Option (Standing P) → Turned P
  turn_of t choice m none = refused no_such_task m
  turn_of t choice m (some x) = turn_as t choice x m x.status

  unfoldable pub turn_if : Task → ℕ → Machine P → ℕ → Turned P
  turn_if t choice m (suc f) = refused halted m
  turn_if t choice m zero = turn_of t choice m (get_elem? m.tasks t.0)

  -- One turn of task t with a choice. Refused "in this order: .. 13 machine halted, 14 no such task, 16 ended, 15 waiting".
  unfoldable pub turn : Task → ℕ → Machine P → Turned P
  turn t choice m = turn_if t choice m m.fault

  -- The turns of a schedule, a list of tasks and choices.
  unfoldable pub runs : List (Task × ℕ) → Machine P → List (Turned P)
  runs [] m = []
  runs (s ∷ ss) m = turn s.0 s.1 m ∷ runs ss (turn s.0 s.1 m).after
