-- The definitions compute. Worked jobs of document 01 and of the buyer's vectors, each with the listing that it must print:
-- one table, one claim, for the text and for the image read from its bytes. Behind it: what a listing does not show, and the bytes
-- of images, each a table under a claim of its own.
use Rattle.std.specs.Prelude.{◌≡◌, refl, Bool, true, false, List, [], ◌∷◌, ◌++◌, map, ℕ, suc, length}
use Rattle.meaning.specs.Kinds.{Task, Port, Nil, On, Send, Forward, Recv, Waiting, Ended}
use Rattle.meaning.specs.Events.{numbers}
use Rattle.meaning.specs.Statuses.{status_number}
use Rattle.meaning.specs.Machine.{Standing, Channel, Machine, Turned, is_on, receives_on, sends_on, payload, without, wake_all, send_on, receive_on, close_on, choose, cases_of, first_case, waiter_by, add_if, waiter_at, waiters_in, waiters, send_to, receive_from, attempt, ready, act, turn_as, turn_of, turn_if, runs, fresh}
use Rattle.meaning.specs.Machine as m
use Rattle.meaning.specs.Bytes as b
use Rattle.meaning.specs.Text.{operate, close, stop, range, repeat, ifok, select, Body, empty, ◌▸◌, nomore, default, case, Job, Remainder, enter, text_repeat, text_cases, text_default, text_stmt, text_item, text_look, text_start}
use Rattle.meaning.specs.Image.{Spot, image_case, image_cases, image_default, image_repeat, image_statement, image_look, image_start}
use Rattle.meaning.specs.Layout.{case_count, size_b, entry, case_rows, default_row, rows_b, rows_t, first_rows}
use Rattle.meaning.specs.Bytes.{fields_of, statement_of, row_bytes, first_bytes, image_bytes, job_image, trailer_of, row_count, channel_count, task_count, distance, body_of, fields_of_row, rows_in, capacity_in, first_row_in, rows_of, capacities_of, first_rows_of, start_of}

-- A LISTING, as document 01 prints it ('A listing, whole'), with R for what stands for a row.

abbrev Line : Type 0
Line = List ℕ

record Listing (R : Type 0) : Type 0 where
  turns : List Line
  tasks : List (Line × R)
  channels : List Line
  stamps : Line

-- pair number, task, event, channel, value, partner
abbrev turn : ℕ → ℕ → ℕ → ℕ → ℕ → ℕ → Line
turn n t e c v q = n ∷ t ∷ e ∷ c ∷ v ∷ q ∷ []

-- task, status (0 able to move, 1 waiting, 2 ended), register, ok, row
abbrev task : {R : Type 0} → ℕ → ℕ → ℕ → ℕ → R → Line × R
task t s r k i = (t ∷ s ∷ r ∷ k ∷ [], i)

-- channel, closed, length, values oldest first
abbrev chan : ℕ → ℕ → ℕ → List ℕ → Line
chan c k n vs = c ∷ k ∷ n ∷ vs

-- stamp and fault
abbrev stamp : ℕ → ℕ → Line
stamp s f = s ∷ f ∷ []

abbrev flag : Bool → ℕ
flag false = 0
flag true = 1

abbrev Schedule : Type 0
Schedule = List (Task × ℕ)

module _ {P R : Type 0} (place : P → R) where
  turn_lines : ℕ → Schedule → List (Turned P) → List Line
  turn_lines n [] rs = []
  turn_lines n (s ∷ ss) [] = []
  turn_lines n (s ∷ ss) (r ∷ rs) = let e = numbers r.event in turn n s.0.0 e.number e.channel e.value e.partner ∷ turn_lines (suc n) ss rs

  task_lines : ℕ → List (Standing P) → List (Line × R)
  task_lines n [] = []
  task_lines n (x ∷ xs) = task n (status_number x.status) x.register (flag x.ok) (place x.point) ∷ task_lines (suc n) xs

  channel_lines : ℕ → List Channel → List Line
  channel_lines n [] = []
  channel_lines n (c ∷ cs) = chan n (flag c.closed) (length c.buffer) c.buffer ∷ channel_lines (suc n) cs

  last : Machine P → List (Turned P) → Machine P
  last k [] = k
  last k (r ∷ rs) = last r.after rs

  listing : (P → m.Look P) → Schedule → Machine P → Listing R
  listing look ss k =
      let rs = runs look ss k in
      let z = last k rs in
      record { turns = turn_lines 0 ss rs; tasks = task_lines 0 z.tasks; channels = channel_lines 0 z.channels; stamps = stamp z.stamp z.fault }

-- THE TABLE

-- A job with its listing: the stamp at the start (0, but where the example is about the stamp), capacities, tasks, schedule,
-- then the lines of the turns, tasks, channels and stamp.
record Example : Type 0 where
  from : ℕ
  job : Job
  schedule : Schedule
  tabulate : Listing ℕ

abbrev example : ℕ → List ℕ → List Body → Schedule → List Line → List (Line × ℕ) → List Line → Line → Example
example n caps bodies ss turns tasks channels stamps = record { from = n; job = record { capacities = caps; tasks = bodies }; schedule = ss; tabulate = record { turns = turns; tasks = tasks; channels = channels; stamps = stamps } }

abbrev on : ℕ → Port
on c = On (record { 0 = c })

-- task and choice
abbrev at : ℕ → ℕ → Task × ℕ
at t choice = (record { 0 = t }, choice)

abbrev examples : List Example
examples =
    -- P7: task recv nil end
    example 0 [] ((operate (Recv Nil) ▸ empty) ∷ [])
    (at 0 0 ∷ [])
    (turn 0 0 7 255 0 255 ∷ [])
    (task 0 1 0 0 0 ∷ []) [] (stamp 1 0)
    ∷
    -- P8: task close nil end
    example 0 [] ((close Nil ▸ empty) ∷ [])
    (at 0 0 ∷ [])
    (turn 0 0 10 255 2 0 ∷ [])
    (task 0 0 0 0 0 ∷ []) [] (stamp 1 2)
    ∷
    -- P9: chan 0 task select case send 0 1 case recv 0 end end
    example 0 (0 ∷ []) ((select (case (Send (on 0) 1) empty (case (Recv (on 0)) empty nomore)) ▸ empty) ∷ [])
    (at 0 0 ∷ [])
    (turn 0 0 7 255 0 255 ∷ [])
    (task 0 1 0 0 0 ∷ []) (chan 0 0 0 [] ∷ []) (stamp 1 0)
    ∷
    -- P10: task repeat 0 end end
    example 0 [] ((repeat 0 empty ▸ empty) ∷ [])
    (at 0 0 ∷ at 0 0 ∷ [])
    (turn 0 0 8 255 0 255 ∷ turn 1 0 9 255 0 255 ∷ [])
    (task 0 2 0 0 1 ∷ []) [] (stamp 2 0)
    ∷
    -- The listing of document 01, whole; P11 is its turns 3 to 6: chan 1 task send 0 7 send 0 9 close 0 end task range 0 end end
    example 0 (1 ∷ []) ((operate (Send (on 0) 7) ▸ operate (Send (on 0) 9) ▸ close (on 0) ▸ empty) ∷ (range (on 0) empty ▸ empty) ∷ [])
    (at 0 0 ∷ at 0 0 ∷ at 0 0 ∷ at 1 0 ∷ at 0 0 ∷ at 1 0 ∷ at 1 0 ∷ at 1 0 ∷ at 0 0 ∷ [])
    (turn 0 0 1 0 7 255 ∷ turn 1 0 7 255 0 255 ∷ turn 2 0 15 255 0 255 ∷ turn 3 1 3 0 7 0 ∷ turn 4 0 6 0 0 255 ∷ turn 5 1 3 0 9 255 ∷ turn 6 1 5 0 0 255 ∷ turn 7 1 9 255 0 255 ∷ turn 8 0 9 255 0 255 ∷ [])
    (task 0 2 0 0 3 ∷ task 1 2 0 0 5 ∷ []) (chan 0 1 0 [] ∷ []) (stamp 8 0)
    ∷
    -- P12: chan 1 chan 1 task select case send 0 1 case send 1 2 end end
    example 0 (1 ∷ 1 ∷ []) ((select (case (Send (on 0) 1) empty (case (Send (on 1) 2) empty nomore)) ▸ empty) ∷ [])
    (at 0 255 ∷ [])
    (turn 0 0 1 1 2 255 ∷ [])
    (task 0 0 0 0 3 ∷ []) (chan 0 0 0 [] ∷ chan 1 0 1 (2 ∷ []) ∷ []) (stamp 1 0)
    ∷
    -- fault 1: chan 2 task close 0 send 0 5 end
    example 0 (2 ∷ []) ((close (on 0) ▸ operate (Send (on 0) 5) ▸ empty) ∷ [])
    (at 0 0 ∷ at 0 0 ∷ [])
    (turn 0 0 6 0 0 255 ∷ turn 1 0 10 0 1 0 ∷ [])
    (task 0 0 0 0 1 ∷ []) (chan 0 1 0 [] ∷ []) (stamp 2 1)
    ∷
    -- fault 1 in a select: chan 2 task close 0 select case send 0 5 end end
    example 0 (2 ∷ []) ((close (on 0) ▸ select (case (Send (on 0) 5) empty nomore) ▸ empty) ∷ [])
    (at 0 0 ∷ at 0 0 ∷ [])
    (turn 0 0 6 0 0 255 ∷ turn 1 0 10 0 1 0 ∷ [])
    (task 0 0 0 0 1 ∷ []) (chan 0 1 0 [] ∷ []) (stamp 2 1)
    ∷
    -- fault 2: task stop end task close nil end
    example 0 [] ((stop ▸ empty) ∷ (close Nil ▸ empty) ∷ [])
    (at 0 0 ∷ at 1 0 ∷ [])
    (turn 0 0 9 255 0 255 ∷ turn 1 1 10 255 2 1 ∷ [])
    (task 0 2 0 0 0 ∷ task 1 0 0 0 2 ∷ []) [] (stamp 2 2)
    ∷
    -- fault 3: chan 2 task close 0 close 0 end
    example 0 (2 ∷ []) ((close (on 0) ▸ close (on 0) ▸ empty) ∷ [])
    (at 0 0 ∷ at 0 0 ∷ [])
    (turn 0 0 6 0 0 255 ∷ turn 1 0 10 0 3 0 ∷ [])
    (task 0 0 0 0 1 ∷ []) (chan 0 1 0 [] ∷ []) (stamp 2 3)
    ∷
    -- fault 4, the channel stays open: chan 0 task send 0 5 end task close 0 end
    example 0 (0 ∷ []) ((operate (Send (on 0) 5) ▸ empty) ∷ (close (on 0) ▸ empty) ∷ [])
    (at 0 0 ∷ at 1 0 ∷ [])
    (turn 0 0 7 255 0 255 ∷ turn 1 1 10 0 4 1 ∷ [])
    (task 0 1 0 0 0 ∷ task 1 0 0 0 2 ∷ []) (chan 0 0 0 [] ∷ []) (stamp 2 4)
    ∷
    -- refused by 13: task close nil end task stop end
    example 0 [] ((close Nil ▸ empty) ∷ (stop ▸ empty) ∷ [])
    (at 0 0 ∷ at 1 0 ∷ at 0 0 ∷ [])
    (turn 0 0 10 255 2 0 ∷ turn 1 1 13 255 0 255 ∷ turn 2 0 13 255 0 255 ∷ [])
    (task 0 0 0 0 0 ∷ task 1 0 0 0 2 ∷ []) [] (stamp 1 2)
    ∷
    -- refused by 14: task stop end
    example 0 [] ((stop ▸ empty) ∷ [])
    (at 1 0 ∷ at 0 0 ∷ [])
    (turn 0 1 14 255 0 255 ∷ turn 1 0 9 255 0 255 ∷ [])
    (task 0 2 0 0 0 ∷ []) [] (stamp 1 0)
    ∷
    -- refused by 15: task recv nil stop end
    example 0 [] ((operate (Recv Nil) ▸ stop ▸ empty) ∷ [])
    (at 0 0 ∷ at 0 0 ∷ [])
    (turn 0 0 7 255 0 255 ∷ turn 1 0 15 255 0 255 ∷ [])
    (task 0 1 0 0 0 ∷ []) [] (stamp 1 0)
    ∷
    -- refused by 16: task stop end
    example 0 [] ((stop ▸ empty) ∷ [])
    (at 0 0 ∷ at 0 0 ∷ [])
    (turn 0 0 9 255 0 255 ∷ turn 1 0 16 255 0 255 ∷ [])
    (task 0 2 0 0 0 ∷ []) [] (stamp 1 0)
    ∷
    -- stamp 65,535 is followed by 0, at a fault too: task repeat 0 end close nil end
    example 65534 [] ((repeat 0 empty ▸ close Nil ▸ empty) ∷ [])
    (at 0 0 ∷ at 0 0 ∷ [])
    (turn 0 0 8 255 0 255 ∷ turn 1 0 10 255 2 0 ∷ [])
    (task 0 0 0 0 1 ∷ []) [] (stamp 0 2)
    ∷
    -- a select woken as receiver takes its first matching case: chan 0 task select case recv 0 stop case recv 0 end end task send 0 1 end
    example 0 (0 ∷ []) ((select (case (Recv (on 0)) (stop ▸ empty) (case (Recv (on 0)) empty nomore)) ▸ empty) ∷ (operate (Send (on 0) 1) ▸ empty) ∷ [])
    (at 0 0 ∷ at 1 0 ∷ at 0 0 ∷ [])
    (turn 0 0 7 255 0 255 ∷ turn 1 1 2 0 1 0 ∷ turn 2 0 9 255 0 255 ∷ [])
    (task 0 2 1 1 3 ∷ task 1 0 0 0 6 ∷ []) (chan 0 0 0 [] ∷ []) (stamp 3 0)
    ∷
    -- a select woken as sender takes its first matching case: chan 0 task select case send 0 5 stop case send 0 6 end end task recv 0 end
    example 0 (0 ∷ []) ((select (case (Send (on 0) 5) (stop ▸ empty) (case (Send (on 0) 6) empty nomore)) ▸ empty) ∷ (operate (Recv (on 0)) ▸ empty) ∷ [])
    (at 0 0 ∷ at 1 0 ∷ at 0 0 ∷ [])
    (turn 0 0 7 255 0 255 ∷ turn 1 1 4 0 5 0 ∷ turn 2 0 9 255 0 255 ∷ [])
    (task 0 2 0 0 3 ∷ task 1 0 5 1 6 ∷ []) (chan 0 0 0 [] ∷ []) (stamp 3 0)
    ∷
    -- a woken select forwards its register: chan 1 chan 0 task send 0 7 recv 0 select case forward 1 end end task recv 1 end
    example 0 (1 ∷ 0 ∷ []) ((operate (Send (on 0) 7) ▸ operate (Recv (on 0)) ▸ select (case (Forward (on 1)) empty nomore) ▸ empty) ∷ (operate (Recv (on 1)) ▸ empty) ∷ [])
    (at 0 0 ∷ at 0 0 ∷ at 0 0 ∷ at 1 0 ∷ [])
    (turn 0 0 1 0 7 255 ∷ turn 1 0 3 0 7 255 ∷ turn 2 0 7 255 0 255 ∷ turn 3 1 4 1 7 0 ∷ [])
    (task 0 0 7 1 4 ∷ task 1 0 7 1 6 ∷ []) (chan 0 0 0 [] ∷ chan 1 0 0 [] ∷ []) (stamp 4 0)
    ∷
    -- a close wakes three: chan 0 task recv 0 end task range 0 end end task select case recv 0 end end task close 0 end
    example 0 (0 ∷ []) ((operate (Recv (on 0)) ▸ empty) ∷ (range (on 0) empty ▸ empty) ∷ (select (case (Recv (on 0)) empty nomore) ▸ empty) ∷ (close (on 0) ▸ empty) ∷ [])
    (at 1 0 ∷ at 0 0 ∷ at 2 0 ∷ at 3 0 ∷ [])
    (turn 0 1 7 255 0 255 ∷ turn 1 0 7 255 0 255 ∷ turn 2 2 7 255 0 255 ∷ turn 3 3 6 0 3 255 ∷ [])
    (task 0 0 0 0 1 ∷ task 1 0 0 0 3 ∷ task 2 0 0 0 6 ∷ task 3 0 0 0 8 ∷ []) (chan 0 1 0 [] ∷ []) (stamp 4 0)
    ∷
    -- a range ended by a close that kept the values: chan 2 task send 0 1 send 0 2 close 0 end task range 0 end end
    example 0 (2 ∷ []) ((operate (Send (on 0) 1) ▸ operate (Send (on 0) 2) ▸ close (on 0) ▸ empty) ∷ (range (on 0) empty ▸ empty) ∷ [])
    (at 0 0 ∷ at 0 0 ∷ at 0 0 ∷ at 1 0 ∷ at 1 0 ∷ at 1 0 ∷ at 1 0 ∷ [])
    (turn 0 0 1 0 1 255 ∷ turn 1 0 1 0 2 255 ∷ turn 2 0 6 0 0 255 ∷ turn 3 1 3 0 1 255 ∷ turn 4 1 3 0 2 255 ∷ turn 5 1 5 0 0 255 ∷ turn 6 1 9 255 0 255 ∷ [])
    (task 0 0 0 0 3 ∷ task 1 2 0 0 5 ∷ []) (chan 0 1 0 [] ∷ []) (stamp 7 0)
    ∷
    -- a range with a body: chan 2 chan 2 task send 0 1 send 0 2 close 0 end task range 0 forward 1 end end
    example 0 (2 ∷ 2 ∷ []) ((operate (Send (on 0) 1) ▸ operate (Send (on 0) 2) ▸ close (on 0) ▸ empty) ∷ (range (on 0) (operate (Forward (on 1)) ▸ empty) ▸ empty) ∷ [])
    (at 0 0 ∷ at 0 0 ∷ at 0 0 ∷ at 1 0 ∷ at 1 0 ∷ at 1 0 ∷ at 1 0 ∷ at 1 0 ∷ at 1 0 ∷ [])
    (turn 0 0 1 0 1 255 ∷ turn 1 0 1 0 2 255 ∷ turn 2 0 6 0 0 255 ∷ turn 3 1 3 0 1 255 ∷ turn 4 1 1 1 1 255 ∷ turn 5 1 3 0 2 255 ∷ turn 6 1 1 1 2 255 ∷ turn 7 1 5 0 0 255 ∷ turn 8 1 9 255 0 255 ∷ [])
    (task 0 0 0 0 3 ∷ task 1 2 0 0 6 ∷ []) (chan 0 1 0 [] ∷ chan 1 0 2 (1 ∷ 2 ∷ []) ∷ []) (stamp 9 0)
    ∷
    -- nested repeats: chan 8 task repeat 2 repeat 2 send 0 1 end end end
    example 0 (8 ∷ []) ((repeat 2 (repeat 2 (operate (Send (on 0) 1) ▸ empty) ▸ empty) ▸ empty) ∷ [])
    (at 0 0 ∷ at 0 0 ∷ at 0 0 ∷ at 0 0 ∷ at 0 0 ∷ at 0 0 ∷ at 0 0 ∷ at 0 0 ∷ at 0 0 ∷ at 0 0 ∷ at 0 0 ∷ at 0 0 ∷ at 0 0 ∷ [])
    (turn 0 0 8 255 0 255 ∷ turn 1 0 8 255 0 255 ∷ turn 2 0 1 0 1 255 ∷ turn 3 0 8 255 0 255 ∷ turn 4 0 1 0 1 255 ∷ turn 5 0 8 255 0 255 ∷ turn 6 0 8 255 0 255 ∷ turn 7 0 8 255 0 255 ∷ turn 8 0 1 0 1 255 ∷ turn 9 0 8 255 0 255 ∷ turn 10 0 1 0 1 255 ∷ turn 11 0 8 255 0 255 ∷ turn 12 0 8 255 0 255 ∷ [])
    (task 0 0 0 0 3 ∷ []) (chan 0 0 4 (1 ∷ 1 ∷ 1 ∷ 1 ∷ []) ∷ []) (stamp 13 0)
    ∷
    -- a repeat entered again: task repeat 2 repeat 1 end end end
    example 0 [] ((repeat 2 (repeat 1 empty ▸ empty) ▸ empty) ∷ [])
    (at 0 0 ∷ at 0 0 ∷ at 0 0 ∷ at 0 0 ∷ at 0 0 ∷ at 0 0 ∷ at 0 0 ∷ at 0 0 ∷ at 0 0 ∷ at 0 0 ∷ [])
    (turn 0 0 8 255 0 255 ∷ turn 1 0 8 255 0 255 ∷ turn 2 0 8 255 0 255 ∷ turn 3 0 8 255 0 255 ∷ turn 4 0 8 255 0 255 ∷ turn 5 0 8 255 0 255 ∷ turn 6 0 8 255 0 255 ∷ turn 7 0 9 255 0 255 ∷ turn 8 0 16 255 0 255 ∷ turn 9 0 16 255 0 255 ∷ [])
    (task 0 2 0 0 2 ∷ []) [] (stamp 8 0)
    ∷
    -- a refill by the first waiting sender: chan 1 task send 0 1 end task send 0 2 end task send 0 3 end task recv 0 end
    example 0 (1 ∷ []) ((operate (Send (on 0) 1) ▸ empty) ∷ (operate (Send (on 0) 2) ▸ empty) ∷ (operate (Send (on 0) 3) ▸ empty) ∷ (operate (Recv (on 0)) ▸ empty) ∷ [])
    (at 0 0 ∷ at 2 0 ∷ at 1 0 ∷ at 3 0 ∷ [])
    (turn 0 0 1 0 1 255 ∷ turn 1 2 7 255 0 255 ∷ turn 2 1 7 255 0 255 ∷ turn 3 3 3 0 1 2 ∷ [])
    (task 0 0 0 0 1 ∷ task 1 1 0 0 2 ∷ task 2 0 0 0 5 ∷ task 3 0 1 1 7 ∷ []) (chan 0 0 1 (3 ∷ []) ∷ []) (stamp 4 0)
    ∷
    -- the waiting order: chan 0 task recv 0 recv 0 end task recv 0 end task send 0 1 send 0 2 send 0 3 end
    example 0 (0 ∷ []) ((operate (Recv (on 0)) ▸ operate (Recv (on 0)) ▸ empty) ∷ (operate (Recv (on 0)) ▸ empty) ∷ (operate (Send (on 0) 1) ▸ operate (Send (on 0) 2) ▸ operate (Send (on 0) 3) ▸ empty) ∷ [])
    (at 0 0 ∷ at 1 0 ∷ at 2 0 ∷ at 0 0 ∷ at 2 0 ∷ at 2 0 ∷ at 2 0 ∷ [])
    (turn 0 0 7 255 0 255 ∷ turn 1 1 7 255 0 255 ∷ turn 2 2 2 0 1 0 ∷ turn 3 0 7 255 0 255 ∷ turn 4 2 2 0 2 1 ∷ turn 5 2 2 0 3 0 ∷ turn 6 2 9 255 0 255 ∷ [])
    (task 0 0 3 1 2 ∷ task 1 0 2 1 4 ∷ task 2 2 0 0 8 ∷ []) (chan 0 0 0 [] ∷ []) (stamp 7 0)
    ∷
    -- a value is handed over though there is room: chan 2 task recv 0 end task send 0 5 end
    example 0 (2 ∷ []) ((operate (Recv (on 0)) ▸ empty) ∷ (operate (Send (on 0) 5) ▸ empty) ∷ [])
    (at 0 0 ∷ at 1 0 ∷ [])
    (turn 0 0 7 255 0 255 ∷ turn 1 1 2 0 5 0 ∷ [])
    (task 0 0 5 1 1 ∷ task 1 0 0 0 3 ∷ []) (chan 0 0 0 [] ∷ []) (stamp 2 0)
    ∷
    -- a zero from a closed channel has ok off: chan 1 task close 0 recv 0 ifok stop else recv nil end end
    example 0 (1 ∷ []) ((close (on 0) ▸ operate (Recv (on 0)) ▸ ifok (stop ▸ empty) (operate (Recv Nil) ▸ empty) ▸ empty) ∷ [])
    (at 0 0 ∷ at 0 0 ∷ at 0 0 ∷ at 0 0 ∷ [])
    (turn 0 0 6 0 0 255 ∷ turn 1 0 5 0 0 255 ∷ turn 2 0 8 255 0 255 ∷ turn 3 0 7 255 0 255 ∷ [])
    (task 0 1 0 0 4 ∷ []) (chan 0 1 0 [] ∷ []) (stamp 4 0)
    ∷
    -- forward sends the register: chan 2 task send 0 5 recv 0 forward 0 end
    example 0 (2 ∷ []) ((operate (Send (on 0) 5) ▸ operate (Recv (on 0)) ▸ operate (Forward (on 0)) ▸ empty) ∷ [])
    (at 0 0 ∷ at 0 0 ∷ at 0 0 ∷ [])
    (turn 0 0 1 0 5 255 ∷ turn 1 0 3 0 5 255 ∷ turn 2 0 1 0 5 255 ∷ [])
    (task 0 0 5 1 3 ∷ []) (chan 0 0 1 (5 ∷ []) ∷ []) (stamp 3 0)
    ∷
    -- sends and closes keep the register: chan 2 task send 0 9 recv 0 send 0 8 close 0 end
    example 0 (2 ∷ []) ((operate (Send (on 0) 9) ▸ operate (Recv (on 0)) ▸ operate (Send (on 0) 8) ▸ close (on 0) ▸ empty) ∷ [])
    (at 0 0 ∷ at 0 0 ∷ at 0 0 ∷ at 0 0 ∷ [])
    (turn 0 0 1 0 9 255 ∷ turn 1 0 3 0 9 255 ∷ turn 2 0 1 0 8 255 ∷ turn 3 0 6 0 0 255 ∷ [])
    (task 0 0 9 1 4 ∷ []) (chan 0 1 1 (8 ∷ []) ∷ []) (stamp 4 0)
    ∷
    -- choice 3 of two ready cases: the second: chan 3 chan 0 task select case recv 1 case send 0 2 case send 0 3 end end
    example 0 (3 ∷ 0 ∷ []) ((select (case (Recv (on 1)) empty (case (Send (on 0) 2) empty (case (Send (on 0) 3) empty nomore))) ▸ empty) ∷ [])
    (at 0 3 ∷ [])
    (turn 0 0 1 0 3 255 ∷ [])
    (task 0 0 0 0 4 ∷ []) (chan 0 0 1 (3 ∷ []) ∷ chan 1 0 0 [] ∷ []) (stamp 1 0)
    ∷
    -- default: chan 0 task select case recv 0 default stop end end
    example 0 (0 ∷ []) ((select (case (Recv (on 0)) empty (default (stop ▸ empty))) ▸ empty) ∷ [])
    (at 0 0 ∷ at 0 0 ∷ [])
    (turn 0 0 8 255 0 255 ∷ turn 1 0 9 255 0 255 ∷ [])
    (task 0 2 0 0 2 ∷ []) (chan 0 0 0 [] ∷ []) (stamp 2 0)
    ∷
    -- nil is never ready: chan 1 task select case send nil 1 stop case send 0 2 end end
    example 0 (1 ∷ []) ((select (case (Send Nil 1) (stop ▸ empty) (case (Send (on 0) 2) empty nomore)) ▸ empty) ∷ [])
    (at 0 0 ∷ at 0 0 ∷ [])
    (turn 0 0 1 0 2 255 ∷ turn 1 0 9 255 0 255 ∷ [])
    (task 0 2 0 0 4 ∷ []) (chan 0 0 1 (2 ∷ []) ∷ []) (stamp 2 0)
    ∷
    -- 13 ahead of 14, 16 and 15: task recv nil end task stop end task close nil end
    example 0 [] ((operate (Recv Nil) ▸ empty) ∷ (stop ▸ empty) ∷ (close Nil ▸ empty) ∷ [])
    (at 0 0 ∷ at 1 0 ∷ at 3 0 ∷ at 2 0 ∷ at 3 0 ∷ at 1 0 ∷ at 0 0 ∷ [])
    (turn 0 0 7 255 0 255 ∷ turn 1 1 9 255 0 255 ∷ turn 2 3 14 255 0 255 ∷ turn 3 2 10 255 2 2 ∷ turn 4 3 13 255 0 255 ∷ turn 5 1 13 255 0 255 ∷ turn 6 0 13 255 0 255 ∷ [])
    (task 0 1 0 0 0 ∷ task 1 2 0 0 2 ∷ task 2 0 0 0 4 ∷ []) [] (stamp 3 2)
    ∷
    -- a case inside a loop leaves its laps: chan 4 task repeat 2 select case send 0 1 end end end
    example 0 (4 ∷ []) ((repeat 2 (select (case (Send (on 0) 1) empty nomore) ▸ empty) ▸ empty) ∷ [])
    (at 0 0 ∷ at 0 0 ∷ at 0 0 ∷ at 0 0 ∷ at 0 0 ∷ at 0 0 ∷ [])
    (turn 0 0 8 255 0 255 ∷ turn 1 0 1 0 1 255 ∷ turn 2 0 8 255 0 255 ∷ turn 3 0 1 0 1 255 ∷ turn 4 0 8 255 0 255 ∷ turn 5 0 9 255 0 255 ∷ [])
    (task 0 2 0 0 3 ∷ []) (chan 0 0 2 (1 ∷ 1 ∷ []) ∷ []) (stamp 6 0)
    ∷
    -- the refill goes behind what the buffer holds: chan 2 task send 0 1 send 0 2 send 0 3 end task recv 0 recv 0 recv 0 end
    example 0 (2 ∷ []) ((operate (Send (on 0) 1) ▸ operate (Send (on 0) 2) ▸ operate (Send (on 0) 3) ▸ empty) ∷ (operate (Recv (on 0)) ▸ operate (Recv (on 0)) ▸ operate (Recv (on 0)) ▸ empty) ∷ [])
    (at 0 0 ∷ at 0 0 ∷ at 0 0 ∷ at 1 0 ∷ at 1 0 ∷ at 1 0 ∷ [])
    (turn 0 0 1 0 1 255 ∷ turn 1 0 1 0 2 255 ∷ turn 2 0 7 255 0 255 ∷ turn 3 1 3 0 1 0 ∷ turn 4 1 3 0 2 255 ∷ turn 5 1 3 0 3 255 ∷ [])
    (task 0 0 0 0 3 ∷ task 1 0 3 1 7 ∷ []) (chan 0 0 0 [] ∷ []) (stamp 6 0)
    ∷
    -- the body of the chosen case, then what follows: chan 2 task select case send 0 1 forward 0 case recv nil end close 0 end
    example 0 (2 ∷ []) ((select (case (Send (on 0) 1) (operate (Forward (on 0)) ▸ empty) (case (Recv Nil) empty nomore)) ▸ close (on 0) ▸ empty) ∷ [])
    (at 0 0 ∷ at 0 0 ∷ at 0 0 ∷ at 0 0 ∷ [])
    (turn 0 0 1 0 1 255 ∷ turn 1 0 1 0 0 255 ∷ turn 2 0 6 0 0 255 ∷ turn 3 0 9 255 0 255 ∷ [])
    (task 0 2 0 0 5 ∷ []) (chan 0 1 2 (1 ∷ 0 ∷ []) ∷ []) (stamp 4 0)
    ∷
    -- the body of a woken select's case: chan 0 chan 1 task select case recv 0 forward 1 end end task send 0 6 end
    example 0 (0 ∷ 1 ∷ []) ((select (case (Recv (on 0)) (operate (Forward (on 1)) ▸ empty) nomore) ▸ empty) ∷ (operate (Send (on 0) 6) ▸ empty) ∷ [])
    (at 0 0 ∷ at 1 0 ∷ at 0 0 ∷ [])
    (turn 0 0 7 255 0 255 ∷ turn 1 1 2 0 6 0 ∷ turn 2 0 1 1 6 255 ∷ [])
    (task 0 0 6 1 3 ∷ task 1 0 0 0 5 ∷ []) (chan 0 0 0 [] ∷ chan 1 0 1 (6 ∷ []) ∷ []) (stamp 3 0)
    ∷
    -- the default's body, then what follows: chan 1 task select case recv 0 default send 0 4 end close 0 end
    example 0 (1 ∷ []) ((select (case (Recv (on 0)) empty (default (operate (Send (on 0) 4) ▸ empty))) ▸ close (on 0) ▸ empty) ∷ [])
    (at 0 0 ∷ at 0 0 ∷ at 0 0 ∷ at 0 0 ∷ [])
    (turn 0 0 8 255 0 255 ∷ turn 1 0 1 0 4 255 ∷ turn 2 0 6 0 0 255 ∷ turn 3 0 9 255 0 255 ∷ [])
    (task 0 2 0 0 4 ∷ []) (chan 0 1 1 (4 ∷ []) ∷ []) (stamp 4 0)
    ∷ []

-- THE CLAIM

abbrev stamped_from : {P : Type 0} → ℕ → Machine P → Machine P
stamped_from n k = record { tasks = k.tasks; order = k.order; channels = k.channels; fault = k.fault; named = k.named; stamp = n }

-- The image stands behind three bytes that are not its own.
image_of : Example → List ℕ
image_of e = 1 ∷ 2 ∷ 3 ∷ job_image e.job

abbrev Both : Type 0
Both = Listing (Unit {0}) × Listing ℕ

-- What the text's meaning and the image's meaning list.
found : Example → Both
found e = (
  listing (λ r. tt) text_look e.schedule (stamped_from e.from (text_start e.job)),
  listing (λ s. s.row.0) (image_look (rows_of (image_of e))) e.schedule (stamped_from e.from (start_of (image_of e))),
)

-- What they must list. A text has no rows.
due : Example → Both
due e = (
  record { turns = e.tabulate.turns; tasks = map (λ t. (t.0, tt)) e.tabulate.tasks; channels = e.tabulate.channels; stamps = e.tabulate.stamps },
  e.tabulate,
)

examples_hold : map found examples ≡ map due examples
unfolding found due image_of listing last turn_lines task_lines channel_lines numbers is_on receives_on sends_on payload without wake_all send_on receive_on close_on choose cases_of first_case waiter_by add_if waiter_at waiters_in waiters send_to receive_from attempt ready m.close act turn_as turn_of turn_if m.turn runs fresh enter text_repeat text_cases text_default text_stmt text_item text_look text_start image_case image_cases image_default image_repeat image_statement image_look image_start case_count size_b entry case_rows default_row rows_b rows_t first_rows fields_of statement_of row_bytes first_bytes image_bytes job_image trailer_of row_count channel_count task_count distance body_of fields_of_row rows_in capacity_in first_row_in rows_of capacities_of first_rows_of b.tabulate start_of
examples_hold = refl

-- WHAT A LISTING DOES NOT SHOW: the waiting order, and the halt record's fault and task named, after a run.

record Kept : Type 0 where
  order : List ℕ
  fault : ℕ
  named : ℕ

record Run : Type 0 where
  job : Job
  schedule : Schedule
  kept : Kept

abbrev ran : List ℕ → List Body → Schedule → List ℕ → ℕ → ℕ → Run
ran caps bodies ss order fault named = record { job = record { capacities = caps; tasks = bodies }; schedule = ss; kept = record { order = order; fault = fault; named = named } }

abbrev receives : ℕ → Body
receives c = operate (Recv (on c)) ▸ empty

abbrev sends : ℕ → Body
sends c = operate (Send (on c) 5) ▸ empty

abbrev kept_runs : List Run
kept_runs =
    -- longest first, whatever they wait for; no fault, and task 0 named: chan 0 task recv 0 end task select end end task recv nil end
    ran (0 ∷ []) (receives 0 ∷ (select nomore ▸ empty) ∷ (operate (Recv Nil) ▸ empty) ∷ [])
    (at 1 0 ∷ at 2 0 ∷ at 0 0 ∷ [])
    (1 ∷ 2 ∷ 0 ∷ []) 0 0
    ∷
    -- a woken task leaves the order, the others keep theirs: chan 0 chan 0 task recv 0 end task recv 1 end task recv 0 end task send 1 5 end
    ran (0 ∷ 0 ∷ []) (receives 0 ∷ receives 1 ∷ receives 0 ∷ sends 1 ∷ [])
    (at 2 0 ∷ at 1 0 ∷ at 0 0 ∷ at 3 0 ∷ [])
    (2 ∷ 0 ∷ []) 0 0
    ∷
    -- the same for a woken sender: chan 0 chan 0 task send 0 5 end task send 1 5 end task send 0 5 end task recv 1 end
    ran (0 ∷ 0 ∷ []) (sends 0 ∷ sends 1 ∷ sends 0 ∷ receives 1 ∷ [])
    (at 2 0 ∷ at 1 0 ∷ at 0 0 ∷ at 3 0 ∷ [])
    (2 ∷ 0 ∷ []) 0 0
    ∷
    -- all that a close wakes leave it: chan 0 chan 0 task recv 0 end task recv 1 end task recv 0 end task close 0 end
    ran (0 ∷ 0 ∷ []) (receives 0 ∷ receives 1 ∷ receives 0 ∷ (close (on 0) ▸ empty) ∷ [])
    (at 2 0 ∷ at 1 0 ∷ at 0 0 ∷ at 3 0 ∷ [])
    (1 ∷ []) 0 0
    ∷
    -- a fault keeps it and names the mover: chan 0 task send 0 5 end task send 0 5 end task close 0 end
    ran (0 ∷ []) (sends 0 ∷ sends 0 ∷ (close (on 0) ▸ empty) ∷ [])
    (at 1 0 ∷ at 0 0 ∷ at 2 0 ∷ at 2 0 ∷ at 0 0 ∷ [])
    (1 ∷ 0 ∷ []) 4 2
    ∷ []

kept_of : {P : Type 0} → Machine P → Kept
kept_of k = record { order = map (λ t. t.0) k.order; fault = k.fault; named = k.named.0 }

kept_by_lem : Run → Kept × Kept
kept_by_lem r = (
  kept_of (last {P = Remainder} {R = ℕ} (λ r. 0) (text_start r.job) (runs text_look r.schedule (text_start r.job))),
  kept_of (last {P = Spot} {R = ℕ} (λ r. 0) (start_of (job_image r.job)) (runs (image_look (rows_of (job_image r.job))) r.schedule (start_of (job_image r.job)))),
)

kept_hold : map kept_by_lem kept_runs ≡ map (λ r. (r.kept, r.kept)) kept_runs
unfolding kept_of kept_by_lem last is_on receives_on sends_on payload without wake_all send_on receive_on close_on choose cases_of first_case waiter_by add_if waiter_at waiters_in waiters send_to receive_from attempt ready m.close act turn_as turn_of turn_if m.turn runs fresh enter text_repeat text_cases text_default text_stmt text_item text_look text_start image_case image_cases image_default image_repeat image_statement image_look image_start case_count size_b entry case_rows default_row rows_b rows_t first_rows fields_of statement_of row_bytes first_bytes image_bytes job_image trailer_of row_count channel_count task_count distance body_of fields_of_row rows_in capacity_in first_row_in rows_of capacities_of first_rows_of b.tabulate start_of
kept_hold = refl

-- What is compared after each turn, `seen`, is everything but the points: of a machine whose parts all differ.

abbrev machine_at : {P : Type 0} → P → Machine P
machine_at p = record {
  tasks = record { status = Waiting; register = 1; ok = true; point = p } ∷ record { status = Ended; register = 2; ok = false; point = p } ∷ [];
  order = record { 0 = 3 } ∷ record { 0 = 4 } ∷ [];
  channels = record { capacity = 5; closed = true; buffer = 6 ∷ 7 ∷ [] } ∷ [];
  fault = 8;
  named = record { 0 = 9 };
  stamp = 10;
}

seen_holds : m.seen {P = ℕ} (machine_at 11) ≡ machine_at tt
unfolding m.seen
seen_holds = refl

-- THE BYTES of an image, written out from document 01, 'Step image': each op, field and count at its place.

record Written : Type 0 where
  job : Job
  bytes : List ℕ

abbrev image : List ℕ → List Body → List ℕ → Written
image caps bodies bytes = record { job = record { capacities = caps; tasks = bodies }; bytes = bytes }

-- op, chan, arg (its low byte and its high byte), next, other
abbrev row : ℕ → ℕ → ℕ → ℕ → ℕ → ℕ → List ℕ
row o c low high n m = o ∷ c ∷ low ∷ high ∷ n ∷ 0 ∷ m ∷ 0 ∷ []

abbrev stop_row : List ℕ
stop_row = row 12 0 0 0 0 0

abbrev images : List Written
images =
    -- The listing's: chan 1 task send 0 7 send 0 9 close 0 end task range 0 end end
    image (1 ∷ []) ((operate (Send (on 0) 7) ▸ operate (Send (on 0) 9) ▸ close (on 0) ▸ empty) ∷ (range (on 0) empty ▸ empty) ∷ [])
    (row 1 0 7 0 1 0 ++ row 1 0 9 0 2 0 ++ row 4 0 0 0 3 0 ++ stop_row
    ++ row 5 0 0 0 4 5 ++ stop_row
    ++ (1 ∷ []) ++ (0 ∷ 0 ∷ 4 ∷ 0 ∷ []) ++ (6 ∷ 0 ∷ 1 ∷ 2 ∷ 53 ∷ 0 ∷ 0x5A ∷ 1 ∷ []))
    ∷
    -- Every op: chan 2 chan 0 task
    --   repeat 3 select case send 0 258 stop case forward 1 case recv nil close nil default recv 1 end end
    --   ifok forward nil else range 1 repeat 2 end end end
    --   send nil 65535 end task end
    image (2 ∷ 0 ∷ [])
    ((repeat 3 (select (case (Send (on 0) 258) (stop ▸ empty) (case (Forward (on 1)) empty (case (Recv Nil) (close Nil ▸ empty) (default (operate (Recv (on 1)) ▸ empty))))) ▸ empty)
    ▸ ifok (operate (Forward Nil) ▸ empty) (range (on 1) (repeat 2 empty ▸ empty) ▸ empty)
    ▸ operate (Send Nil 65535) ▸ empty) ∷ empty ∷ [])
    (row 6 0 3 0 1 8 ++ row 8 3 1 0 7 0 ++ row 9 0 2 1 5 0 ++ row 10 1 0 0 0 0 ++ row 11 255 0 0 6 0 ++ stop_row ++ row 4 255 0 0 0 0 ++ row 3 1 0 0 0 0
    ++ row 7 0 0 0 9 10 ++ row 2 255 0 0 12 0 ++ row 5 1 0 0 11 12 ++ row 6 2 2 0 11 10
    ++ row 1 255 255 255 13 0 ++ stop_row ++ stop_row
    ++ (2 ∷ 0 ∷ []) ++ (0 ∷ 0 ∷ 14 ∷ 0 ∷ []) ++ (15 ∷ 0 ∷ 2 ∷ 2 ∷ 126 ∷ 0 ∷ 0x5A ∷ 1 ∷ []))
    ∷
    -- A case adds no depth, its select does: task select case recv nil repeat 1 end default repeat 1 end end select end end
    image [] ((select (case (Recv Nil) (repeat 1 empty ▸ empty) (default (repeat 1 empty ▸ empty))) ▸ select nomore ▸ empty) ∷ [])
    (row 8 1 1 0 3 0 ++ row 11 255 0 0 2 0 ++ row 6 1 1 0 2 4 ++ row 6 1 1 0 3 4 ++ row 8 0 0 0 0 0 ++ stop_row
    ++ (0 ∷ 0 ∷ []) ++ (6 ∷ 0 ∷ 0 ∷ 1 ∷ 50 ∷ 0 ∷ 0x5A ∷ 1 ∷ []))
    ∷ []

images_hold : map (λ w. job_image w.job) images ≡ map (λ w. w.bytes) images
unfolding case_count size_b entry case_rows default_row rows_b rows_t first_rows fields_of row_bytes first_bytes image_bytes job_image
images_hold = refl
