-- A turn over the records is the meaning's turn, seen through `view`. Each table of the rules follows the meaning's table of the
-- same name clause by clause, and so do the laws here: a clause cites one law for the tasks, one for the order and one for the
-- channels.
use Rattle.std.specs.Prelude.{◌≡◌, Bool, Option, Some, None, cond, length, take}
use Rattle.std.proofs.Math.Path.{refl, sym, ap}
use Rattle.std.proofs.Common.{◌∙◌, le_of_suc-le-suc, not-suc-le-zero, mod-lt, arith, get_or-take}
use Rattle.std.proofs.Math.Bool.{true, false}
use Rattle.std.proofs.Math.Option.{none, some}
use Rattle.std.proofs.Math.Option as maybe
use mathlib.Core.List.{List, [], ◌∷◌, ◌++◌, map}
use Prim.Native.Nat.{ℕ, zero, suc, ◌+◌, ◌%◌, ◌≤◌, ◌<◌}
use Rattle.std.proofs.Math.Nat.{mod-eq_of_lt}
use Rattle.std.proofs.Math.Numerals.{add-one}
use Rattle.std.proofs.Math.Dec.{ltb}
use Rattle.std.proofs.Math.ListN.{get_or, set, get_elem?, length-take}
use Rattle.std.proofs.lemmas.List.{length-map}
use borrow.Author.Tests.{lt-ltb, le-ltb, ltb-true, ltb-false, eq-eqb, ne_eqb}
use Rattle.machine_laws.specs.Kinds.{Task, Chan, Row, Port, Nil, On, Op, Send, Forward, Recv, Otherwise, Wait, Go, Statement, Do, Close, Range, Repeat, Ifok, Select, Case, Stop, Status, Able, Waiting, Ended, Event, Appended, Handed, Taken, Refilled, Received, Drained, Closed, Waits, Branched, Finished, TaskState, ChanState, Change, Keep, Append, Take, Refill, Side, Receiving, Sending, Offer, Waiter, Plan, Refusal}
use Rattle.meaning.specs.Numbers.{task_limit, channel_limit, capacity_limit, depth_limit, lap_limit, stamp_modulus, send_on_closed, close_of_nil, close_of_closed, close_under_sender}
use Rattle.meaning.specs.Machine as m
use Rattle.meaning.specs.Image.{Spot, spot, row_no, image_case, image_cases, image_default, image_repeat, image_statement, image_look}
use Rattle.meaning.specs.Bytes.{row_count, channel_count, body_of, rows_in, rows_of, capacity_in, tabulate, capacities_of}
use Rattle.image_check.specs.Sound.{PortSound, OpSound, Followed, StatementSound, Sound}
use Rattle.meaning_laws.specs.Lists.{All}
use Rattle.meaning_laws.specs.Fits.{mark, waiting_at}
use Rattle.meaning_laws.specs.Laws.Lists.{all_at}
use Rattle.meaning_laws.specs.Laws.Fits.{waiting_at_lem}
use Rattle.meaning_laws.specs.Laws.Spare.{spare}
use Rattle.image_laws.specs.Laws.Closed.{OnRow}
use Rattle.machine_records.specs.Cells.{cons_if, keep}
use Rattle.machine_records.specs.Records.{Records, blank_task, blank_chan, task_in, chan_in, order_of, got_task, went_task, stood_task, lap_task, task_got, task_went, task_stood, task_lapped, chan_longer, chan_shorter, chan_shut, joined, left}
use Rattle.machine_records.specs.Values.{Values, row_for, oldest, changed}
use Rattle.machine_records.specs.Waiters.{case_offer, serves, waits_at, first_waiter, count_waiters}
use Rattle.machine_records.specs.Plans.{did, idle, woken_all, applied}
use Rattle.machine_records.specs.Rules as r
use Rattle.machine_records.specs.Step.{or_wait, no_case, repeated, plan_by, offer_of, plan_of, refusal_of, refused_by, stepped_by, stepped}
use Rattle.machine_records.specs.View.{standing_of, channel_of, channels_of, view_in, view, turned_of}
use Rattle.machine_laws.specs.Laws.Fit.{Arrays, Fit}
use Rattle.machine_laws.specs.Laws.Leaves.{task_set, standings_at, standings_past, tasks_woken, tasks_twice, order_cells, order_kept, order_left, order_joined, chan_is, cells, channel_at_lem, channels_shut, channels_appended, channels_taken, channels_refilled}
use Rattle.machine_laws.specs.Laws.Capacities.{capacity_count, capacity_at}
use Rattle.machine_laws.specs.Laws.Who.{case_of, HeadIs, FoundHas, found_has, Named, walked, waiters_are, head_is, count_is, waiting_below, order_has, laps_kept, wake_all_lem}

get_d_map : {A B : Type 0} (g : A → B) (l : List A) (n : ℕ) (d : A) (e : B) → n < length l → get_or (map g l) n e ≡ g (get_or l n d)
get_d_map g [] n d e h = absurd (not-suc-le-zero h)
get_d_map g (x ∷ xs) zero d e h = refl
get_d_map g (x ∷ xs) (suc n) d e h = get_d_map g xs n d e (le_of_suc-le-suc h)

-- READY: an operation is ready where its attempt gives a plan

abbrev is_some : {A : Type 0} → maybe.Option A → Bool
is_some none = false
is_some (some d) = true

send_ready_lem : (c : Chan) (v : ℕ) (next : Row) (q : Bool) (w : Option Waiter) (room : Bool) → is_some (r.send_on c v next q w room) ≡ r.can_send q w room
send_ready_lem c v next true w room = refl
send_ready_lem c v next false None true = refl
send_ready_lem c v next false None false = refl
send_ready_lem c v next false (Some f) room = refl

module _ (s : Records) (c : Chan) (hit miss : Row) (v : ℕ) where
  receive_ready_lem : (q : Bool) (w : Option Waiter) (z : Bool) → is_some (r.receive_on s c hit miss v q w z) ≡ r.can_receive q w z
  receive_ready_lem true None z = refl
  receive_ready_lem true (Some f) z = refl
  receive_ready_lem false None true = refl
  receive_ready_lem false None false = refl
  receive_ready_lem false (Some f) z = refl

module _ (rs : List ℕ) (rows : ℕ) (s : Records) (b : Values) (register : ℕ) where
  send_to_ready : (p : Port) (v : ℕ) (next : Row) → is_some (r.send_to rs rows s p v next) ≡ r.send_ready rs rows s p
  unfolding r.send_to r.send_ready
  send_to_ready Nil v next = refl
  send_to_ready (On c) v next = send_ready_lem c v next (chan_in s.chans c).closed (first_waiter rs s Receiving c) (r.has_room rs rows s c)

  op_ready_lem : (o : Op) (hit miss : Row) → is_some (r.attempt rs rows s b register o hit miss) ≡ r.op_ready rs rows s o
  unfolding r.receive_from r.receive_ready
  op_ready_lem (Send p v) hit miss = send_to_ready p v hit
  op_ready_lem (Forward p) hit miss = send_to_ready p register hit
  op_ready_lem (Recv Nil) hit miss = refl
  op_ready_lem (Recv (On c)) hit miss =
      let k = chan_in s.chans c in
      receive_ready_lem s c hit miss (oldest b c) (ltb 0 k.len) (first_waiter rs s Sending c) k.closed

-- Two turns of one event, halt record and stamp are alike where their tasks, orders and channels are.
module _ (e : Event) (f : ℕ) (t : Task) (k : ℕ) where
  abbrev turn_of : List (m.Standing Spot) → List Task → List m.Channel → m.Turned Spot
  turn_of xs o cs = record { event = e; after = record { tasks = xs; order = o; channels = cs; fault = f; named = t; stamp = k } }

  alike : (xs ys : List (m.Standing Spot)) (o q : List Task) (cs ds : List m.Channel) → xs ≡ ys → o ≡ q → cs ≡ ds → turn_of xs o cs ≡ turn_of ys q ds
  alike xs ys o q cs ds h i j = rw (h, i, j)

module _ (bs : List ℕ) (sound : Sound bs) (s : Records) (b : Values) (a : Arrays s b) (f : Fit bs s b) where
  abbrev rs : List ℕ
  rs = body_of bs

  abbrev rows : ℕ
  rows = row_count bs

  abbrev caps : List ℕ
  caps = capacities_of bs

  abbrev look : Spot → m.Look Spot
  look = image_look (rows_in (body_of bs))

  abbrev seen : m.Machine Spot
  seen = view bs s b

  abbrev standings : List (m.Standing Spot)
  standings = map standing_of (take s.taskcount s.tasks)

  pub few_tasks : s.taskcount ≤ task_limit
  few_tasks = omega (arith, f.taskcount, sound.most_tasks)

  tasks_most : length standings ≤ s.taskcount
  tasks_most = omega (arith, length-map (take s.taskcount s.tasks) standing_of, length-take s.taskcount s.tasks)

  -- WHO WAITS

  -- What holds of every waiting task holds of every one that the order names.
  names_have : (Q : Task → Type 0) → ((t : Task) → 0 < waiting_at standings t.0 → Q t) → All Q (order_of s)
  unfolding view_in
  names_have Q waits = order_has (image_look (rows_of bs)) seen f.fits Q waits

  pub order_named : Named s (order_of s)
  order_named = names_have (λ t. t.0 < s.taskcount) (λ t w. omega (arith, tasks_most, waiting_below standings t.0 w))

  abbrev waiters : Side → Chan → List (m.Waiter Spot)
  waiters side c = m.waiters look (serves side c) seen

  waiting : (side : Side) (c : Chan) → waiters side c ≡ walked rs s side c (order_of s)
  unfolding m.waiters view_in
  waiting side c = waiters_are rs s side c few_tasks a.tasks16 (order_of s) order_named

  heads : (side : Side) (c : Chan) → HeadIs s (first_waiter rs s side c) (waiters side c)
  unfolding first_waiter
  heads side c = rw (waiting side c) (head_is rs s side c (order_of s))

  -- A CHANNEL OF THE IMAGE

  -- Its record, and what its buffer holds.
  abbrev kept : Chan → ChanState
  kept c = chan_in s.chans c

  abbrev held : Chan → List ℕ
  held c = take (kept c).len (row_for b c)

  module _ (c : Chan) (h : c.0 < channel_count bs) where
    declared : c.0 < length caps
    declared = omega (arith, h, capacity_count bs)

    few : length caps ≤ channel_limit
    few = omega (arith, capacity_count bs, sound.most_channels)

    kept_is : kept c ≡ get_or s.chans c.0 blank_chan
    kept_is = chan_is caps s b a c declared few

    len_most : (kept c).len ≤ capacity_limit
    len_most = omega (arith, ap (λ k. k.len) kept_is, f.lengths c.0 h, sound.capacities c.0 h)

    held-length : length (held c) ≡ (kept c).len
    held-length = omega (arith, len_most, cells caps s b a c declared few, length-take (kept c).len (row_for b c))

    here_is : m.channel_at seen.channels c ≡ channel_of (get_or caps c.0 0) (kept c) (row_for b c)
    unfolding view_in
    here_is = channel_at_lem caps s b a c declared few

    closed_is : (m.channel_at seen.channels c).closed ≡ (kept c).closed
    closed_is = ap (λ (k : m.Channel). k.closed) here_is

    buffer_is : (m.channel_at seen.channels c).buffer ≡ held c
    buffer_is = ap (λ (k : m.Channel). k.buffer) here_is

    room_is : m.has_room (m.channel_at seen.channels c) ≡ r.has_room rs rows s c
    room_is = ap (λ (k : m.Channel). m.has_room k) here_is ∙ rw (held-length, capacity_at bs c.0 h)

    room_left : r.has_room rs rows s c ≡ true → (kept c).len < capacity_limit
    room_left e = omega (arith, ltb-true (kept c).len (capacity_in rs rows c) e, sound.capacities c.0 h)

  -- A TASK OF THE IMAGE: its record is one that the view shows

  module _ (t : Task) (h : t.0 < s.taskcount) where
    abbrev stands : m.Standing Spot
    stands = standing_of (task_in s.tasks t)

    stands_at : get_elem? standings t.0 ≡ some stands
    stands_at =
        let small : t.0 % task_limit ≡ t.0 = mod-eq_of_lt (omega (arith, h, few_tasks)) in
        standings_at s.taskcount s.tasks t.0 h (omega (arith, few_tasks, a.tasks16))
        ∙ ap (λ j. some (standing_of (get_or s.tasks j blank_task))) (sym small)

    pub row_below : (task_in s.tasks t).row.0 < row_count bs
    unfolding view_in
    row_below =
        let on : OnRow bs stands.point = all_at (λ (y : m.Standing Spot). OnRow bs y.point) standings t.0 stands f.rows stands_at in
        on.below

    has_room_lem : (task_in s.tasks t).status ≡ Able → s.waiting < task_limit
    unfolding view_in
    has_room_lem e =
        let fewer = spare (image_look (rows_of bs)) seen f.fits t stands stands_at e in
        omega (arith, fewer, tasks_most, few_tasks, f.waiting, a.order16, length-take (s.waiting % suc task_limit) s.order)

  -- THE MOVER `me` is able, and stands as x in the records.

  module _ (me : Task) (mine : me.0 < s.taskcount) (able : (task_in s.tasks me).status ≡ Able) (choice : ℕ) where
    abbrev x : TaskState
    x = task_in s.tasks me

    abbrev mover : m.Standing Spot
    mover = standing_of x

    -- A plan carried out, as the meaning's answer.
    abbrev ran : Plan → m.Turned Spot
    ran p = turned_of bs b (applied rs s me p)

    -- The machine with the mover moved on to row n.
    abbrev moved_to : Row → m.Machine Spot
    moved_to n = m.moved me mover seen (spot x.laps n)

    below : me.0 < task_limit
    below = omega (arith, mine, few_tasks)

    -- "The mover itself is never its own partner": whoever is found waits, and the mover is able.
    record Partner (t : Task) : Type 0 where
      below : t.0 < task_limit
      apart : t.0 ≡ me.0 → ⊥

    partner_of : (t : Task) → 0 < waiting_at standings t.0 → Partner t
    partner_of t w = record { below = omega (arith, waiting_below standings t.0 w, tasks_most, few_tasks); apart = apart }
      where
        apart : t.0 ≡ me.0 → ⊥
        apart e =
            let z : waiting_at standings t.0 ≡ 0 = ap (waiting_at standings) e ∙ waiting_at_lem standings me.0 mover (stands_at me mine) ∙ ap mark able in
            omega (arith, w, z)

    partners : (side : Side) (c : Chan) → FoundHas Partner (first_waiter rs s side c)
    unfolding first_waiter
    partners side c = found_has Partner (waits_at rs s side c) (order_of s) (names_have Partner partner_of)

    -- A turn done, by its three parts.
    did_seen : (e : Event) (z : Records) (d : Change) (xs : List (m.Standing Spot)) (o : List Task) (cs : List m.Channel)
        → map standing_of (take z.taskcount z.tasks) ≡ xs → order_of z ≡ o → channels_of caps z.chans (changed b d) ≡ cs
        → turned_of bs b (did e z d) ≡ turn_of e z.fault z.named ((z.stamp + 1) % stamp_modulus) xs o cs
    unfolding view_in
    did_seen e z d xs o cs h i j = alike e z.fault z.named ((z.stamp + 1) % stamp_modulus) _ xs _ o _ cs h i j

    -- The tasks with the mover's record stored; with a partner's behind it; with the mover's again.
    abbrev after : TaskState → List TaskState
    after y = set s.tasks (me.0 % task_limit) y

    moves : (y : TaskState) → map standing_of (take s.taskcount (after y)) ≡ set standings me.0 (standing_of y)
    moves y = task_set s.taskcount s.tasks me y below

    wakes : (y : TaskState) (g : TaskState → TaskState) (t : Task) → Partner t
        → map standing_of (take s.taskcount (set (after y) (t.0 % task_limit) (g (task_in (after y) t))))
        ≡ set (set standings me.0 (standing_of y)) t.0 (standing_of (g (task_in s.tasks t)))
    wakes y g t p = tasks_woken s.taskcount s.tasks me below y g t p.below p.apart

    twice : (y : TaskState) (g : TaskState → TaskState)
        → map standing_of (take s.taskcount (set (after y) (me.0 % task_limit) (g (task_in (after y) me)))) ≡ set standings me.0 (standing_of (g y))
    twice y g = tasks_twice s.taskcount s.tasks me below y g a.tasks16

    -- PLANS THAT CHANGE NO CHANNEL

    fail_seen : (n : ℕ) (p : Port) → ran (Plan.Fail n p) ≡ m.fails me mover seen n p
    unfolding view_in applied changed
    fail_seen n p = refl

    branch_seen : (n : Row) → ran (Plan.Branch n) ≡ m.did Branched (moved_to n)
    unfolding view_in applied changed
    branch_seen n = did_seen Branched (task_went s me n) Keep _ _ _ (moves (went_task x n)) refl refl

    lap_seen : (d k : ℕ) (n : Row) → ran (Plan.Lap d k n) ≡ m.did Branched (m.moved me mover seen (spot (set x.laps (d % depth_limit) k) n))
    unfolding view_in applied changed
    lap_seen d k n = did_seen Branched (task_went (task_lapped s me d k) me n) Keep _ _ _ (twice (lap_task x d k) (λ y. went_task y n)) refl refl

    end_seen : ran Plan.End ≡ m.did Finished (m.put me (m.stays Ended mover) seen)
    unfolding view_in applied changed
    end_seen = did_seen Finished (task_stood s me Ended) Keep _ _ _ (moves (stood_task x Ended)) refl refl

    -- While the mover is able, the order has room.
    wait_seen : ran Plan.Wait ≡ m.did Waits (m.put me (m.stays Waiting mover) (m.queue (seen.order ++ me ∷ []) seen))
    unfolding view_in applied changed
    wait_seen =
        did_seen Waits (joined (task_stood s me Waiting) me) Keep _ _ _ (moves (stood_task x Waiting))
        (order_joined s me (has_room_lem me mine able) a.order16) refl

    -- AN OPERATION o on channel c, which leads to `hit`, or to `miss` from a receive with ok off

    module _ (c : Chan) (h : c.0 < channel_count bs) (o : Op) (hit miss : Row) where
      abbrev by : m.Case Spot
      by = case_of x.laps o hit miss

      send_clauses : (v : ℕ) (q : Bool) (w : Option Waiter) (ws : List (m.Waiter Spot)) (room : Bool)
          → HeadIs s w ws → FoundHas Partner w → (room ≡ true → (kept c).len < capacity_limit)
          → maybe.map ran (r.send_on c v hit q w room) ≡ m.send_on me mover seen c v by q ws room
      unfolding m.send_on view_in applied changed
      send_clauses v true w ws room hd p fits = ap some (fail_seen send_on_closed (On c))
      send_clauses v false None [] true hd p fits =
          ap some (did_seen (Appended c v) (task_went (chan_longer s c) me hit) (Append c (kept c).len v) _ _ _ (moves (went_task x hit)) refl
          (channels_appended caps s b a c (declared c h) (few c h) v (fits refl)))
      send_clauses v false None [] false hd p fits = refl
      send_clauses v false None (w ∷ ws) room hd p fits = absurd hd
      send_clauses v false (Some g) [] room hd p fits = absurd hd
      send_clauses v false (Some g) (w ∷ ws) room hd p fits =
          rw hd
          (ap some (did_seen (Handed c v g.task) (left (task_got (task_went s me hit) g.task v true g.offer.hit) g.task) Keep _ _ _
          (wakes (went_task x hit) (λ y. got_task y v true g.offer.hit) g.task p) (order_left s g.task) refl))

      receive_full : (v : ℕ) (vs : List ℕ) → held c ≡ v ∷ vs → (w : Option Waiter) (ws : List (m.Waiter Spot)) (q : Bool) → HeadIs s w ws → FoundHas Partner w
          → maybe.map ran (r.receive_on s c hit miss v true w q) ≡ m.receive_on me mover seen c by (v ∷ vs) ws q
      unfolding m.receive_on view_in applied changed
      receive_full v vs e None [] q hd p =
          ap some (did_seen (Taken c v) (task_got (chan_shorter s c) me v true hit) (Take c (kept c).len) _ _ _ (moves (got_task x v true hit)) refl
          (channels_taken caps s b a c (declared c h) (few c h) (len_most c h) v vs e))
      receive_full v vs e None (w ∷ ws) q hd p = absurd hd
      receive_full v vs e (Some g) [] q hd p = absurd hd
      receive_full v vs e (Some g) (w ∷ ws) q hd p =
          let sent : ℕ = r.sent_by s g in
          rw hd
          (ap some (did_seen (Refilled c v g.task) (left (task_went (task_got s me v true hit) g.task g.offer.hit) g.task) (Refill c (kept c).len sent) _ _ _
          (wakes (got_task x v true hit) (λ y. went_task y g.offer.hit) g.task p) (order_left s g.task)
          (channels_refilled caps s b a c (declared c h) (few c h) (len_most c h) v vs e sent)))

      receive_empty : (v : ℕ) (w : Option Waiter) (ws : List (m.Waiter Spot)) (q : Bool) → HeadIs s w ws → FoundHas Partner w
          → maybe.map ran (r.receive_on s c hit miss v false w q) ≡ m.receive_on me mover seen c by [] ws q
      unfolding m.receive_on view_in applied changed
      receive_empty v None [] true hd p = ap some (did_seen (Drained c) (task_got s me 0 false miss) Keep _ _ _ (moves (got_task x 0 false miss)) refl refl)
      receive_empty v None [] false hd p = refl
      receive_empty v None (w ∷ ws) q hd p = absurd hd
      receive_empty v (Some g) [] q hd p = absurd hd
      receive_empty v (Some g) (w ∷ ws) q hd p =
          let sent : ℕ = r.sent_by s g in
          rw hd
          (ap some (did_seen (Received c sent g.task) (left (task_went (task_got s me sent true hit) g.task g.offer.hit) g.task) Keep _ _ _
          (wakes (got_task x sent true hit) (λ y. went_task y g.offer.hit) g.task p) (order_left s g.task) refl))

      receive_clauses : (l : List ℕ) → held c ≡ l → (w : Option Waiter) (ws : List (m.Waiter Spot)) (q : Bool) → HeadIs s w ws → FoundHas Partner w
          → maybe.map ran (r.receive_on s c hit miss (oldest b c) (ltb 0 (kept c).len) w q) ≡ m.receive_on me mover seen c by l ws q
      receive_clauses [] e w ws q hd p =
          let n : (kept c).len ≤ 0 = omega (arith, held-length c h, ap (λ (l : List ℕ). length l) e) in
          rw (le-ltb 0 (kept c).len n) (receive_empty (oldest b c) w ws q hd p)
      receive_clauses (v ∷ vs) e w ws q hd p =
          let n : 0 < (kept c).len = omega (arith, held-length c h, ap (λ (l : List ℕ). length l) e) in
          let y : oldest b c ≡ v = sym (get_or-take (kept c).len (row_for b c) 0 0 n) ∙ ap (λ l. get_or l 0 0) e in
          rw (lt-ltb 0 (kept c).len n, y) (receive_full v vs e w ws q hd p)

    module _ (o : Op) (hit miss : Row) where
      send_seen : (p : Port) (v : ℕ) → PortSound (channel_count bs) p
          → maybe.map ran (r.send_to rs rows s p v hit) ≡ m.send_to look me choice mover seen p v (case_of x.laps o hit miss)
      unfolding m.send_to r.send_to
      send_seen Nil v h = refl
      send_seen (On c) v h =
          rw (closed_is c h, room_is c h)
          (send_clauses c h o hit miss v (kept c).closed (first_waiter rs s Receiving c) (waiters Receiving c) (r.has_room rs rows s c)
          (heads Receiving c) (partners Receiving c) (room_left c h))

      receive_seen : (p : Port) → PortSound (channel_count bs) p
          → maybe.map ran (r.receive_from rs s b p hit miss) ≡ m.receive_from look me choice mover seen p (case_of x.laps o hit miss)
      unfolding m.receive_from r.receive_from
      receive_seen Nil h = refl
      receive_seen (On c) h =
          rw (closed_is c h)
          (receive_clauses c h o hit miss (m.channel_at seen.channels c).buffer (sym (buffer_is c h))
          (first_waiter rs s Sending c) (waiters Sending c) (kept c).closed
          (heads Sending c) (partners Sending c))

    -- What an operation comes to, in the records and in the meaning.
    abbrev planned : Op → Row → Row → maybe.Option Plan
    planned o hit miss = r.attempt rs rows s b x.register o hit miss

    abbrev meant : Op → Row → Row → maybe.Option (m.Turned Spot)
    meant o hit miss = m.attempt look me choice mover seen o (case_of x.laps o hit miss)

    attempt_seen : (o : Op) (hit miss : Row) → OpSound (channel_count bs) o → maybe.map ran (planned o hit miss) ≡ meant o hit miss
    unfolding m.attempt
    attempt_seen (Send p v) hit miss h = send_seen (Send p v) hit miss p v h
    attempt_seen (Forward p) hit miss h = send_seen (Forward p) hit miss p x.register h
    attempt_seen (Recv p) hit miss h = receive_seen (Recv p) hit miss p h

    -- CLOSE: the order is filtered once, whether or not anybody waits

    module _ (c : Chan) (h : c.0 < channel_count bs) (n : Row) where
      abbrev shut : m.Machine Spot
      shut = m.store c (m.shut (m.channel_at seen.channels c)) (moved_to n)

      shut_seen : (ws : List (m.Waiter Spot)) → walked rs s Receiving c (order_of s) ≡ ws
          → ran (Plan.Shut c n) ≡ m.did (Closed c (length ws)) (m.wake_all ws shut)
      unfolding view_in applied changed count_waiters
      shut_seen ws w =
          let y : TaskState = went_task x n in
          let z : Records = woken_all rs s c (task_went (chan_shut s c) me n) in
          let all : List (m.Waiter Spot) = walked rs s Receiving c (order_of s) in
          let cs : List m.Channel = channels_of caps s.chans b in
          let ds : List m.Channel = set cs c.0 (m.shut (m.channel_at cs c)) in
          let seen_with : List (m.Standing Spot) → m.Machine Spot =
          λ l. record { tasks = l; order = order_of s; channels = ds; fault = s.fault; named = s.named; stamp = s.stamp } in
          let woken = wake_all_lem rs s few_tasks c ds s.fault s.named s.stamp (order_of s) order_named (after y) (laps_kept s.tasks me y refl) in
          rw (← w)
          (ap (λ k. turned_of bs b (did (Closed c k) z Keep)) (sym (count_is rs s Receiving c (order_of s)))
          ∙ did_seen (Closed c (length all)) z Keep _ _ ds refl (order_cells (keep (idle rs s c) (order_of s)) (order_kept s (idle rs s c)))
          (channels_shut caps s b a c (declared c h) (few c h))
          ∙ sym (ap (m.did (Closed c (length all)))
          (ap (λ l. m.wake_all all (seen_with l)) (sym (moves y)) ∙ woken)))

      close_clauses : (q : Bool) (i j : Option Waiter) (vs ws : List (m.Waiter Spot)) → HeadIs s i vs → HeadIs s j ws → walked rs s Receiving c (order_of s) ≡ vs
          → ran (r.close_on c n q i j) ≡ m.close_on me mover seen c (spot x.laps n) q vs ws
      unfolding m.close_on m.wake_all
      close_clauses true i j vs ws d g w = fail_seen close_of_closed (On c)
      close_clauses false (Some f) j [] ws d g w = absurd d
      close_clauses false (Some f) j (v ∷ vs) ws d g w = shut_seen (v ∷ vs) w
      close_clauses false None j (v ∷ vs) ws d g w = absurd d
      close_clauses false None (Some f) [] [] d g w = absurd g
      close_clauses false None (Some f) [] (v ∷ ws) d g w = fail_seen close_under_sender (On c)
      close_clauses false None None [] (v ∷ ws) d g w = absurd g
      close_clauses false None None [] [] d g w = shut_seen [] w

    close_seen : (p : Port) (n : Row) → PortSound (channel_count bs) p → ran (r.close_port rs s p n) ≡ m.close look me choice mover seen p (spot x.laps n)
    unfolding m.close r.close_port
    close_seen Nil n h = fail_seen close_of_nil Nil
    close_seen (On c) n h =
        let first : Side → Option Waiter = λ side. first_waiter rs s side c in
        rw (closed_is c h)
        (close_clauses c h n (kept c).closed (first Receiving) (first Sending) (waiters Receiving c) (waiters Sending c)
        (heads Receiving c) (heads Sending c) (sym (waiting Receiving c)))

    -- OR WAIT

    or_wait_lem : (z : maybe.Option Plan) (y : maybe.Option (m.Turned Spot)) → maybe.map ran z ≡ y → ran (or_wait z) ≡ m.choose me mover seen (m.add_if y []) none choice
    unfolding m.choose m.add_if
    or_wait_lem none none e = wait_seen
    or_wait_lem none (some q) e = cc
    or_wait_lem (some p) none e = cc
    or_wait_lem (some p) (some q) e =
        let h : ran p ≡ q = cc in
        h ∙ sym (only q (choice % 1))
      where
        only : {A : Type 0} (d : A) (n : ℕ) → get_or (d ∷ []) n d ≡ d
        only d zero = refl
        only d (suc n) = refl

    -- SELECT of k cases with the default e: the rows of the ready cases, each with the turn that its case makes, are the meaning's
    -- ready cases

    module _ (k : ℕ) (e : Otherwise) where
      abbrev doing : Option Offer → m.Turned Spot
      doing g = ran (plan_by rs rows s b x (Select k e) g)

      abbrev doing_at : ℕ → m.Turned Spot
      doing_at n = doing (case_offer (rows_in rs (row_no n)))

      abbrev ready_in : List (m.Case Spot) → List (m.Turned Spot)
      ready_in ks = m.ready look me choice mover seen ks

      abbrev cases_at : ℕ → ℕ → List (m.Case Spot)
      cases_at n i = image_cases (rows_in rs) x.laps n i

      abbrev ready_at : ℕ → ℕ → List ℕ
      ready_at n i = keep (r.row_ready rs rows s) (tabulate (λ j. j) n i)

      add_ready : (z : maybe.Option Plan) (y : maybe.Option (m.Turned Spot)) (p : Bool) (j : ℕ) (js : List ℕ)
          → maybe.map ran z ≡ y → is_some z ≡ p → doing_at j ≡ ran (or_wait z)
          → map doing_at (cons_if p j js) ≡ m.add_if y (map doing_at js)
      unfolding m.add_if
      add_ready none none true j js e h d = cc
      add_ready none none false j js e h d = refl
      add_ready none (some q) p j js e h d = cc
      add_ready (some z) none p j js e h d = cc
      add_ready (some z) (some q) true j js e h d = ap (λ y. y ∷ map doing_at js) (d ∙ cc)
      add_ready (some z) (some q) false j js e h d = cc

      module _ (j : ℕ) (js : List ℕ) (rest : List (m.Case Spot)) (i : map doing_at js ≡ ready_in rest) where
        case_ready : (st : Statement) → StatementSound rs rows (channel_count bs) j st → doing_at j ≡ doing (case_offer st)
            → map doing_at (cons_if (r.offer_ready rs rows s (case_offer st)) j js) ≡ ready_in (image_case x.laps st ++ rest)
        unfolding image_case m.ready
        case_ready (Do o n) ok d = i
        case_ready (Close p n) ok d = i
        case_ready (Range p n z) ok d = i
        case_ready (Repeat h l n z) ok d = i
        case_ready (Ifok n z) ok d = i
        case_ready (Select l h) ok d = i
        case_ready (Case o n) ok d =
            rw (← i)
            (add_ready (planned o n n) (meant o n n) (r.op_ready rs rows s o) j js (attempt_seen o n n ok.0) (op_ready_lem rs rows s b x.register o n n) d)
        case_ready Stop ok d = i

      ready_are : (n i : ℕ) → Followed rs rows n i → map doing_at (ready_at n i) ≡ ready_in (cases_at n i)
      unfolding image_cases m.ready tabulate
      ready_are zero i h = refl
      ready_are (suc n) i h =
          case_ready i (ready_at n (suc i)) (cases_at n (suc i)) (ready_are n (suc i) h.2) (rows_in rs (row_no i)) (sound.statements i h.0) refl

      default_seen : (d : Otherwise) → ran (no_case d) ≡ m.choose me mover seen [] (image_default x.laps d) choice
      unfolding m.choose image_default
      default_seen Wait = wait_seen
      default_seen (Go n) = branch_seen n

      choose_seen : (js : List ℕ) → doing (r.chosen_of rs rows s js choice) ≡ m.choose me mover seen (map doing_at js) (image_default x.laps e) choice
      unfolding m.choose
      choose_seen [] = default_seen e
      choose_seen (j ∷ js) =
          let n : ℕ = choice % suc (length js) in
          rw (length-map js doing_at) (sym (get_d_map doing_at (j ∷ js) n 0 (doing_at j) (mod-lt choice {m = suc (length js)} (omega arith))))

      select_seen : Followed rs rows k (suc x.row.0)
          → doing (r.chosen_case rs rows s k (x.row.0 + 1) choice)
          ≡ m.choose me mover seen (ready_in (cases_at k (suc x.row.0))) (image_default x.laps e) choice
      unfolding r.chosen_case r.ready_rows
      select_seen h =
          choose_seen (ready_at k (x.row.0 + 1))
          ∙ rw add-one (ap (λ l. m.choose me mover seen l (image_default x.laps e) choice) (ready_are k (suc x.row.0) h))

    -- REPEAT: a lap count stays within a byte, as N does

    module _ (d : ℕ) (h : d < depth_limit) where
      abbrev laps : ℕ
      laps = get_or x.laps d 0

      abbrev lapped : ℕ → Row → Spot
      lapped k n = spot (set x.laps d k) n

      lapped_seen : (k : ℕ) (n : Row) → ran (Plan.Lap d k n) ≡ m.did Branched (m.moved me mover seen (lapped k n))
      lapped_seen k n = lap_seen d k n ∙ ap (λ j. m.did Branched (m.moved me mover seen (spot (set x.laps j k) n))) (mod-eq_of_lt h)

      repeat_seen : (k : ℕ) (n z : Row) → k ≤ lap_limit
          → ran (repeated x d k n z) ≡ m.did Branched (m.moved me mover seen (cond (ltb laps k) (lapped (suc laps) n) (lapped 0 z)))
      unfolding repeated
      repeat_seen k n z l =
          let e : d % depth_limit ≡ d = mod-eq_of_lt h in
          rw e (go (ltb laps k) refl)
        where
          go : (q : Bool) → ltb laps k ≡ q
              → ran (cond q (Plan.Lap d ((laps + 1) % 256) n) (Plan.Lap d 0 z))
              ≡ m.did Branched (m.moved me mover seen (cond q (lapped (suc laps) n) (lapped 0 z)))
          go true e =
              let i : (laps + 1) % 256 ≡ suc laps = omega (arith, l, ltb-true laps k e) in
              rw i (lapped_seen (suc laps) n)
          go false e = lapped_seen 0 z

    -- ANY STATEMENT

    act_seen : (st : Statement) → StatementSound rs rows (channel_count bs) x.row.0 st
        → ran (plan_by rs rows s b x st (offer_of rs rows s (x.row.0 + 1) choice st))
        ≡ m.act look me choice mover seen (image_statement (rows_in rs) x.laps x.row.0 st)
    unfolding m.act image_statement image_repeat m.ready
    act_seen (Do o n) ok = or_wait_lem (planned o n n) (meant o n n) (attempt_seen o n n ok.0)
    act_seen (Close p n) ok = close_seen p n ok.0
    act_seen (Range p n z) ok = or_wait_lem (planned (Recv p) n z) (meant (Recv p) n z) (attempt_seen (Recv p) n z ok.0)
    act_seen (Repeat d k n z) ok = repeat_seen d ok.0 k n z ok.1
    act_seen (Ifok n z) ok = go x.ok
      where
        go : (q : Bool) → ran (Plan.Branch (cond q n z)) ≡ m.did Branched (m.moved me mover seen (cond q (spot x.laps n) (spot x.laps z)))
        go true = branch_seen n
        go false = branch_seen z
    act_seen (Select k e) ok = select_seen k e ok.2
    act_seen (Case o n) ok = end_seen
    act_seen Stop ok = end_seen

    able_seen : ran (plan_of rs rows s b x choice) ≡ m.act look me choice mover seen (look mover.point)
    unfolding plan_of image_look
    able_seen = act_seen (rows_in rs x.row) (sound.statements x.row.0 (row_below me mine))

  -- THE TURN

  module _ (t : Task) (choice : ℕ) where
    -- The turn, by why it is refused.
    abbrev turn_by : Option Refusal → m.Turned Spot
    turn_by y = turned_of bs b (stepped_by rs rows s b t choice y)

    abbrev status : Status
    status = (task_in s.tasks t).status

    as_seen : t.0 < s.taskcount → (st : Status) → status ≡ st → turn_by (refusal_of st) ≡ m.turn_as look t choice (standing_of (task_in s.tasks t)) seen st
    unfolding m.turn_as changed
    as_seen h Able e = able_seen t h e choice
    as_seen h Waiting e = refl
    as_seen h Ended e = refl

    of_seen : (q : Bool) → ltb t.0 s.taskcount ≡ q
        → turn_by (cond q (refusal_of status) (Some Refusal.NoSuchTask)) ≡ m.turn_of look t choice seen (get_elem? standings t.0)
    unfolding m.turn_of changed
    of_seen true e =
        let h : t.0 < s.taskcount = ltb-true t.0 s.taskcount e in
        rw (stands_at t h) (as_seen h status refl)
    of_seen false e = rw (standings_past s.taskcount s.tasks t.0 (ltb-false t.0 s.taskcount e))

    if_seen : (k : ℕ) → s.fault ≡ k → turned_of bs b (stepped rs rows s b t choice) ≡ m.turn_if look t choice seen k
    unfolding m.turn_if stepped refused_by changed view_in
    if_seen zero e = rw (eq-eqb s.fault 0 e) (of_seen (ltb t.0 s.taskcount) refl)
    if_seen (suc k) e = rw (ne_eqb s.fault 0 (λ z. omega arith))

-- A turn over the records, seen as a turn of the machine that they stand for.
pub step_means : (bs : List ℕ) → Sound bs → (s : Records) (b : Values) → Arrays s b → Fit bs s b → (t : Task) (choice : ℕ)
    → turned_of bs b (stepped (body_of bs) (row_count bs) s b t choice) ≡ m.turn (image_look (rows_of bs)) t choice (view bs s b)
unfolding m.turn rows_of view_in
step_means bs sound s b a f t choice = if_seen bs sound s b a f t choice s.fault refl
