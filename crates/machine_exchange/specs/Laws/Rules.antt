-- The tables of the rules, by what the code has read: k is the channel's record, f and g who waits.
use Rattle.std.specs.Prelude.{◌≡◌, refl, Bool, cond, Option, Some, None, List, ℕ, ◌<◌, ◌≤◌}
use Rattle.std.proofs.Common.{sym, ◌∙◌, lt-ltb, le-ltb}
use Rattle.std.proofs.Math.Path.{ap}
use Rattle.std.proofs.Math.Bool.{true, false}
use Rattle.std.proofs.Math.Dec.{ltb}
use Rattle.meaning.specs.Numbers.{send_on_closed, close_of_closed, close_under_sender}
use Rattle.machine_exchange.specs.Kinds.{Chan, Row, On, Op, Send, Forward, Recv, ChanState, Waiter, Receiving, Sending, Plan}
use Rattle.meaning.specs.Bytes.{capacity_in}
use Rattle.machine_records.specs.Records.{Records, chan_in}
use Rattle.machine_records.specs.Values.{Values, oldest}
use Rattle.machine_records.specs.Waiters.{first_waiter}
use Rattle.machine_records.specs.Rules.{send_on, has_room, send_to, receive_on, receive_from, sent_by, attempt, close_on, close_port}
use Rattle.machine_records.specs.Step.{or_wait}
use Rattle.machine_exchange.specs.Exchange.{exchange_of, exchanged, received_from}

pub attempt_is : (rs : List ℕ) (rows : ℕ) (s : Records) (b : Values) (register : ℕ) (o : Op) (hit miss : Row) → exchanged rs rows s b (exchange_of o register) hit miss ≡ or_wait (attempt rs rows s b register o hit miss)
attempt_is rs rows s b register (Send p v) hit miss = refl
attempt_is rs rows s b register (Forward p) hit miss = refl
attempt_is rs rows s b register (Recv p) hit miss = refl

module _ (rs : List ℕ) (s : Records) (c : Chan) (k : ChanState) (ek : k ≡ chan_in s.chans c) where
  closed_is : (q : Bool) → k.closed ≡ q → (chan_in s.chans c).closed ≡ q
  closed_is q e = ap (λ (z : ChanState). z.closed) (sym ek) ∙ e

  -- SEND
  module _ (rows v : ℕ) (next : Row) where
    abbrev sent : Plan
    sent = or_wait (send_to rs rows s (On c) v next)

    pub send_closed : k.closed ≡ true → Plan.Fail send_on_closed (On c) ≡ sent
    unfolding send_to
    send_closed e = ap (λ q. or_wait (send_on c v next q (first_waiter rs s Receiving c) (has_room rs rows s c))) (sym (closed_is true e))

    module _ (e : k.closed ≡ false) (f : Option Waiter) (ef : f ≡ first_waiter rs s Receiving c) where
      open_with : (g : Option Waiter) → f ≡ g → or_wait (send_on c v next false g (has_room rs rows s c)) ≡ sent
      unfolding send_to
      open_with g h =
          ap (λ z. or_wait (send_on c v next false z (has_room rs rows s c))) (sym h ∙ ef)
          ∙ ap (λ q. or_wait (send_on c v next q (first_waiter rs s Receiving c) (has_room rs rows s c))) (sym (closed_is false e))

      pub send_hands : (w : Waiter) → f ≡ Some w → Plan.Hand c v next w.task w.offer.hit ≡ sent
      send_hands w h = open_with (Some w) h

      module _ (none : f ≡ None) (capacity : ℕ) (ec : capacity ≡ capacity_in rs rows c) where
        room_is : (q : Bool) → ltb k.len capacity ≡ q → has_room rs rows s c ≡ q
        room_is q h = ap (λ (z : ChanState). ltb z.len (capacity_in rs rows c)) (sym ek) ∙ ap (ltb k.len) (sym ec) ∙ h

        pub send_appends : k.len < capacity → Plan.Append c v next ≡ sent
        send_appends h = ap (λ q. or_wait (send_on c v next false None q)) (sym (room_is true (lt-ltb _ _ h))) ∙ open_with None none

        pub send_waits : capacity ≤ k.len → Plan.Wait ≡ sent
        send_waits h = ap (λ q. or_wait (send_on c v next false None q)) (sym (room_is false (le-ltb _ _ h))) ∙ open_with None none

  -- RECEIVE
  module _ (b : Values) (hit miss : Row) (v : ℕ) (ev : v ≡ oldest b c) (f : Option Waiter) (ef : f ≡ first_waiter rs s Sending c) where
    abbrev received : Plan
    received = or_wait (receive_from rs s b (On c) hit miss)

    by : (q : Bool) (g : Option Waiter) (z : Bool) → ltb 0 k.len ≡ q → f ≡ g → k.closed ≡ z → or_wait (receive_on s c hit miss v q g z) ≡ received
    unfolding receive_from
    by q g z eq eg ez =
        ap (λ i. or_wait (receive_on s c hit miss v i g z)) (sym eq ∙ ap (λ (y : ChanState). ltb 0 y.len) ek)
        ∙ ap (λ i. or_wait (receive_on s c hit miss v (ltb 0 (chan_in s.chans c).len) i z)) (sym eg ∙ ef)
        ∙ ap (λ i. or_wait (receive_on s c hit miss v (ltb 0 (chan_in s.chans c).len) (first_waiter rs s Sending c) i)) (sym (closed_is z ez))
        ∙ ap (λ i. or_wait (receive_on s c hit miss i (ltb 0 (chan_in s.chans c).len) (first_waiter rs s Sending c) (chan_in s.chans c).closed)) ev

    pub receive_meets : (w : Waiter) → f ≡ Some w → received_from s c hit v k.len w ≡ received
    receive_meets w h = go (ltb 0 k.len) refl
      where
        go : (q : Bool) → ltb 0 k.len ≡ q → cond q (Plan.Refill c v hit w.task (sent_by s w) w.offer.hit) (Plan.Receive c (sent_by s w) hit w.task w.offer.hit) ≡ received
        go true e = by true (Some w) k.closed e h refl
        go false e = by false (Some w) k.closed e h refl

    module _ (none : f ≡ None) where
      pub receive_takes : 0 < k.len → Plan.Take c v hit ≡ received
      receive_takes h = by true None k.closed (lt-ltb _ _ h) none refl

      pub receive_drains : k.len ≤ 0 → k.closed ≡ true → Plan.Drain c miss ≡ received
      receive_drains h e = by false None true (le-ltb _ _ h) none e

      pub receive_waits : k.len ≤ 0 → k.closed ≡ false → Plan.Wait ≡ received
      receive_waits h e = by false None false (le-ltb _ _ h) none e

  -- CLOSE
  module _ (next : Row) where
    abbrev shut : Plan
    shut = close_port rs s (On c) next

    pub close_closed : k.closed ≡ true → Plan.Fail close_of_closed (On c) ≡ shut
    unfolding close_port
    close_closed e = ap (λ q. close_on c next q (first_waiter rs s Receiving c) (first_waiter rs s Sending c)) (sym (closed_is true e))

    module _ (e : k.closed ≡ false) (f : Option Waiter) (ef : f ≡ first_waiter rs s Receiving c) where
      to : (g h : Option Waiter) → f ≡ g → h ≡ first_waiter rs s Sending c → close_on c next false g h ≡ shut
      unfolding close_port
      to g h eg eh =
          ap (λ z. close_on c next false z h) (sym eg ∙ ef)
          ∙ ap (λ z. close_on c next false (first_waiter rs s Receiving c) z) eh
          ∙ ap (λ q. close_on c next q (first_waiter rs s Receiving c) (first_waiter rs s Sending c)) (sym (closed_is false e))

      pub close_wakes : (w : Waiter) → f ≡ Some w → Plan.Shut c next ≡ shut
      close_wakes w h = to (Some w) (first_waiter rs s Sending c) h refl

      module _ (none : f ≡ None) (g : Option Waiter) (eg : g ≡ first_waiter rs s Sending c) where
        pub close_under : (w : Waiter) → g ≡ Some w → Plan.Fail close_under_sender (On c) ≡ shut
        close_under w h = to None (Some w) none (sym h ∙ eg)

        pub close_idle : g ≡ None → Plan.Shut c next ≡ shut
        close_idle h = to None None none (sym h ∙ eg)
