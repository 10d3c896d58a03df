-- The ways a turn can go, each with what its rule found. A law of what turns leave behind is proved case by case over these,
-- and not through the rules again.
use Rattle.std.specs.Prelude.{◌≡◌, Bool, cond, length}
use Rattle.std.proofs.Math.Path.{refl}
use Rattle.std.proofs.Math.Bool.{true, false}
use Rattle.std.proofs.Math.Option.{Option, none, some}
use mathlib.Core.List.{List, [], ◌∷◌, ◌++◌}
use Prim.Native.Nat.{ℕ, zero, suc, ◌%◌, ◌≤◌}
use Rattle.std.proofs.Common.{arith}
use Rattle.std.proofs.Math.ListN.{get_elem?}
use Rattle.meaning_laws.specs.Kinds.{Task, Chan, Port, Nil, On, Op, Send, Forward, Recv, Status, Able, Waiting, Ended, Appended, Handed, Taken, Refilled, Received, Drained, Closed, Waits, Branched, Finished}
use Rattle.meaning.specs.Numbers.{no_fault, send_on_closed, close_of_nil, close_of_closed, close_under_sender, halted, no_such_task, has_ended, is_waiting}
use Rattle.meaning.specs.Machine.{Case, Look, tries, closes, branches, asks, ends, Standing, Machine, Turned, Waiter, Channel, receives_on, sends_on, channel_at, holding, shut, has_room, gets, stays, put, queue, store, did, refused, wake, wake_all, sent_by, sender, moved, took, channel, fails, send_on, receive_on, close_on, choose, add_if, waiters, send_to, receive_from, attempt, ready, close, act, turn_as, turn_of, turn_if, turn}
use Rattle.meaning_laws.specs.Lists.{All}
use Rattle.meaning_laws.specs.Laws.Lists.{all_get}

module _ {P : Type 0} (look : P → Look P) (me : Task) (choice : ℕ) (m : Machine P) where
  abbrev at : Chan → Channel
  at c = channel_at m.channels c

  abbrev receivers : Chan → List (Waiter P)
  receivers c = waiters look (receives_on c) m

  abbrev senders : Chan → List (Waiter P)
  senders c = waiters look (sends_on c) m

  -- The turn that `me` takes, where it stands as x and is able.
  module _ (x : Standing P) where
    pub data Move : Turned P → Type 0 where
      faults : (f : ℕ) (p : Port) → f ≤ close_under_sender → Move (fails me x m f p)
      hands : (c : Chan) (v : ℕ) (k : Case P) (r : Waiter P) (rs : List (Waiter P)) → (at c).closed ≡ false → receivers c ≡ r ∷ rs
          → Move (did (Handed c v r.who) (wake r (gets v true r.by) (moved me x m k.hit)))
      appends : (c : Chan) (v : ℕ) (k : Case P) → (at c).closed ≡ false → receivers c ≡ [] → has_room (at c) ≡ true
          → Move (did (Appended c v) (store c (holding ((at c).buffer ++ v ∷ []) (at c)) (moved me x m k.hit)))
      refills : (c : Chan) (k : Case P) (v : ℕ) (vs : List ℕ) (s : Waiter P) (ss : List (Waiter P)) → (at c).buffer ≡ v ∷ vs → senders c ≡ s ∷ ss
          → Move (did (Refilled c v s.who) (wake s (sender s) (store c (holding (vs ++ sent_by s ∷ []) (at c)) (took me x m v true k))))
      takes : (c : Chan) (k : Case P) (v : ℕ) (vs : List ℕ) → (at c).buffer ≡ v ∷ vs → senders c ≡ []
          → Move (did (Taken c v) (store c (holding vs (at c)) (took me x m v true k)))
      receives : (c : Chan) (k : Case P) (s : Waiter P) (ss : List (Waiter P)) → (at c).buffer ≡ [] → senders c ≡ s ∷ ss
          → Move (did (Received c (sent_by s) s.who) (wake s (sender s) (took me x m (sent_by s) true k)))
      drains : (c : Chan) (k : Case P) → (at c).buffer ≡ [] → senders c ≡ [] → (at c).closed ≡ true
          → Move (did (Drained c) (took me x m 0 false k))
      wakes : (c : Chan) (p : P) (r : Waiter P) (rs : List (Waiter P)) → (at c).closed ≡ false → receivers c ≡ r ∷ rs
          → Move (did (Closed c (length (r ∷ rs))) (wake_all (r ∷ rs) (store c (shut (at c)) (moved me x m p))))
      shuts : (c : Chan) (p : P) → (at c).closed ≡ false → receivers c ≡ [] → senders c ≡ []
          → Move (did (Closed c 0) (store c (shut (at c)) (moved me x m p)))
      waits : (ks : List (Case P)) → look x.point ≡ tries ks none → ready look me choice x m ks ≡ []
          → Move (did Waits (put me (stays Waiting x) (queue (m.order ++ me ∷ []) m)))
      goes_on : (p : P) → Move (did Branched (moved me x m p))
      finishes : Move (did Finished (put me (stays Ended x) m))

  pub data Outcome : Turned P → Type 0 where
    refuses : (n : ℕ) → Outcome (refused n m)
    moves : (x : Standing P) (r : Turned P) → m.fault ≡ no_fault → get_elem? m.tasks me.0 ≡ some x → x.status ≡ Able → Move x r → Outcome r

-- EVERY TURN IS ONE OF THESE

module _ {P : Type 0} (look : P → Look P) where
  module _ (me : Task) (choice : ℕ) (x : Standing P) (m : Machine P) where
    -- An operation that does not wait is a move.
    abbrev Tried : Option (Turned P) → Type 0
    Tried none = Unit {0}
    Tried (some r) = Move look me choice m x r

    send_move : (c : Chan) (v : ℕ) (k : Case P) (b : Bool) (rs : List (Waiter P)) (r : Bool)
        → (channel me x m c).closed ≡ b → waiters look (receives_on c) m ≡ rs → has_room (channel me x m c) ≡ r → Tried (send_on me x m c v k b rs r)
    unfolding send_on
    send_move c v k true rs r e f g = faults send_on_closed (On c) (omega arith)
    send_move c v k false (w ∷ rs) r e f g = hands c v k w rs e f
    send_move c v k false [] true e f g = appends c v k e f g
    send_move c v k false [] false e f g = tt

    receive_move : (c : Chan) (k : Case P) (vs : List ℕ) (ss : List (Waiter P)) (b : Bool)
        → (channel me x m c).buffer ≡ vs → waiters look (sends_on c) m ≡ ss → (channel me x m c).closed ≡ b → Tried (receive_on me x m c k vs ss b)
    unfolding receive_on
    receive_move c k (v ∷ vs) (s ∷ ss) b e f g = refills c k v vs s ss e f
    receive_move c k (v ∷ vs) [] b e f g = takes c k v vs e f
    receive_move c k [] (s ∷ ss) b e f g = receives c k s ss e f
    receive_move c k [] [] true e f g = drains c k e f g
    receive_move c k [] [] false e f g = tt

    attempt_move : (o : Op) (k : Case P) → Tried (attempt look me choice x m o k)
    unfolding attempt send_to receive_from
    attempt_move (Send Nil v) k = tt
    attempt_move (Send (On c) v) k = send_move c v k _ _ _ refl refl refl
    attempt_move (Forward Nil) k = tt
    attempt_move (Forward (On c)) k = send_move c x.register k _ _ _ refl refl refl
    attempt_move (Recv Nil) k = tt
    attempt_move (Recv (On c)) k = receive_move c k _ _ _ refl refl refl

    add_move : (o : Option (Turned P)) (rs : List (Turned P)) → Tried o → All (Move look me choice m x) rs → All (Move look me choice m x) (add_if o rs)
    unfolding add_if
    add_move none rs t a = a
    add_move (some r) rs t a = (t, a)

    ready_moves : (ks : List (Case P)) → All (Move look me choice m x) (ready look me choice x m ks)
    unfolding ready
    ready_moves [] = tt
    ready_moves (k ∷ ks) = add_move (attempt look me choice x m k.op k) (ready look me choice x m ks) (attempt_move k.op k) (ready_moves ks)

    choose_move : (rs : List (Turned P)) (ks : List (Case P)) (d : Option P) → All (Move look me choice m x) rs → look x.point ≡ tries ks d → ready look me choice x m ks ≡ rs → Move look me choice m x (choose me x m rs d choice)
    unfolding choose
    choose_move (r ∷ rs) ks d a e h = all_get (Move look me choice m x) (r ∷ rs) (choice % suc (length rs)) r a a.0
    choose_move [] ks (some p) a e h = goes_on p
    choose_move [] ks none a e h = waits ks e h

    close_move : (c : Chan) (p : P) (b : Bool) (rs ss : List (Waiter P)) → (channel me x m c).closed ≡ b → waiters look (receives_on c) m ≡ rs → waiters look (sends_on c) m ≡ ss → Move look me choice m x (close_on me x m c p b rs ss)
    unfolding close_on
    close_move c p true rs ss e f g = faults close_of_closed (On c) (omega arith)
    close_move c p false (r ∷ rs) ss e f g = wakes c p r rs e f
    close_move c p false [] (s ∷ ss) e f g = faults close_under_sender (On c) (omega arith)
    close_move c p false [] [] e f g = shuts c p e f g

    act_move : (l : Look P) → look x.point ≡ l → Move look me choice m x (act look me choice x m l)
    unfolding act close
    act_move (tries ks d) e = choose_move (ready look me choice x m ks) ks d (ready_moves ks) e refl
    act_move (closes Nil p) e = faults close_of_nil Nil (omega arith)
    act_move (closes (On c) p) e = close_move c p _ _ _ refl refl refl
    act_move (branches p) e = goes_on p
    act_move (asks y n) e = goes_on (cond x.ok y n)
    act_move ends e = finishes

    as_outcome : (s : Status) → m.fault ≡ no_fault → get_elem? m.tasks me.0 ≡ some x → x.status ≡ s → Outcome look me choice m (turn_as look me choice x m s)
    unfolding turn_as
    as_outcome Ended z h e = refuses has_ended
    as_outcome Waiting z h e = refuses is_waiting
    as_outcome Able z h e = moves x _ z h e (act_move (look x.point) refl)

  of_outcome : (t : Task) (choice : ℕ) (m : Machine P) (o : Option (Standing P)) → m.fault ≡ no_fault → get_elem? m.tasks t.0 ≡ o → Outcome look t choice m (turn_of look t choice m o)
  unfolding turn_of
  of_outcome t choice m none z h = refuses no_such_task
  of_outcome t choice m (some x) z h = as_outcome t choice x m x.status z h refl

  if_outcome : (t : Task) (choice : ℕ) (m : Machine P) (f : ℕ) → m.fault ≡ f → Outcome look t choice m (turn_if look t choice m f)
  unfolding turn_if
  if_outcome t choice m (suc f) z = refuses halted
  if_outcome t choice m zero z = of_outcome t choice m (get_elem? m.tasks t.0) z refl

  pub outcome : (t : Task) (choice : ℕ) (m : Machine P) → Outcome look t choice m (turn look t choice m)
  unfolding turn
  outcome t choice m = if_outcome t choice m m.fault refl
