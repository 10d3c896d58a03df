-- A map h of points that carries one `look` to another carries turns to turns: no rule asks what a point is.
use Rattle.std.specs.Prelude.{◌≡◌, Bool, cond, length}
use Rattle.std.proofs.Math.Path.{refl, ap, ap₂, sym}
use Rattle.std.proofs.Common.{◌∙◌}
use Rattle.std.proofs.Math.Bool.{true, false}
use Rattle.std.proofs.Math.Option
use Rattle.std.proofs.Math.Option.{Option, none, some}
use mathlib.Core.List.{List, [], ◌∷◌, ◌++◌, map, map-map, map-append}
use Prim.Native.Nat.{ℕ, zero, suc, ◌%◌}
use Rattle.std.proofs.Math.ListN.{get_elem?, get_or-map}
use Rattle.std.proofs.lemmas.List.{length-map}
use Rattle.meaning_laws.specs.Kinds.{Task, Chan, Port, Nil, On, Op, Send, Forward, Recv, Status, Able, Waiting, Ended, Closed}
use Rattle.meaning.specs.Machine.{Case, Look, tries, closes, branches, asks, ends, Standing, Machine, Turned, Waiter, fresh, seen, receives_on, sends_on, channel_at, shut, gets, goes, put, store, did, wake, wake_all, send_on, receive_on, close_on, choose, cases_of, first_case, waiter_by, add_if, waiter_at, waiters_in, waiters, send_to, receive_from, attempt, ready, close, act, turn_as, turn_of, turn_if, turn, runs, seen_turn}
use Rattle.meaning_laws.specs.Laws.Lists.{map-set, map_at}

module _ {P Q : Type 0} (h : P → Q) where
  abbrev pub map_case : Case P → Case Q
  map_case k = record { op = k.op; hit = h k.hit; miss = h k.miss }

  abbrev pub map_look : Look P → Look Q
  map_look (tries ks d) = tries (map map_case ks) (Option.map h d)
  map_look (closes p n) = closes p (h n)
  map_look (branches n) = branches (h n)
  map_look (asks y n) = asks (h y) (h n)
  map_look ends = ends

  abbrev pub map_standing : Standing P → Standing Q
  map_standing x = record { status = x.status; register = x.register; ok = x.ok; point = h x.point }

  abbrev pub map_machine : Machine P → Machine Q
  map_machine m = record { tasks = map map_standing m.tasks; order = m.order; channels = m.channels; fault = m.fault; named = m.named; stamp = m.stamp }

  abbrev pub map_turned : Turned P → Turned Q
  map_turned r = record { event = r.event; after = map_machine r.after }

  abbrev map_waiter : Waiter P → Waiter Q
  map_waiter w = record { who = w.who; standing = map_standing w.standing; by = map_case w.by }

pub cond_map : {A B : Type 0} (f : A → B) (b : Bool) (y n : A) → f (cond b y n) ≡ cond b (f y) (f n)
cond_map f true y n = refl
cond_map f false y n = refl

-- THE RULES, whose tested values are given

module _ {P Q : Type 0} (h : P → Q) where
  wake_all-map : (ws : List (Waiter P)) (m : Machine P) → wake_all (map (map_waiter h) ws) (map_machine h m) ≡ map_machine h (wake_all ws m)
  unfolding wake_all
  wake_all-map [] m = refl
  wake_all-map (w ∷ ws) m =
      let woken : wake (map_waiter h w) (gets 0 false (map_case h w.by)) (map_machine h m) ≡ map_machine h (wake w (gets 0 false w.by) m) = simp map-set in
      ap (wake_all (map (map_waiter h) ws)) woken ∙ wake_all-map ws (wake w (gets 0 false w.by) m)

  first_case-map : (fits : Op → Bool) (ks : List (Case P)) → first_case fits (map (map_case h) ks) ≡ Option.map (map_case h) (first_case fits ks)
  unfolding first_case
  first_case-map fits [] = refl
  first_case-map fits (k ∷ ks) = ap (cond (fits k.op) (some (map_case h k))) (first_case-map fits ks) ∙ sym (cond_map (Option.map (map_case h)) (fits k.op) (some k) (first_case fits ks))

  add_if-map : (o : Option (Turned P)) (rs : List (Turned P)) → add_if (Option.map (map_turned h) o) (map (map_turned h) rs) ≡ map (map_turned h) (add_if o rs)
  unfolding add_if
  add_if-map none rs = refl
  add_if-map (some r) rs = refl

  cases_of_map : (l : Look P) → cases_of (map_look h l) ≡ map (map_case h) (cases_of l)
  unfolding cases_of
  cases_of_map (tries ks d) = refl
  cases_of_map (closes p n) = refl
  cases_of_map (branches n) = refl
  cases_of_map (asks y n) = refl
  cases_of_map ends = refl

  waiter_by-map : (t : Task) (x : Standing P) (o : Option (Case P)) → waiter_by t (map_standing h x) (Option.map (map_case h) o) ≡ map (map_waiter h) (waiter_by t x o)
  unfolding waiter_by
  waiter_by-map t x none = refl
  waiter_by-map t x (some k) = refl

  module _ (me : Task) (x : Standing P) (m : Machine P) where
    send_on-map : (c : Chan) (v : ℕ) (k : Case P) (b : Bool) (rs : List (Waiter P)) (r : Bool)
        → send_on me (map_standing h x) (map_machine h m) c v (map_case h k) b (map (map_waiter h) rs) r ≡ Option.map (map_turned h) (send_on me x m c v k b rs r)
    unfolding send_on
    send_on-map c v k true rs r = refl
    send_on-map c v k false (w ∷ rs) r = simp map-set
    send_on-map c v k false [] true = simp map-set
    send_on-map c v k false [] false = refl

    receive_on-map : (c : Chan) (k : Case P) (vs : List ℕ) (ss : List (Waiter P)) (b : Bool)
        → receive_on me (map_standing h x) (map_machine h m) c (map_case h k) vs (map (map_waiter h) ss) b ≡ Option.map (map_turned h) (receive_on me x m c k vs ss b)
    unfolding receive_on
    receive_on-map c k (v ∷ vs) (s ∷ ss) b = simp map-set
    receive_on-map c k (v ∷ vs) [] b = simp map-set
    receive_on-map c k [] (s ∷ ss) b = simp map-set
    receive_on-map c k [] [] true = simp map-set
    receive_on-map c k [] [] false = refl

    shut-map : (c : Chan) (p : P)
        → store c (shut (channel_at m.channels c)) (put me (goes (h p) (map_standing h x)) (map_machine h m)) ≡ map_machine h (store c (shut (channel_at m.channels c)) (put me (goes p x) m))
    shut-map c p = simp map-set

    close_on-map : (c : Chan) (p : P) (b : Bool) (rs ss : List (Waiter P))
        → close_on me (map_standing h x) (map_machine h m) c (h p) b (map (map_waiter h) rs) (map (map_waiter h) ss) ≡ map_turned h (close_on me x m c p b rs ss)
    unfolding close_on
    close_on-map c p true rs ss = refl
    close_on-map c p false (r ∷ rs) ss =
        let after = store c (shut (channel_at m.channels c)) (put me (goes p x) m) in
        ap₂ (λ n M. did (Closed c (suc n)) M) (length-map rs (map_waiter h)) (ap (wake_all (map_waiter h r ∷ map (map_waiter h) rs)) (shut-map c p) ∙ wake_all-map (r ∷ rs) after)
    close_on-map c p false [] (s ∷ ss) = refl
    close_on-map c p false [] [] = simp map-set

    choose-map : (rs : List (Turned P)) (d : Option P) (choice : ℕ)
        → choose me (map_standing h x) (map_machine h m) (map (map_turned h) rs) (Option.map h d) choice ≡ map_turned h (choose me x m rs d choice)
    unfolding choose
    choose-map (r ∷ rs) d choice = rw (length-map rs (map_turned h)) (get_or-map (map_turned h) (r ∷ rs) (choice % suc (length rs)) r)
    choose-map [] (some p) choice = simp map-set
    choose-map [] none choice = simp map-set

-- THE TURN

module _ {P Q : Type 0} (h : P → Q) (look : P → Look P) (look' : Q → Look Q) (same : (p : P) → look' (h p) ≡ map_look h (look p)) where
  waiter_at-map : (fits : Op → Bool) (t : Task) (o : Option (Standing P)) → waiter_at look' fits t (Option.map (map_standing h) o) ≡ map (map_waiter h) (waiter_at look fits t o)
  unfolding waiter_at
  waiter_at-map fits t none = refl
  waiter_at-map fits t (some x) =
      let ks = cases_of (look x.point) in
      rw (same x.point, cases_of_map h (look x.point), first_case-map h fits ks) (waiter_by-map h t x (first_case fits ks))

  waiters_in-map : (fits : Op → Bool) (xs : List (Standing P)) (ts : List Task) → waiters_in look' fits (map (map_standing h) xs) ts ≡ map (map_waiter h) (waiters_in look fits xs ts)
  unfolding waiters_in
  waiters_in-map fits xs [] = refl
  waiters_in-map fits xs (t ∷ ts) =
      let first = waiter_at look fits t (get_elem? xs t.0) in
      ap₂ ◌++◌ (ap (waiter_at look' fits t) (map_at (map_standing h) xs t.0) ∙ waiter_at-map fits t (get_elem? xs t.0)) (waiters_in-map fits xs ts)
      ∙ sym (map-append (map_waiter h) first (waiters_in look fits xs ts))

  waiters-map : (fits : Op → Bool) (m : Machine P) → waiters look' fits (map_machine h m) ≡ map (map_waiter h) (waiters look fits m)
  unfolding waiters
  waiters-map fits m = waiters_in-map fits m.tasks m.order

  module _ (me : Task) (choice : ℕ) (x : Standing P) (m : Machine P) where
    send_to-map : (p : Port) (v : ℕ) (k : Case P) → send_to look' me choice (map_standing h x) (map_machine h m) p v (map_case h k) ≡ Option.map (map_turned h) (send_to look me choice x m p v k)
    unfolding send_to
    send_to-map Nil v k = refl
    send_to-map (On c) v k = rw (waiters-map (receives_on c) m) (send_on-map h me x m c v k _ (waiters look (receives_on c) m) _)

    receive_from-map : (p : Port) (k : Case P) → receive_from look' me choice (map_standing h x) (map_machine h m) p (map_case h k) ≡ Option.map (map_turned h) (receive_from look me choice x m p k)
    unfolding receive_from
    receive_from-map Nil k = refl
    receive_from-map (On c) k = rw (waiters-map (sends_on c) m) (receive_on-map h me x m c k _ (waiters look (sends_on c) m) _)

    attempt-map : (o : Op) (k : Case P) → attempt look' me choice (map_standing h x) (map_machine h m) o (map_case h k) ≡ Option.map (map_turned h) (attempt look me choice x m o k)
    unfolding attempt
    attempt-map (Send p v) k = send_to-map p v k
    attempt-map (Forward p) k = send_to-map p x.register k
    attempt-map (Recv p) k = receive_from-map p k

    ready-map : (ks : List (Case P)) → ready look' me choice (map_standing h x) (map_machine h m) (map (map_case h) ks) ≡ map (map_turned h) (ready look me choice x m ks)
    unfolding ready
    ready-map [] = refl
    ready-map (k ∷ ks) = ap₂ add_if (attempt-map k.op k) (ready-map ks) ∙ add_if-map h (attempt look me choice x m k.op k) (ready look me choice x m ks)

    close-map : (p : Port) (n : P) → close look' me choice (map_standing h x) (map_machine h m) p (h n) ≡ map_turned h (close look me choice x m p n)
    unfolding close
    close-map Nil n = refl
    close-map (On c) n = rw (waiters-map (sends_on c) m, waiters-map (receives_on c) m) (close_on-map h me x m c n _ (waiters look (receives_on c) m) (waiters look (sends_on c) m))

    act-map : (l : Look P) → act look' me choice (map_standing h x) (map_machine h m) (map_look h l) ≡ map_turned h (act look me choice x m l)
    unfolding act
    act-map (tries ks d) = rw (ready-map ks) (choose-map h me x m (ready look me choice x m ks) d choice)
    act-map (closes p n) = close-map p n
    act-map (branches n) = simp map-set
    act-map (asks y n) = simp (cond_map h, map-set)
    act-map ends = simp map-set

    turn_as-map : (s : Status) → turn_as look' me choice (map_standing h x) (map_machine h m) s ≡ map_turned h (turn_as look me choice x m s)
    unfolding turn_as
    turn_as-map Ended = refl
    turn_as-map Waiting = refl
    turn_as-map Able = rw (same x.point) (act-map (look x.point))

  turn_of_map : (t : Task) (choice : ℕ) (m : Machine P) (o : Option (Standing P)) → turn_of look' t choice (map_machine h m) (Option.map (map_standing h) o) ≡ map_turned h (turn_of look t choice m o)
  unfolding turn_of
  turn_of_map t choice m none = refl
  turn_of_map t choice m (some x) = turn_as-map t choice x m x.status

  turn_if-map : (t : Task) (choice : ℕ) (m : Machine P) (f : ℕ) → turn_if look' t choice (map_machine h m) f ≡ map_turned h (turn_if look t choice m f)
  unfolding turn_if
  turn_if-map t choice m (suc f) = refl
  turn_if-map t choice m zero = rw (map_at (map_standing h) m.tasks t.0) (turn_of_map t choice m (get_elem? m.tasks t.0))

  pub turn-map : (t : Task) (choice : ℕ) (m : Machine P) → turn look' t choice (map_machine h m) ≡ map_turned h (turn look t choice m)
  unfolding turn
  turn-map t choice m = turn_if-map t choice m m.fault

  pub runs_map : (ss : List (Task × ℕ)) (m : Machine P) → runs look' ss (map_machine h m) ≡ map (map_turned h) (runs look ss m)
  unfolding runs
  runs_map [] m = refl
  runs_map (s ∷ ss) m =
      let r = turn look s.0 s.1 m in
      rw (turn-map s.0 s.1 m) (ap (λ rs. map_turned h r ∷ rs) (runs_map ss r.after))

pub fresh-map : {P Q : Type 0} (h : P → Q) (capacities : List ℕ) (ps : List P) → map_machine h (fresh capacities ps) ≡ fresh capacities (map h ps)
unfolding fresh
fresh-map h capacities ps = simp map-map

-- WHAT IS SEEN OF A TURN

seen-map : {P Q : Type 0} (h : P → Q) (m : Machine P) → seen (map_machine h m) ≡ seen m
unfolding seen
seen-map h m = simp map-map

pub runs_seen : {P Q : Type 0} (h : P → Q) (look : P → Look P) (look' : Q → Look Q) → ((p : P) → look' (h p) ≡ map_look h (look p))
    → (ss : List (Task × ℕ)) (m : Machine P) → map seen_turn (runs look' ss (map_machine h m)) ≡ map seen_turn (runs look ss m)
runs_seen h look look' same ss m = ap (map seen_turn) (runs_map h look look' same ss m) ∙ each (runs look ss m)
  where
    each : (rs : List (Turned _)) → map seen_turn (map (map_turned h) rs) ≡ map seen_turn rs
    each [] = refl
    each (r ∷ rs) = ap₂ (λ k ks. (r.event, k) ∷ ks) (seen-map h r.after) (each rs)
