-- No waiting task could proceed: a fresh start is calm, every turn keeps it, and in a calm machine no case of a waiting task is
-- ready. (Its own cases do not serve as its partner: the task is taken out of the order.)
use Rattle.std.proofs.Math.Path.{◌≡◌, refl, sym, subst}
use Rattle.std.proofs.Common.{ap, ◌∙◌, inl, inr, arith, length-append, get_or-set_other, eqb-true, eq-eqb}
use Rattle.std.specs.Prelude.{◌⊎◌, Bool, length, set, ltb}
use Rattle.std.proofs.Math.Bool.{true, false, cond}
use Rattle.std.proofs.Math.Option.{Option, none, some}
use mathlib.Core.List.{List, [], ◌∷◌, ◌++◌, map}
use Prim.Native.Nat.{ℕ, zero, suc}
use Rattle.std.proofs.Math.Decide.{ℕ_discrete}
use Rattle.std.proofs.Math.ListN.{get_elem?}
use Rattle.meaning_laws.specs.Kinds.{Task, Chan, Nil, On, Op, Send, Forward, Recv, Status, Able, Waiting, Ended}
use Rattle.meaning.specs.Machine.{Case, Look, tries, Standing, Channel, Machine, Turned, Waiter, fresh, is_on, receives_on, sends_on, channel_at, holding, shut, has_room, without, gets, goes, stays, store, wake, wake_all, sent_by, sender, moved, send_on, receive_on, cases_of, first_case, add_if, waiters_in, waiters, send_to, receive_from, attempt, ready, turn, runs}
use Rattle.meaning_laws.specs.Lists.{All}
use Rattle.meaning_laws.specs.Calm.{Empty, Full, Calm, aside, WaitsAt, Offers}
use Rattle.meaning_laws.specs.Laws.Lists.{all_weaken}
use Rattle.meaning_laws.specs.Laws.Runs.{runs_keep}
use Rattle.meaning_laws.specs.Laws.Outcome.{Move, faults, hands, appends, refills, takes, receives, drains, wakes, shuts, waits, goes_on, finishes, Outcome, refuses, moves, outcome}
use Rattle.meaning_laws.specs.Fits.{mark, Fits}
use Rattle.meaning_laws.specs.Laws.Fits.{waiting_at_lem, fits_turn, times_out, times_other}
use Rattle.meaning_laws.specs.Laws.WhoWaits.{is_waiting_lem, Found, found_in, first_waits, waiters_all, nobody_waits}

-- WHO STILL WAITS

-- Of two different constructors nothing is left to show.
nothing : {A : Type 0} (a : A) → none ≡ some a → ⊥
nothing a e = let z : ◌≡◌ {A = ℕ} 0 1 = cc in omega (arith, z)

both : (b : Bool) → b ≡ true → b ≡ false → ⊥
both b p q = let z : ◌≡◌ {A = ℕ} 0 1 = cc in omega (arith, z)

filled : (l : List ℕ) (v : ℕ) (vs : List ℕ) → l ≡ v ∷ vs → l ≡ [] → ⊥
filled l v vs p q = let z : ◌≡◌ {A = ℕ} 0 1 = cc in omega (arith, z)

unmarked : (s : Status) → mark s ≡ 0 → s ≡ Waiting → ⊥
unmarked s a b = let z : mark s ≡ 1 = ap mark b in omega (arith, z, a)

module _ {P : Type 0} where
  at_set : (xs : List (Standing P)) (n k : ℕ) (x y : Standing P) → get_elem? (set xs n x) k ≡ some y → ((k ≡ n) × (y ≡ x)) ⊎ ((get_elem? xs k ≡ some y) × (k ≡ n → ⊥))
  at_set [] n k x y e = absurd (nothing y e)
  at_set (z ∷ zs) zero zero x y e = inl (refl, cc)
  at_set (z ∷ zs) zero (suc k) x y e = inr (e, λ o. omega arith)
  at_set (z ∷ zs) (suc n) zero x y e = inr (e, λ o. omega arith)
  at_set (z ∷ zs) (suc n) (suc k) x y e = elim (at_set zs n k x y e) [ inl p ↦ inl (ap suc p.0, p.1) | inr r ↦ inr (r.0, λ o. r.1 (omega arith)) ]

  either : (xs : List (Standing P)) (t u : Task) (x y : Standing P) → WaitsAt (set xs t.0 x) u y → ((u.0 ≡ t.0) × (y ≡ x)) ⊎ (WaitsAt xs u y × (u.0 ≡ t.0 → ⊥))
  either xs t u x y w = elim (at_set xs t.0 u.0 x y w.at) [ inl p ↦ inl p | inr r ↦ inr (record { at = r.0; status = w.status }, r.1) ]

  -- A task put down as not waiting: the others that wait are those that did.
  still : (xs : List (Standing P)) (t u : Task) (x y : Standing P) → mark x.status ≡ 0 → WaitsAt (set xs t.0 x) u y → WaitsAt xs u y × (u.0 ≡ t.0 → ⊥)
  still xs t u x y q w = elim (either xs t u x y w) [ inl p ↦ absurd (unmarked x.status q (ap (λ z. z.status) (sym p.1) ∙ w.status)) | inr r ↦ r ]

  -- Fewer wait in xs' than in xs.
  abbrev Fewer : List (Standing P) → List (Standing P) → Type 0
  Fewer xs' xs = (u : Task) (y : Standing P) → WaitsAt xs' u y → WaitsAt xs u y

  fewer_set : (xs : List (Standing P)) (t : Task) (x : Standing P) → mark x.status ≡ 0 → Fewer (set xs t.0 x) xs
  fewer_set xs t x q u y w = (still xs t u x y q w).0

  fewer_all : (ws : List (Waiter P)) (m : Machine P) → Fewer (wake_all ws m).tasks m.tasks
  unfolding wake_all
  fewer_all [] m u y w = w
  fewer_all (v ∷ vs) m u y w = fewer_set m.tasks v.who (gets 0 false v.by) refl u y (fewer_all vs (wake v (gets 0 false v.by) m) u y w)

  -- Nobody woken waits.
  none_woken : (ws : List (Waiter P)) (m : Machine P) (u : Task) (y : Standing P) → WaitsAt (wake_all ws m).tasks u y → All (λ v. u.0 ≡ v.who.0 → ⊥) ws
  unfolding wake_all
  none_woken [] m u y w = tt
  none_woken (v ∷ vs) m u y w =
      let next = wake v (gets 0 false v.by) m in
      ((still m.tasks v.who u (gets 0 false v.by) y refl (fewer_all vs next u y w)).1, none_woken vs next u y w)

  pub all_channels : (ws : List (Waiter P)) (m : Machine P) → (wake_all ws m).channels ≡ m.channels
  unfolding wake_all
  all_channels [] m = refl
  all_channels (w ∷ ws) m = all_channels ws (wake w (gets 0 false w.by) m)

-- CALM

channel_same : (Q : Channel → Type 0) (cs : List Channel) (c : Chan) (k : Channel) → Q k → Q (channel_at cs c) → Q (channel_at (set cs c.0 k) c)
channel_same Q cs c k a b = go cs c.0 b
  where
    go : (ds : List Channel) (n : ℕ) → Q (channel_at ds (record { 0 = n })) → Q (channel_at (set ds n k) (record { 0 = n }))
    go [] n b = b
    go (d ∷ ds) zero b = a
    go (d ∷ ds) (suc n) b = go ds n b

same_chan : (c d : Chan) → c.0 ≡ d.0 → c ≡ d
same_chan c d e = ap (λ n. record { 0 = n }) e

module _ {P : Type 0} (look : P → Look P) where
  fewer : (xs' xs : List (Standing P)) (cs : List Channel) → Calm look xs cs → Fewer xs' xs → Calm look xs' cs
  fewer xs' xs cs calm less = record {
    empty = λ c t x k w o. calm.empty c t x k (less t x w) o;
    full = λ c t x k w o. calm.full c t x k (less t x w) o;
    apart = λ c t u x y k j w o v p. calm.apart c t u x y k j (less t x w) o (less u y v) p;
  }

  -- Fewer wait, and one channel has changed.
  module _ (xs' xs : List (Standing P)) (cs : List Channel) (calm : Calm look xs cs) (less : Fewer xs' xs) (c : Chan) (new : Channel)
      (hr : (t : Task) (x : Standing P) (k : Case P) → WaitsAt xs' t x → Offers look (receives_on c) x k → Empty new)
      (hs : (t : Task) (x : Standing P) (k : Case P) → WaitsAt xs' t x → Offers look (sends_on c) x k → Full new) where
    changed : Calm look xs' (set cs c.0 new)
    changed = record { empty = λ d t x k w o. e d t x k w o (ℕ_discrete d.0 c.0); full = λ d t x k w o. f d t x k w o (ℕ_discrete d.0 c.0); apart = (fewer xs' xs cs calm less).apart }
      where
        e : (d : Chan) (t : Task) (x : Standing P) (k : Case P) → WaitsAt xs' t x → Offers look (receives_on d) x k → Dec (d.0 ≡ c.0) → Empty (channel_at (set cs c.0 new) d)
        e d t x k w o (yes i) = subst (λ z. Offers look (receives_on z) x k → Empty (channel_at (set cs c.0 new) z)) (same_chan c d (sym i)) (λ p. channel_same Empty cs c new (hr t x k w p) (calm.empty c t x k (less t x w) p)) o
        e d t x k w o (no i) = subst Empty (sym (get_or-set_other cs c.0 d.0 new _ i)) (calm.empty d t x k (less t x w) o)

        f : (d : Chan) (t : Task) (x : Standing P) (k : Case P) → WaitsAt xs' t x → Offers look (sends_on d) x k → Dec (d.0 ≡ c.0) → Full (channel_at (set cs c.0 new) d)
        f d t x k w o (yes i) = subst (λ z. Offers look (sends_on z) x k → Full (channel_at (set cs c.0 new) z)) (same_chan c d (sym i)) (λ p. channel_same Full cs c new (hs t x k w p) (calm.full c t x k (less t x w) p)) o
        f d t x k w o (no i) = subst Full (sym (get_or-set_other cs c.0 d.0 new _ i)) (calm.full d t x k (less t x w) o)

  -- AN OPERATION THAT WOULD WAIT

  module _ (t : Task) (choice : ℕ) (x : Standing P) (m : Machine P) where
    send_none : (c : Chan) (v : ℕ) (k : Case P) (b : Bool) (rs : List (Waiter P)) (r : Bool) → send_on t x m c v k b rs r ≡ none → (b ≡ false) × (r ≡ false) × (rs ≡ [])
    unfolding send_on
    send_none c v k true rs r e = absurd (nothing _ (sym e))
    send_none c v k false (w ∷ rs) r e = absurd (nothing _ (sym e))
    send_none c v k false [] true e = absurd (nothing _ (sym e))
    send_none c v k false [] false e = (refl, refl, refl)

    receive_none : (c : Chan) (k : Case P) (vs : List ℕ) (ss : List (Waiter P)) (b : Bool) → receive_on t x m c k vs ss b ≡ none → (vs ≡ []) × (b ≡ false) × (ss ≡ [])
    unfolding receive_on
    receive_none c k (v ∷ vs) (s ∷ ss) b e = absurd (nothing _ (sym e))
    receive_none c k (v ∷ vs) [] b e = absurd (nothing _ (sym e))
    receive_none c k [] (s ∷ ss) b e = absurd (nothing _ (sym e))
    receive_none c k [] [] true e = absurd (nothing _ (sym e))
    receive_none c k [] [] false e = (refl, refl, refl)

    idle_receive : (c : Chan) (o : Op) (k : Case P) → receives_on c o ≡ true → attempt look t choice x m o k ≡ none → Empty (channel_at m.channels c) × (waiters look (sends_on c) m ≡ [])
    unfolding receives_on is_on attempt receive_from
    idle_receive c (Send p v) k f e = absurd (both false f refl)
    idle_receive c (Forward p) k f e = absurd (both false f refl)
    idle_receive c (Recv Nil) k f e = absurd (both false f refl)
    idle_receive c (Recv (On d)) k f e =
        let r = receive_none d k _ _ _ e in
        subst (λ z. Empty (channel_at m.channels z) × (waiters look (sends_on z) m ≡ [])) (same_chan d c (sym (eqb-true c.0 d.0 f))) ((r.0, r.1), r.2)

    idle_send : (c : Chan) (o : Op) (k : Case P) → sends_on c o ≡ true → attempt look t choice x m o k ≡ none → Full (channel_at m.channels c) × (waiters look (receives_on c) m ≡ [])
    unfolding sends_on is_on attempt send_to
    idle_send c (Send Nil v) k f e = absurd (both false f refl)
    idle_send c (Send (On d) v) k f e =
        let r = send_none d v k _ _ _ e in
        subst (λ z. Full (channel_at m.channels z) × (waiters look (receives_on z) m ≡ [])) (same_chan d c (sym (eqb-true c.0 d.0 f))) ((r.0, r.1), r.2)
    idle_send c (Forward Nil) k f e = absurd (both false f refl)
    idle_send c (Forward (On d)) k f e =
        let r = send_none d x.register k _ _ _ e in
        subst (λ z. Full (channel_at m.channels z) × (waiters look (receives_on z) m ≡ [])) (same_chan d c (sym (eqb-true c.0 d.0 f))) ((r.0, r.1), r.2)
    idle_send c (Recv p) k f e = absurd (both false f refl)

    -- Of cases that all would wait, the first that fits would wait.
    none_add : (o : Option (Turned P)) (rs : List (Turned P)) → add_if o rs ≡ [] → (o ≡ none) × (rs ≡ [])
    unfolding add_if
    none_add none rs e = (refl, e)
    none_add (some r) rs e = (cc, cc)

    none_ready : (fits : Op → Bool) (ks : List (Case P)) (k : Case P) → ready look t choice x m ks ≡ [] → first_case fits ks ≡ some k → (fits k.op ≡ true) × (attempt look t choice x m k.op k ≡ none)
    unfolding ready first_case
    none_ready fits [] k e b = absurd (nothing k b)
    none_ready fits (j ∷ js) k e b = let a = none_add (attempt look t choice x m j.op j) (ready look t choice x m js) e in go (fits j.op) refl b a.0 (none_ready fits js k a.1)
      where
        go : (g : Bool) → fits j.op ≡ g → cond g (some j) (first_case fits js) ≡ some k → attempt look t choice x m j.op j ≡ none
            → (first_case fits js ≡ some k → (fits k.op ≡ true) × (attempt look t choice x m k.op k ≡ none)) → (fits k.op ≡ true) × (attempt look t choice x m k.op k ≡ none)
        go true h q a ih = let i : j ≡ k = cc in subst (λ z. (fits z.op ≡ true) × (attempt look t choice x m z.op z ≡ none)) i (h, a)
        go false h q a ih = ih q

  -- THE TURN

  module _ (t : Task) (choice : ℕ) (m : Machine P) (fit : Fits look m) (calm : Calm look m.tasks m.channels) (x : Standing P) where
    -- The mover begins to wait, at cases none of which is ready.
    module _ (ks : List (Case P)) (here : look x.point ≡ tries ks none) (idle : ready look t choice x m ks ≡ []) where
      my_receive : (c : Chan) (y : Standing P) (k : Case P) → y ≡ stays Waiting x → Offers look (receives_on c) y k → Empty (channel_at m.channels c) × (waiters look (sends_on c) m ≡ [])
      unfolding cases_of
      my_receive c y k e o =
          let q = none_ready t choice x m (receives_on c) ks k idle (rw here at (subst (λ z. first_case (receives_on c) (cases_of (look z.point)) ≡ some k) e o.first)) in
          idle_receive t choice x m c k.op k q.0 q.1

      my_send : (c : Chan) (y : Standing P) (k : Case P) → y ≡ stays Waiting x → Offers look (sends_on c) y k → Full (channel_at m.channels c) × (waiters look (receives_on c) m ≡ [])
      unfolding cases_of
      my_send c y k e o =
          let q = none_ready t choice x m (sends_on c) ks k idle (rw here at (subst (λ z. first_case (sends_on c) (cases_of (look z.point)) ≡ some k) e o.first)) in
          idle_send t choice x m c k.op k q.0 q.1

      abbrev Either : Task → Standing P → Type 0
      Either u y = ((u.0 ≡ t.0) × (y ≡ stays Waiting x)) ⊎ (WaitsAt m.tasks u y × (u.0 ≡ t.0 → ⊥))

      calm_wait : Calm look (set m.tasks t.0 (stays Waiting x)) m.channels
      calm_wait = record {
        empty = λ c u y k w o. e c u y k o (either m.tasks t u (stays Waiting x) y w);
        full = λ c u y k w o. f c u y k o (either m.tasks t u (stays Waiting x) y w);
        apart = λ c u v y z k j w o w' p. a c u v y z k j o p (either m.tasks t u (stays Waiting x) y w) (either m.tasks t v (stays Waiting x) z w');
      }
        where
          e : (c : Chan) (u : Task) (y : Standing P) (k : Case P) → Offers look (receives_on c) y k → Either u y → Empty (channel_at m.channels c)
          e c u y k o (inl p) = (my_receive c y k p.1 o).0
          e c u y k o (inr w) = calm.empty c u y k w.0 o

          f : (c : Chan) (u : Task) (y : Standing P) (k : Case P) → Offers look (sends_on c) y k → Either u y → Full (channel_at m.channels c)
          f c u y k o (inl p) = (my_send c y k p.1 o).0
          f c u y k o (inr w) = calm.full c u y k w.0 o

          a : (c : Chan) (u v : Task) (y z : Standing P) (k j : Case P) → Offers look (receives_on c) y k → Offers look (sends_on c) z j → Either u y → Either v z → u.0 ≡ v.0
          a c u v y z k j o p (inl q) (inl r) = q.0 ∙ sym r.0
          a c u v y z k j o p (inl q) (inr w) = absurd (nobody_waits look (sends_on c) m fit (my_receive c y k q.1 o).1 v z j w.0 p)
          a c u v y z k j o p (inr w) (inl r) = absurd (nobody_waits look (receives_on c) m fit (my_send c z j r.1 p).1 u y k w.0 o)
          a c u v y z k j o p (inr w) (inr w') = calm.apart c u v y z k j w.0 o w'.0 p

    abbrev at : Chan → Channel
    at c = channel_at m.channels c

    -- The mover and one other task stand anew, neither of them waiting.
    fewer_two : (y : Standing P) (u : Task) (z : Standing P) → mark y.status ≡ 0 → mark z.status ≡ 0 → Fewer (set (set m.tasks t.0 y) u.0 z) m.tasks
    fewer_two y u z p q v s w = fewer_set m.tasks t y p v s (fewer_set (set m.tasks t.0 y) u z q v s w)

    calm_move : (r : Turned P) → Move look t choice m x r → Calm look r.after.tasks r.after.channels
    calm_move r (faults n p h) = calm
    calm_move r (hands c v k w rs e g) = fewer _ m.tasks m.channels calm (fewer_two (goes k.hit x) w.who (gets v true w.by) refl refl)
    calm_move r (appends c v k e g h) =
        let less = fewer_set m.tasks t (goes k.hit x) refl in
        changed _ m.tasks m.channels calm less c (holding ((at c).buffer ++ v ∷ []) (at c))
        (λ u y j w o. absurd (nobody_waits look (receives_on c) m fit g u y j (less u y w) o))
        (λ u y j w o. absurd (both (has_room (at c)) h (calm.full c u y j (less u y w) o).1))
    calm_move r (refills c k v vs s ss e g) =
        let less = fewer_two (gets v true k) s.who (sender s) refl refl in
        let same : length (vs ++ sent_by s ∷ []) ≡ length (at c).buffer = length-append vs (sent_by s ∷ []) ∙ omega (arith, ap length e) in
        changed _ m.tasks m.channels calm less c (holding (vs ++ sent_by s ∷ []) (at c))
        (λ u y j w o. absurd (filled (at c).buffer v vs e (calm.empty c u y j (less u y w) o).0))
        (λ u y j w o. let f = calm.full c u y j (less u y w) o in (f.0, ap (λ n. ltb n (at c).capacity) same ∙ f.1))
    calm_move r (takes c k v vs e g) =
        let less = fewer_set m.tasks t (gets v true k) refl in
        changed _ m.tasks m.channels calm less c (holding vs (at c))
        (λ u y j w o. absurd (filled (at c).buffer v vs e (calm.empty c u y j (less u y w) o).0))
        (λ u y j w o. absurd (nobody_waits look (sends_on c) m fit g u y j (less u y w) o))
    calm_move r (receives c k s ss e g) = fewer _ m.tasks m.channels calm (fewer_two (gets (sent_by s) true k) s.who (sender s) refl refl)
    calm_move r (drains c k e g h) = fewer _ m.tasks m.channels calm (fewer_set m.tasks t (gets 0 false k) refl)
    calm_move r (wakes c p w rs e g) =
        let next = store c (shut (at c)) (moved t x m p) in
        let less : Fewer (wake_all (w ∷ rs) next).tasks m.tasks = λ u y z. fewer_set m.tasks t (goes p x) refl u y (fewer_all (w ∷ rs) next u y z) in
        let one = first_waits look (receives_on c) m fit w rs g in
        subst (Calm look (wake_all (w ∷ rs) next).tasks) (sym (all_channels (w ∷ rs) next))
        (changed _ m.tasks m.channels calm less c (shut (at c))
        (λ u y j z o. absurd (waiters_all look (receives_on c) m fit u y j (less u y z) o (subst (All (λ v. u.0 ≡ v.who.0 → ⊥)) (sym g) (none_woken (w ∷ rs) next u y z))))
        (λ u y j z o. absurd ((none_woken (w ∷ rs) next u y z).0 (sym (calm.apart c w.who u w.standing y w.by j one.0 one.1 (less u y z) o)))))
    calm_move r (shuts c p e g h) =
        let less = fewer_set m.tasks t (goes p x) refl in
        changed _ m.tasks m.channels calm less c (shut (at c))
        (λ u y j w o. absurd (nobody_waits look (receives_on c) m fit g u y j (less u y w) o))
        (λ u y j w o. absurd (nobody_waits look (sends_on c) m fit h u y j (less u y w) o))
    calm_move r (waits ks e g) = calm_wait ks e g
    calm_move r (goes_on p) = fewer _ m.tasks m.channels calm (fewer_set m.tasks t (goes p x) refl)
    calm_move r finishes = fewer _ m.tasks m.channels calm (fewer_set m.tasks t (stays Ended x) refl)

  calm_outcome : (t : Task) (choice : ℕ) (m : Machine P) (r : Turned P) → Fits look m → Calm look m.tasks m.channels → Outcome look t choice m r → Calm look r.after.tasks r.after.channels
  calm_outcome t choice m r fit calm (refuses n) = calm
  calm_outcome t choice m r fit calm (moves x s z h e v) = calm_move t choice m fit calm x s v

  pub calm_turn : (t : Task) (choice : ℕ) (m : Machine P) → Fits look m → Calm look m.tasks m.channels → Calm look (turn look t choice m).after.tasks (turn look t choice m).after.channels
  calm_turn t choice m fit calm = calm_outcome t choice m _ fit calm (outcome look t choice m)

  pub calm_runs : (ss : List (Task × ℕ)) (m : Machine P) → Fits look m → Calm look m.tasks m.channels → All (λ r. Calm look r.after.tasks r.after.channels) (runs look ss m)
  calm_runs ss m fit calm =
      all_weaken (λ r. Fits look r.after × Calm look r.after.tasks r.after.channels) (λ r. Calm look r.after.tasks r.after.channels) (runs look ss m) (λ r q. q.1)
      (runs_keep look (λ n. Fits look n × Calm look n.tasks n.channels) (λ t choice n q. (fits_turn look t choice n q.0, calm_turn t choice n q.0 q.1)) ss m (fit, calm))

  -- NO WAITING TASK COULD PROCEED

  module _ (m : Machine P) (fit : Fits look m) (calm : Calm look m.tasks m.channels) (t : Task) (choice : ℕ) (x : Standing P) (w : WaitsAt m.tasks t x) where
    alone_in : (fits : Op → Bool) → ((u : Task) (y : Standing P) (k : Case P) → WaitsAt m.tasks u y → Offers look fits y k → u.0 ≡ t.0) → waiters look fits (aside t m) ≡ []
    unfolding aside waiters
    alone_in fits only = go (waiters_in look fits m.tasks (without t m.order)) (found_in look fits m.tasks (without t m.order))
      where
        out : (v : Waiter P) → Found look fits m.tasks (without t m.order) v → Dec (v.who.0 ≡ t.0) → ⊥
        out v f (yes i) = omega (arith, f.named, times_out v.who t m.order i)
        out v f (no d) =
            let there = is_waiting_lem v.standing.status (omega (arith, f.named, times_other v.who t m.order d, fit.ordered v.who, waiting_at_lem m.tasks v.who.0 v.standing f.at)) in
            d (only v.who v.standing v.by (record { at = f.at; status = there }) f.offers)

        go : (vs : List (Waiter P)) → All (Found look fits m.tasks (without t m.order)) vs → vs ≡ []
        go [] a = refl
        go (v ∷ vs) a = absurd (out v a.0 (ℕ_discrete v.who.0 t.0))

    send_idle : (c : Chan) (v : ℕ) (k j : Case P) → Offers look (sends_on c) x j → send_to look t choice x (aside t m) (On c) v k ≡ none
    unfolding send_to aside send_on
    send_idle c v k j o =
        let f = calm.full c t x j w o in
        let e = alone_in (receives_on c) (λ u y i z p. calm.apart c u t y x i j z p w o) in
        rw (f.0, e, f.1)

    receive_idle : (c : Chan) (k j : Case P) → Offers look (receives_on c) x j → receive_from look t choice x (aside t m) (On c) k ≡ none
    unfolding receive_from aside receive_on
    receive_idle c k j o =
        let f = calm.empty c t x j w o in
        let e = alone_in (sends_on c) (λ u y i z p. sym (calm.apart c t u x y j i w o z p)) in
        rw (f.0, f.1, e)

    op_idle : (o : Op) (k : Case P) → ((fits : Op → Bool) → fits o ≡ true → (j : Case P) × Offers look fits x j) → attempt look t choice x (aside t m) o k ≡ none
    unfolding attempt receives_on sends_on is_on send_to receive_from
    op_idle (Send Nil v) k up = refl
    op_idle (Send (On c) v) k up = let j = up (sends_on c) (eq-eqb c.0 c.0 refl) in send_idle c v k j.0 j.1
    op_idle (Forward Nil) k up = refl
    op_idle (Forward (On c)) k up = let j = up (sends_on c) (eq-eqb c.0 c.0 refl) in send_idle c x.register k j.0 j.1
    op_idle (Recv Nil) k up = refl
    op_idle (Recv (On c)) k up = let j = up (receives_on c) (eq-eqb c.0 c.0 refl) in receive_idle c k j.0 j.1

    up_first : (fits : Op → Bool) (j : Case P) (js : List (Case P)) (b : Bool) → fits j.op ≡ b → (k : Case P) → first_case fits js ≡ some k → (i : Case P) × (first_case fits (j ∷ js) ≡ some i)
    unfolding first_case
    up_first fits j js true e k h = (j, rw e)
    up_first fits j js false e k h = (k, rw e h)

    ready_none : (ks : List (Case P)) → ((fits : Op → Bool) (k : Case P) → first_case fits ks ≡ some k → (j : Case P) × Offers look fits x j) → ready look t choice x (aside t m) ks ≡ []
    unfolding ready first_case add_if
    ready_none [] up = refl
    ready_none (k ∷ ks) up =
        rw (op_idle k.op k (λ fits e. up fits k (rw e)))
        (ready_none ks (λ fits j h. let u = up_first fits k ks (fits k.op) refl j h in up fits u.0 u.1))

    pub stuck : ready look t choice x (aside t m) (cases_of (look x.point)) ≡ []
    stuck = ready_none (cases_of (look x.point)) (λ fits k h. (k, record { first = h }))

  -- A FRESH START, where nobody waits

  pub calm_fresh : (capacities : List ℕ) (ps : List P) → Calm look (fresh capacities ps).tasks (fresh capacities ps).channels
  unfolding fresh
  calm_fresh capacities ps = record {
    empty = λ c t x k w o. absurd (off ps t.0 x w.at w.status);
    full = λ c t x k w o. absurd (off ps t.0 x w.at w.status);
    apart = λ c t u x y k j w o v p. absurd (off ps t.0 x w.at w.status);
  }
    where
      off : (qs : List P) (n : ℕ) (x : Standing P) → get_elem? (map (λ p. record { status = Able; register = 0; ok = false; point = p }) qs) n ≡ some x → x.status ≡ Waiting → ⊥
      off [] n x e s = nothing x e
      off (q ∷ qs) zero x e s = let z : ◌≡◌ {A = ℕ} 0 1 = cc in omega (arith, z)
      off (q ∷ qs) (suc n) x e s = off qs n x e s
