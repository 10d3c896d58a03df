-- A machine that fits stays one: its order names exactly the waiting tasks, once each, and every one of them stands at an
-- operation that can wait; no buffer is over its capacity; the fault is 0 to 4. Every fresh start fits.
use Rattle.std.specs.Prelude.{◌≡◌, Bool, true, cond, length, set, eqb}
use Rattle.std.proofs.Math.Path.{refl, sym}
use Rattle.std.proofs.Common.{ap, ◌∙◌, length-append, ltb-true, eqb-true, ne_eqb, eq-eqb}
use Rattle.std.proofs.Math.Bool.{false}
use Rattle.std.proofs.Math.Option.{some}
use mathlib.Core.List.{List, [], ◌∷◌, ◌++◌, map}
use Prim.Native.Nat.{ℕ, zero, suc, ◌+◌, ◌≤◌}
use native.Mathlib.Omega.{arith}
use Rattle.std.proofs.Math.Decide.{ℕ_discrete}
use Rattle.std.proofs.Math.ListN.{get_elem?}
use Rattle.meaning_laws.specs.Kinds.{Task, Chan, Status, Able, Waiting, Ended}
use Rattle.meaning.specs.Machine.{Case, Look, Standing, Channel, Machine, Turned, Waiter, fresh, channel_at, without, gets, goes, stays, put, queue, store, tick, wake, wake_all, sender, turn, runs}
use Rattle.meaning_laws.specs.Lists.{All}
use Rattle.meaning_laws.specs.Fits.{one, times, mark, Within, waiting_at, CanWait, Place, Fits}
use Rattle.meaning_laws.specs.Laws.Lists.{all_set, all_get, all_map}
use Rattle.meaning_laws.specs.Laws.Runs.{runs_keep}
use Rattle.meaning_laws.specs.Laws.Outcome.{Move, faults, hands, appends, refills, takes, receives, drains, wakes, shuts, waits, goes_on, finishes, Outcome, refuses, moves, outcome}

-- THE ORDER

pub times_out : (t u : Task) (o : List Task) → t.0 ≡ u.0 → times t (without u o) ≡ 0
unfolding times without
times_out t u [] e = refl
times_out t u (v ∷ vs) e = go (eqb u.0 v.0) refl (times_out t u vs e)
  where
    go : (b : Bool) → eqb u.0 v.0 ≡ b → times t (without u vs) ≡ 0 → times t (cond b (without u vs) (v ∷ without u vs)) ≡ 0
    go true q ih = ih
    go false q ih = rw (ap (λ n. eqb n v.0) e ∙ q) (omega (arith, ih))

pub times_other : (t u : Task) (o : List Task) → (t.0 ≡ u.0 → ⊥) → times t (without u o) ≡ times t o
unfolding times without
times_other t u [] d = refl
times_other t u (v ∷ vs) d = go (eqb u.0 v.0) refl (times_other t u vs d)
  where
    go : (b : Bool) → eqb u.0 v.0 ≡ b → times t (without u vs) ≡ times t vs → times t (cond b (without u vs) (v ∷ without u vs)) ≡ one (eqb t.0 v.0) + times t vs
    go true q ih = rw (ne_eqb t.0 v.0 (λ r. d (r ∙ sym (eqb-true u.0 v.0 q)))) (omega (arith, ih))
    go false q ih = ap (one (eqb t.0 v.0) +◌) ih

times_end : (t u : Task) (o : List Task) → times t (o ++ u ∷ []) ≡ times t o + one (eqb t.0 u.0)
unfolding times
times_end t u [] = omega arith
times_end t u (v ∷ vs) = omega (arith, times_end t u vs)

mark_le : (s : Status) → mark s ≤ 1
mark_le Able = omega arith
mark_le Waiting = omega arith
mark_le Ended = omega arith

module _ {P : Type 0} where
  pub waiting_le : (l : List (Standing P)) (n : ℕ) → waiting_at l n ≤ 1
  unfolding waiting_at
  waiting_le [] n = omega arith
  waiting_le (x ∷ xs) zero = mark_le x.status
  waiting_le (x ∷ xs) (suc n) = waiting_le xs n

  waiting_other : (l : List (Standing P)) (n k : ℕ) (x : Standing P) → (k ≡ n → ⊥) → waiting_at (set l n x) k ≡ waiting_at l k
  unfolding waiting_at
  waiting_other [] n k x d = refl
  waiting_other (y ∷ ys) zero zero x d = absurd (d refl)
  waiting_other (y ∷ ys) zero (suc k) x d = refl
  waiting_other (y ∷ ys) (suc n) zero x d = refl
  waiting_other (y ∷ ys) (suc n) (suc k) x d = waiting_other ys n k x (λ e. d (ap suc e))

  waiting_not : (l : List (Standing P)) (n : ℕ) (x : Standing P) → mark x.status ≡ 0 → waiting_at (set l n x) n ≡ 0
  unfolding waiting_at
  waiting_not [] n x e = refl
  waiting_not (y ∷ ys) zero x e = e
  waiting_not (y ∷ ys) (suc n) x e = waiting_not ys n x e

  waiting_set : (l : List (Standing P)) (n : ℕ) (y x : Standing P) → get_elem? l n ≡ some y → waiting_at (set l n x) n ≡ mark x.status
  unfolding waiting_at
  waiting_set [] n y x e = cc
  waiting_set (z ∷ zs) zero y x e = refl
  waiting_set (z ∷ zs) (suc n) y x e = waiting_set zs n y x e

  pub waiting_at_lem : (l : List (Standing P)) (n : ℕ) (y : Standing P) → get_elem? l n ≡ some y → waiting_at l n ≡ mark y.status
  unfolding waiting_at
  waiting_at_lem [] n y e = cc
  waiting_at_lem (z ∷ zs) zero y e = cc
  waiting_at_lem (z ∷ zs) (suc n) y e = waiting_at_lem zs n y e

-- THE CHANGES OF A TURN

module _ {P : Type 0} (look : P → Look P) where
  -- A task that did not wait is put down as one that does not.
  fits_put : (t : Task) (x : Standing P) (m : Machine P) → Fits look m → waiting_at m.tasks t.0 ≡ 0 → mark x.status ≡ 0 → Place look x → Fits look (put t x m)
  fits_put t x m f idle e q = record { ordered = at; places = all_set (Place look) m.tasks t.0 x f.places q; within = f.within; faults = f.faults }
    where
      at : (u : Task) → times u m.order ≡ waiting_at (set m.tasks t.0 x) u.0
      at u =
          elim (ℕ_discrete u.0 t.0) [
            | yes s ↦ f.ordered u ∙ rw s (idle ∙ sym (waiting_not m.tasks t.0 x e))
            | no d ↦ f.ordered u ∙ sym (waiting_other m.tasks t.0 u.0 x d)
          ]

  -- A woken task need not be known to have waited.
  fits_wake : (w : Waiter P) (x : Standing P) (m : Machine P) → Fits look m → mark x.status ≡ 0 → Place look x → Fits look (wake w x m)
  fits_wake w x m f e q = record { ordered = at; places = all_set (Place look) m.tasks w.who.0 x f.places q; within = f.within; faults = f.faults }
    where
      at : (u : Task) → times u (without w.who m.order) ≡ waiting_at (set m.tasks w.who.0 x) u.0
      at u =
          elim (ℕ_discrete u.0 w.who.0) [
            | yes s ↦ times_out u w.who m.order s ∙ rw s (sym (waiting_not m.tasks w.who.0 x e))
            | no d ↦ times_other u w.who m.order d ∙ f.ordered u ∙ sym (waiting_other m.tasks w.who.0 u.0 x d)
          ]

  fits_wake_all : (ws : List (Waiter P)) (m : Machine P) → Fits look m → Fits look (wake_all ws m)
  unfolding wake_all
  fits_wake_all [] m f = f
  fits_wake_all (w ∷ ws) m f = fits_wake_all ws (wake w (gets 0 false w.by) m) (fits_wake w (gets 0 false w.by) m f refl tt)

  fits_store : (c : Chan) (k : Channel) (m : Machine P) → Fits look m → Within k → Fits look (store c k m)
  fits_store c k m f q = record { ordered = f.ordered; places = f.places; within = all_set Within m.channels c.0 k f.within q; faults = f.faults }

  fits_tick : (m : Machine P) → Fits look m → Fits look (tick m)
  fits_tick m f = record { ordered = f.ordered; places = f.places; within = f.within; faults = f.faults }

  pub within_at : (m : Machine P) (c : Chan) → Fits look m → Within (channel_at m.channels c)
  within_at m c f = all_get Within m.channels c.0 (record { capacity = 0; closed = false; buffer = [] }) f.within (omega arith)

  -- The mover begins to wait.
  fits_wait : (t : Task) (x : Standing P) (m : Machine P) → Fits look m → get_elem? m.tasks t.0 ≡ some x → waiting_at m.tasks t.0 ≡ 0 → CanWait (look x.point)
      → Fits look (put t (stays Waiting x) (queue (m.order ++ t ∷ []) m))
  fits_wait t x m f here idle q = record { ordered = at; places = all_set (Place look) m.tasks t.0 (stays Waiting x) f.places q; within = f.within; faults = f.faults }
    where
      at : (u : Task) → times u (m.order ++ t ∷ []) ≡ waiting_at (set m.tasks t.0 (stays Waiting x)) u.0
      at u =
          elim (ℕ_discrete u.0 t.0) [
            | yes s ↦ times_end u t m.order ∙ rw (f.ordered u, s, idle, eq-eqb t.0 t.0 refl) (sym (waiting_set m.tasks t.0 x (stays Waiting x) here))
            | no d ↦ times_end u t m.order ∙ rw (ne_eqb u.0 t.0 d, waiting_other m.tasks t.0 u.0 (stays Waiting x) d) (omega (arith, f.ordered u))
          ]

  -- THE TURN

  module _ (t : Task) (choice : ℕ) (m : Machine P) (f : Fits look m) where
    module _ (x : Standing P) (here : get_elem? m.tasks t.0 ≡ some x) (idle : waiting_at m.tasks t.0 ≡ 0) where
      fits_goes : (p : P) → Fits look (put t (goes p x) m)
      fits_goes p = fits_put t (goes p x) m f idle refl tt

      fits_gets : (v : ℕ) (k : Case P) → Fits look (put t (gets v true k) m)
      fits_gets v k = fits_put t (gets v true k) m f idle refl tt

      fits_move : (r : Turned P) → Move look t choice m x r → Fits look r.after
      fits_move r (faults n p h) = record { ordered = f.ordered; places = f.places; within = f.within; faults = h }
      fits_move r (hands c v k w rs e g) = fits_tick _ (fits_wake w (gets v true w.by) _ (fits_goes k.hit) refl tt)
      fits_move r (appends c v k e g h) = fits_tick _ (fits_store c _ _ (fits_goes k.hit) (simp length-append (omega (arith, ltb-true (length (channel_at m.channels c).buffer) (channel_at m.channels c).capacity h))))
      fits_move r (refills c k v vs s ss e g) = fits_tick _ (fits_wake s (sender s) _ (fits_store c _ _ (fits_gets v k) (simp length-append (omega (arith, within_at m c f, ap length e)))) refl tt)
      fits_move r (takes c k v vs e g) = fits_tick _ (fits_store c _ _ (fits_gets v k) (omega (arith, within_at m c f, ap length e)))
      fits_move r (receives c k s ss e g) = fits_tick _ (fits_wake s (sender s) _ (fits_gets _ k) refl tt)
      fits_move r (drains c k e g h) = fits_tick _ (fits_put t (gets 0 false k) m f idle refl tt)
      fits_move r (wakes c p w rs e g) = fits_tick _ (fits_wake_all (w ∷ rs) _ (fits_store c _ _ (fits_goes p) (within_at m c f)))
      fits_move r (shuts c p e g h) = fits_tick _ (fits_store c _ _ (fits_goes p) (within_at m c f))
      fits_move r (waits ks e g) = fits_tick _ (fits_wait t x m f here idle (record { cases = ks; only = e }))
      fits_move r (goes_on p) = fits_tick _ (fits_goes p)
      fits_move r finishes = fits_tick _ (fits_put t (stays Ended x) m f idle refl tt)

    fits_outcome : (r : Turned P) → Outcome look t choice m r → Fits look r.after
    fits_outcome r (refuses n) = f
    fits_outcome r (moves x s z h e v) = fits_move x h (waiting_at_lem m.tasks t.0 x h ∙ ap mark e) s v

  pub fits_turn : (t : Task) (choice : ℕ) (m : Machine P) → Fits look m → Fits look (turn look t choice m).after
  fits_turn t choice m f = fits_outcome t choice m f _ (outcome look t choice m)

  pub fits_runs : (ss : List (Task × ℕ)) (m : Machine P) → Fits look m → All (λ r. Fits look r.after) (runs look ss m)
  fits_runs ss m f = runs_keep look (Fits look) fits_turn ss m f

  pub fits_fresh : (capacities : List ℕ) (ps : List P) → Fits look (fresh capacities ps)
  unfolding fresh times waiting_at
  fits_fresh capacities ps = record { ordered = λ t. sym (none_waits ps t.0); places = all_map (Place look) _ ps (λ p. tt); within = all_map Within _ capacities (λ c. omega arith); faults = omega arith }
    where
      none_waits : (qs : List P) (n : ℕ) → waiting_at (map (λ p. record { status = Able; register = 0; ok = false; point = p }) qs) n ≡ 0
      none_waits [] n = refl
      none_waits (q ∷ qs) zero = refl
      none_waits (q ∷ qs) (suc n) = none_waits qs n
