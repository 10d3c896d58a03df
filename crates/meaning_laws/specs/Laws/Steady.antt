-- What no turn changes, refused ones included: the number of tasks, the number of channels and their capacities.
use Rattle.std.specs.Prelude.{◌≡◌, refl, false, List, [], ◌∷◌, map, ℕ, length, set}
use Rattle.std.proofs.Common.{◌∙◌, length-set}
use Rattle.std.proofs.Math.Seq.{map-set_same}
use Rattle.meaning_laws.specs.Kinds.{Task, Chan}
use Rattle.meaning.specs.Machine.{Look, Standing, Machine, Turned, Channel, Waiter, channel_at, shut, gets, goes, store, wake, wake_all, moved, turn}
use Rattle.meaning_laws.specs.Laws.Outcome.{Move, faults, hands, appends, refills, takes, receives, drains, wakes, shuts, waits, goes_on, finishes, Outcome, refuses, moves, outcome}

abbrev pub capacities_in : List Channel → List ℕ
capacities_in cs = map (λ c. c.capacity) cs

-- n has what m has.
pub record Steady {P : Type 0} (m n : Machine P) : Type 0 where
  pub tasks : length n.tasks ≡ length m.tasks
  pub capacities : capacities_in n.channels ≡ capacities_in m.channels

stored : (cs : List Channel) (c : Chan) (k : Channel) → k.capacity ≡ (channel_at cs c).capacity → capacities_in (set cs c.0 k) ≡ capacities_in cs
stored cs c k e = map-set_same (λ c. c.capacity) cs c.0 k _ e

woken : {P : Type 0} (ws : List (Waiter P)) (m : Machine P) → Steady m (wake_all ws m)
unfolding wake_all
woken [] m = record { tasks = refl; capacities = refl }
woken (w ∷ ws) m =
    let s = woken ws (wake w (gets 0 false w.by) m) in
    record { tasks = s.tasks ∙ length-set m.tasks w.who.0 (gets 0 false w.by); capacities = s.capacities }

module _ {P : Type 0} (look : P → Look P) where
  steady_move : (t : Task) (choice : ℕ) (m : Machine P) (x : Standing P) (r : Turned P) → Move look t choice m x r → Steady m r.after
  steady_move t choice m x r (faults f p h) = record { tasks = refl; capacities = refl }
  steady_move t choice m x r (hands c v k w rs e f) = record { tasks = simp length-set; capacities = refl }
  steady_move t choice m x r (appends c v k e f g) = record { tasks = simp length-set; capacities = stored m.channels c _ refl }
  steady_move t choice m x r (refills c k v vs s ss e f) = record { tasks = simp length-set; capacities = stored m.channels c _ refl }
  steady_move t choice m x r (takes c k v vs e f) = record { tasks = simp length-set; capacities = stored m.channels c _ refl }
  steady_move t choice m x r (receives c k s ss e f) = record { tasks = simp length-set; capacities = refl }
  steady_move t choice m x r (drains c k e f g) = record { tasks = simp length-set; capacities = refl }
  steady_move t choice m x r (wakes c p w rs e f) =
      let s = woken (w ∷ rs) (store c (shut (channel_at m.channels c)) (moved t x m p)) in
      record { tasks = s.tasks ∙ length-set m.tasks t.0 (goes p x); capacities = s.capacities ∙ stored m.channels c _ refl }
  steady_move t choice m x r (shuts c p e f g) = record { tasks = simp length-set; capacities = stored m.channels c _ refl }
  steady_move t choice m x r (waits ks e f) = record { tasks = simp length-set; capacities = refl }
  steady_move t choice m x r (goes_on p) = record { tasks = simp length-set; capacities = refl }
  steady_move t choice m x r finishes = record { tasks = simp length-set; capacities = refl }

  steady : (t : Task) (choice : ℕ) (m : Machine P) (r : Turned P) → Outcome look t choice m r → Steady m r.after
  steady t choice m r (refuses n) = record { tasks = refl; capacities = refl }
  steady t choice m r (moves x s z h e v) = steady_move t choice m x s v

  pub steady_turn : (t : Task) (choice : ℕ) (m : Machine P) → Steady m (turn look t choice m).after
  steady_turn t choice m = steady t choice m _ (outcome look t choice m)
