-- No task is its own partner: a partner is found in the order, which names waiting tasks alone, and a mover is able.
use Rattle.std.specs.Prelude.{◌≡◌, Bool, List, ◌∷◌, ℕ}
use Rattle.std.proofs.Common.{sym, ap, ◌∙◌, arith}
use Rattle.std.proofs.Math.Option.{some}
use Rattle.std.proofs.Math.ListN.{get_elem?}
use Rattle.meaning_laws.specs.Kinds.{Task, Op, Able, Waiting}
use Rattle.meaning.specs.Machine.{Look, Standing, Machine, Turned, Waiter, waiters, turn}
use Rattle.meaning_laws.specs.Partners.{Apart}
use Rattle.meaning_laws.specs.Laws.Outcome.{Move, faults, hands, appends, refills, takes, receives, drains, wakes, shuts, waits, goes_on, finishes, Outcome, refuses, moves, outcome}
use Rattle.meaning_laws.specs.Fits.{Fits}
use Rattle.meaning_laws.specs.Laws.WhoWaits.{first_waits}

differ : {P : Type 0} (x y : Standing P) → some x ≡ some y → x.status ≡ Able → y.status ≡ Waiting → ⊥
differ x y e a w = let z : ◌≡◌ {A = ℕ} 0 1 = cc in omega (arith, z)

module _ {P : Type 0} (look : P → Look P) where
  module _ (t : Task) (choice : ℕ) (m : Machine P) (f : Fits look m) where
    other : (fits : Op → Bool) (x : Standing P) (w : Waiter P) (ws : List (Waiter P)) → get_elem? m.tasks t.0 ≡ some x → x.status ≡ Able → waiters look fits m ≡ w ∷ ws → w.who.0 ≡ t.0 → ⊥
    other fits x w ws h able e s =
        let found = (first_waits look fits m f w ws e).0 in
        differ x w.standing (sym h ∙ ap (get_elem? m.tasks) (sym s) ∙ found.at) able found.status

    apart_move : (x : Standing P) (r : Turned P) → get_elem? m.tasks t.0 ≡ some x → x.status ≡ Able → Move look t choice m x r → Apart t r.event
    apart_move x r q able (faults n p h) = tt
    apart_move x r q able (hands c v k w rs e g) = other _ x w rs q able g
    apart_move x r q able (appends c v k e g h) = tt
    apart_move x r q able (refills c k v vs s ss e g) = other _ x s ss q able g
    apart_move x r q able (takes c k v vs e g) = tt
    apart_move x r q able (receives c k s ss e g) = other _ x s ss q able g
    apart_move x r q able (drains c k e g h) = tt
    apart_move x r q able (wakes c p w rs e g) = tt
    apart_move x r q able (shuts c p e g h) = tt
    apart_move x r q able (waits ks e g) = tt
    apart_move x r q able (goes_on p) = tt
    apart_move x r q able finishes = tt

    apart : (r : Turned P) → Outcome look t choice m r → Apart t r.event
    apart r (refuses n) = tt
    apart r (moves x s z h e v) = apart_move x s h e v

  pub never_own : (t : Task) (choice : ℕ) (m : Machine P) → Fits look m → Apart t (turn look t choice m).event
  never_own t choice m f = apart t choice m f _ (outcome look t choice m)
