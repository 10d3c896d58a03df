-- In a machine that fits, those whom the search finds are the waiting tasks with a case that fits, all of them and no other.
use Rattle.std.specs.Prelude.{◌≡◌, Bool, ◌<◌, eqb}
use Rattle.std.proofs.Math.Path.{refl, ap, subst}
use Rattle.std.proofs.Common.{sym, ◌∙◌, arith, eq-eqb, ne_eqb}
use Rattle.std.proofs.Math.Option.{Option, none, some}
use mathlib.Core.List.{List, [], ◌∷◌}
use Rattle.std.proofs.Math.Decide.{ℕ_discrete}
use Rattle.std.proofs.Math.ListN.{get_elem?}
use Rattle.meaning_laws.specs.Kinds.{Task, Op, Status, Able, Waiting, Ended}
use Rattle.meaning.specs.Machine.{Case, Look, Standing, Machine, Waiter, cases_of, first_case, waiter_by, waiter_at, waiters_in, waiters}
use Rattle.meaning_laws.specs.Lists.{All}
use Rattle.meaning_laws.specs.Calm.{WaitsAt, Offers}
use Rattle.meaning_laws.specs.Laws.Lists.{all_append, all_front, all_back, all_weaken}
use Rattle.meaning_laws.specs.Fits.{one, times, mark, Fits}
use Rattle.meaning_laws.specs.Laws.Fits.{waiting_at_lem}

pub is_waiting_lem : (s : Status) → 0 < mark s → s ≡ Waiting
is_waiting_lem Able h = absurd (omega arith)
is_waiting_lem Waiting h = refl
is_waiting_lem Ended h = absurd (omega arith)

once : (t : Task) → one (eqb t.0 t.0) ≡ 1
once t = ap one (eq-eqb t.0 t.0 refl)

module _ {P : Type 0} (look : P → Look P) where
  module _ (fits : Op → Bool) (xs : List (Standing P)) where
    pub record Found (ts : List Task) (w : Waiter P) : Type 0 where
      pub at : get_elem? xs w.who.0 ≡ some w.standing
      pub offers : Offers look fits w.standing w.by
      pub named : 0 < times w.who ts

    found_by_lem : (t : Task) (ts : List Task) (x : Standing P) → get_elem? xs t.0 ≡ some x → (o : Option (Case P)) → first_case fits (cases_of (look x.point)) ≡ o → All (Found (t ∷ ts)) (waiter_by t x o)
    unfolding waiter_by times
    found_by_lem t ts x h none e = tt
    found_by_lem t ts x h (some k) e = (record { at = h; offers = record { first = e }; named = omega (arith, once t) }, tt)

    found_at : (t : Task) (ts : List Task) (o : Option (Standing P)) → get_elem? xs t.0 ≡ o → All (Found (t ∷ ts)) (waiter_at look fits t o)
    unfolding waiter_at
    found_at t ts none h = tt
    found_at t ts (some x) h = found_by_lem t ts x h (first_case fits (cases_of (look x.point))) refl

    pub found_in : (ts : List Task) → All (Found ts) (waiters_in look fits xs ts)
    unfolding waiters_in times
    found_in [] = tt
    found_in (t ∷ ts) =
        all_append (Found (t ∷ ts)) (waiter_at look fits t (get_elem? xs t.0)) (waiters_in look fits xs ts)
        (found_at t ts (get_elem? xs t.0) refl)
        (all_weaken (Found ts) (Found (t ∷ ts)) (waiters_in look fits xs ts) (λ w f. record { at = f.at; offers = f.offers; named = omega (arith, f.named) }) (found_in ts))

    -- Nobody named with a case that fits is passed over.
    missed : (t : Task) (x : Standing P) (k : Case P) → get_elem? xs t.0 ≡ some x → Offers look fits x k → (ts : List Task) → 0 < times t ts → All (λ w. t.0 ≡ w.who.0 → ⊥) (waiters_in look fits xs ts) → ⊥
    unfolding waiters_in times waiter_at waiter_by
    missed t x k h o [] n a = omega (arith, n)
    missed t x k h o (u ∷ us) n a = go (ℕ_discrete t.0 u.0) (missed t x k h o us)
      where
        go : Dec (t.0 ≡ u.0) → (0 < times t us → All (λ w. t.0 ≡ w.who.0 → ⊥) (waiters_in look fits xs us) → ⊥) → ⊥
        go (yes e) rest =
            let here : get_elem? xs u.0 ≡ some x = ap (get_elem? xs) (sym e) ∙ h in
            let b = all_front (λ w. t.0 ≡ w.who.0 → ⊥) (waiter_at look fits u (get_elem? xs u.0)) (waiters_in look fits xs us) a in
            let c = subst (λ z. All (λ w. t.0 ≡ w.who.0 → ⊥) (waiter_at look fits u z)) here b in
            (subst (λ z. All (λ w. t.0 ≡ w.who.0 → ⊥) (waiter_by u x z)) o.first c).0 e
        go (no d) rest = rest (omega (arith, n, ap one (ne_eqb t.0 u.0 d))) (all_back (λ w. t.0 ≡ w.who.0 → ⊥) (waiter_at look fits u (get_elem? xs u.0)) (waiters_in look fits xs us) a)

  module _ (fits : Op → Bool) (m : Machine P) (f : Fits look m) where
    abbrev Waits : Waiter P → Type 0
    Waits w = WaitsAt m.tasks w.who w.standing × Offers look fits w.standing w.by

    pub waiters_wait : All (λ w. WaitsAt m.tasks w.who w.standing × Offers look fits w.standing w.by) (waiters look fits m)
    unfolding waiters
    waiters_wait = all_weaken (Found fits m.tasks m.order) Waits (waiters_in look fits m.tasks m.order) each (found_in fits m.tasks m.order)
      where
        each : (w : Waiter P) → Found fits m.tasks m.order w → Waits w
        each w g = (record { at = g.at; status = is_waiting_lem w.standing.status (omega (arith, g.named, f.ordered w.who, waiting_at_lem m.tasks w.who.0 w.standing g.at)) }, g.offers)

    pub first_waits : (w : Waiter P) (ws : List (Waiter P)) → waiters look fits m ≡ w ∷ ws → WaitsAt m.tasks w.who w.standing × Offers look fits w.standing w.by
    first_waits w ws e = (subst (All Waits) e waiters_wait).0

    pub waiters_all : (t : Task) (x : Standing P) (k : Case P) → WaitsAt m.tasks t x → Offers look fits x k → All (λ w. t.0 ≡ w.who.0 → ⊥) (waiters look fits m) → ⊥
    unfolding waiters
    waiters_all t x k w o a = missed fits m.tasks t x k w.at o m.order (omega (arith, f.ordered t, waiting_at_lem m.tasks t.0 x w.at, ap mark w.status)) a

    pub nobody_waits : waiters look fits m ≡ [] → (t : Task) (x : Standing P) (k : Case P) → WaitsAt m.tasks t x → Offers look fits x k → ⊥
    nobody_waits e t x k w o = waiters_all t x k w o (subst (All (λ u. t.0 ≡ u.who.0 → ⊥)) (sym e) tt)
