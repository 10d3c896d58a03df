-- A kind Z of points that no `look` leads out of: tasks that all stand in Z stand there after every turn. By naturality, with
-- no walk through the rules.
use Rattle.std.specs.Prelude.{◌≡◌, refl, List, [], ◌∷◌, map, false, ℕ}
use Rattle.std.proofs.Common.{sym, ap, ap₂, subst}
use Rattle.std.proofs.Math.Option
use Rattle.std.proofs.Math.Option.{Option, none, some}
use Rattle.meaning_laws.specs.Kinds.{Task, Able}
use Rattle.meaning.specs.Machine.{Case, Look, tries, closes, branches, asks, ends, Standing, Machine, fresh, turn}
use Rattle.meaning_laws.specs.Lists.{All}
use Rattle.meaning_laws.specs.Laws.Lists.{all_along}
use Rattle.meaning_laws.specs.Laws.Natural.{map_case, map_look, map_standing, map_machine, turn-map}

module _ {P : Type 0} (Z : P → Type 0) where
  abbrev pub Default : Option P → Type 0
  Default none = Unit {0}
  Default (some p) = Z p

  -- Wherever it leads is in Z.
  abbrev pub Leads : Look P → Type 0
  Leads (tries ks d) = All (λ k. Z k.hit × Z k.miss) ks × Default d
  Leads (closes c p) = Z p
  Leads (branches p) = Z p
  Leads (asks y n) = Z y × Z n
  Leads ends = Unit {0}

  abbrev pub Standings : Machine P → Type 0
  Standings m = All (λ x. Z x.point) m.tasks

  pub points_fresh : (capacities : List ℕ) (ps : List P) → All Z ps → Standings (fresh capacities ps)
  unfolding fresh
  points_fresh capacities ps h = all_along Z (λ (x : Standing P). Z x.point) (λ p. record { status = Able; register = 0; ok = false; point = p }) ps (λ p q. q) h

  record In : Type 0 where
    at : P
    inside : Z at

  abbrev out : In → P
  out s = s.at

  in_cases : (ks : List (Case P)) → All (λ k. Z k.hit × Z k.miss) ks → (js : List (Case In)) × (map (map_case out) js ≡ ks)
  in_cases [] h = ([], refl)
  in_cases (k ∷ ks) h =
      let r = in_cases ks h.1 in
      (record { op = k.op; hit = record { at = k.hit; inside = h.0.0 }; miss = record { at = k.miss; inside = h.0.1 } } ∷ r.0, ap (λ js. k ∷ js) r.1)

  in_default : (d : Option P) → Default d → (e : Option In) × (Option.map out e ≡ d)
  in_default none h = (none, refl)
  in_default (some p) h = (some (record { at = p; inside = h }), refl)

  in_look : (l : Look P) → Leads l → (k : Look In) × (map_look out k ≡ l)
  in_look (tries ks d) h =
      let js = in_cases ks h.0 in
      let e = in_default d h.1 in
      (tries js.0 e.0, ap₂ tries js.1 e.1)
  in_look (closes c p) h = (closes c (record { at = p; inside = h }), refl)
  in_look (branches p) h = (branches (record { at = p; inside = h }), refl)
  in_look (asks y n) h = (asks (record { at = y; inside = h.0 }) (record { at = n; inside = h.1 }), refl)
  in_look ends h = (ends, refl)

  in_standings : (xs : List (Standing P)) → All (λ x. Z x.point) xs → (ys : List (Standing In)) × (map (map_standing out) ys ≡ xs)
  in_standings [] h = ([], refl)
  in_standings (x ∷ xs) h =
      let r = in_standings xs h.1 in
      (record { status = x.status; register = x.register; ok = x.ok; point = record { at = x.point; inside = h.0 } } ∷ r.0, ap (λ ys. x ∷ ys) r.1)

  all_inside : (ys : List (Standing In)) → All (λ x. Z x.point) (map (map_standing out) ys)
  all_inside [] = tt
  all_inside (y ∷ ys) = (y.point.inside, all_inside ys)

  module _ (look : P → Look P) (leads : (p : P) → Z p → Leads (look p)) where
    pub points_turn : (t : Task) (choice : ℕ) (m : Machine P) → Standings m → Standings (turn look t choice m).after
    points_turn t choice m h =
        let ys = in_standings m.tasks h in
        let n : Machine In = record { tasks = ys.0; order = m.order; channels = m.channels; fault = m.fault; named = m.named; stamp = m.stamp } in
        let look_in : In → Look In = λ s. (in_look (look s.at) (leads s.at s.inside)).0 in
        let same : (s : In) → look (out s) ≡ map_look out (look_in s) = λ s. sym (in_look (look s.at) (leads s.at s.inside)).1 in
        let e : map_machine out n ≡ m = ap (λ xs. record { tasks = xs; order = m.order; channels = m.channels; fault = m.fault; named = m.named; stamp = m.stamp }) ys.1 in
        subst (λ z. Standings (turn look t choice z).after) e (subst (λ r. Standings r.after) (sym (turn-map out look_in look same t choice n)) (all_inside (turn look_in t choice n).after.tasks))
