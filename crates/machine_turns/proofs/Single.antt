-- A caller of single turns would have seen the same: the turns that `turns` lists (machine/specs/Runs), one record each.
use Rattle.std.specs.Prelude.{◌≡◌, length, get_or, drop}
use Rattle.std.proofs.Math.Path.{refl, ap}
use Rattle.std.proofs.Common.{◌∙◌, le_of_suc-le-suc, not-suc-le-zero}
use mathlib.Core.List.{List, [], ◌∷◌, ◌++◌, map}
use Prim.Native.Nat.{ℕ, zero, suc, ◌*◌, ◌<◌}
use native.Mathlib.Omega.{arith}
use Rattle.std.proofs.Math.ListN.{take}
use Rattle.machine_turns.specs.Kinds.{Task, State, Turned}
use Rattle.meaning.specs.Events.{numbers}
use Rattle.events.specs.Record.{event_record}
use Rattle.machine_records.specs.Values.{Values, changed}
use Rattle.machine.specs.Public.{turned}
use Rattle.machine.specs.Runs.{turns, seen_turns}
use Rattle.machine_turns.specs.Schedule.{state_behind, values_behind, event_records}
use Rattle.machine_turns.specs.Told.{records_told}

-- The record of the n-th turn stands at the n-th place: document 01's numbers of the event that turn answered, refused or not, with
-- the task that was asked for.
module _ (bs : List ℕ) where
  pub nth_record : (ps : List (Task × ℕ)) (s : State) (b : Values) (n : ℕ) (p : Task × ℕ) (r : Turned) → n < length ps
      → take 6 (drop (6 * n) (event_records bs ps s b)) ≡ event_record (get_or ps n p).0 (numbers (get_or (turns bs ps s b) n r).event)
  unfolding event_records turns
  nth_record [] s b n p r h = absurd (not-suc-le-zero h)
  nth_record (q ∷ ps) s b zero p r h = refl
  nth_record (q ∷ ps) s b (suc n) p r h =
      let z = turned bs s b q.0 q.1 in
      let six : 6 * suc n ≡ suc (suc (suc (suc (suc (suc (6 * n)))))) = omega arith in
      ap (λ k. take 6 (drop k (event_records bs (q ∷ ps) s b))) six ∙ nth_record ps z.state (changed b z.change) n p r (le_of_suc-le-suc h)

  -- Two calls are one: what is made of the first pairs is where the others begin. So a schedule may be cut anywhere, at every turn too.
  pub state_cut : (ps qs : List (Task × ℕ)) (s : State) (b : Values) → state_behind bs (ps ++ qs) s b ≡ state_behind bs qs (state_behind bs ps s b) (values_behind bs ps s b)
  unfolding state_behind values_behind
  state_cut [] qs s b = refl
  state_cut (p ∷ ps) qs s b = (let r = turned bs s b p.0 p.1 in state_cut ps qs r.state (changed b r.change))

  pub values_cut : (ps qs : List (Task × ℕ)) (s : State) (b : Values) → values_behind bs (ps ++ qs) s b ≡ values_behind bs qs (state_behind bs ps s b) (values_behind bs ps s b)
  unfolding state_behind values_behind
  values_cut [] qs s b = refl
  values_cut (p ∷ ps) qs s b = (let r = turned bs s b p.0 p.1 in values_cut ps qs r.state (changed b r.change))

  pub records_cut : (ps qs : List (Task × ℕ)) (s : State) (b : Values) → event_records bs (ps ++ qs) s b ≡ event_records bs ps s b ++ event_records bs qs (state_behind bs ps s b) (values_behind bs ps s b)
  unfolding state_behind values_behind event_records
  records_cut [] qs s b = refl
  records_cut (p ∷ ps) qs s b =
      let r = turned bs s b p.0 p.1 in
      ap (λ l. event_record p.0 (numbers r.event) ++ l) (records_cut ps qs r.state (changed b r.change))

  -- The state behind a call is that of the last turn.
  pub last_state : (ps : List (Task × ℕ)) (p : Task × ℕ) (s : State) (b : Values) → state_behind bs (ps ++ (p ∷ [])) s b ≡ (turned bs (state_behind bs ps s b) (values_behind bs ps s b) p.0 p.1).state
  unfolding state_behind
  last_state ps p s b = state_cut ps (p ∷ []) s b

  -- All records together: the events of the single turns, each with its task.
  pub records_told_lem : (ps : List (Task × ℕ)) (s : State) (b : Values) → event_records bs ps s b ≡ records_told ps (map (λ r. r.event) (seen_turns bs ps s b))
  unfolding event_records records_told seen_turns
  records_told_lem [] s b = refl
  records_told_lem (p ∷ ps) s b =
      let r = turned bs s b p.0 p.1 in
      ap (λ l. event_record p.0 (numbers r.event) ++ l) (records_told_lem ps r.state (changed b r.change))
