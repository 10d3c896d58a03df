-- The loop of turns, lap by lap: what it has made so far and what is still to come are all that it is to make.
use Rattle.std.specs.Prelude.{◌≡◌, refl, get_or, drop, Ok}
use Rattle.std.proofs.Math.Path.{sym, ap}
use Rattle.std.proofs.Common.{ap₂, subst, ◌∙◌, add-one, le-leb, drop_of_length-le, drop-cons}
use mathlib.Core.List.{List, [], ◌∷◌, ◌++◌}
use Prim.Native.Nat.{ℕ, suc, ◌+◌, ◌*◌, ◌≤◌, ◌<◌}
use native.Mathlib.Omega.{arith}
use Rattle.std.proofs.Math.ListN.{length}
use Rattle.std.proofs.Math.Seq.{sets, length-sets}
use Rattle.machine_turns.specs.Kinds.{Task, Moved, State, Turned}
use Rattle.meaning.specs.Events.{numbers}
use Rattle.meaning.specs.Image.{task_no}
use Rattle.meaning.specs.Bytes.{body_of}
use Rattle.events.specs.Record.{event_record, record_put}
use Rattle.image_rows.specs.Rows.{counts_of}
use Rattle.image_check.specs.Check.{checked}
use Rattle.machine_records.specs.Values.{Values, changed}
use Rattle.machine_records.specs.Step.{stepped}
use Rattle.machine_laws.specs.Laws.Fit.{Arrays}
use Rattle.machine_store.specs.Store.{records_of, Whole, MadeTurn}
use Rattle.machine_store.specs.Laws.Again.{records_sized}
use Rattle.machine.specs.Public.{turned}
use Rattle.machine.specs.Laws.Meant.{KeptIn, turned_kept}
use Rattle.machine.specs.Laws.Told.{told_turn, turned_in_place}
use Rattle.machine_turns.specs.Schedule.{pairs_of, state_behind, values_behind, event_records}
use Rattle.machine_turns.specs.Loop.{Ready, Ran}

-- The pair at an even place of an even number of bytes.
pub pairs_lap : (ps : List ℕ) (i : ℕ) → i + 1 < length ps → pairs_of (drop i ps) ≡ (task_no (get_or ps i 0), get_or ps (i + 1) 0) ∷ pairs_of (drop (i + 2) ps)
unfolding pairs_of
pairs_lap ps i h =
    let two : suc (i + 1) ≡ i + 2 = omega arith in
    rw (drop-cons ps i 0 (omega arith), ← add-one i, drop-cons ps (i + 1) 0 h, two)

-- Everything is still to come from the pair at place i on.
pub record Ahead (bs : List ℕ) (s₀ : State) (b₀ : Values) (pairs out₀ : List ℕ) (s : State) (b : Values) (out : List ℕ) (i : ℕ) : Type 0 where
  pub state : state_behind bs (pairs_of pairs) s₀ b₀ ≡ state_behind bs (pairs_of (drop i pairs)) s b
  pub values : values_behind bs (pairs_of pairs) s₀ b₀ ≡ values_behind bs (pairs_of (drop i pairs)) s b
  pub records : sets out₀ 0 (event_records bs (pairs_of pairs) s₀ b₀) ≡ sets out (3 * i) (event_records bs (pairs_of (drop i pairs)) s b)
  pub kept : KeptIn bs s b
  pub whole : Whole s
  pub room : length out ≡ length out₀

module _ (bs : List ℕ) (s₀ : State) (b₀ : Values) (pairs out₀ : List ℕ) where
  pub ahead_begin : Ready bs s₀ b₀ pairs out₀ → Ahead bs s₀ b₀ pairs out₀ s₀ b₀ out₀ 0
  ahead_begin q =
      let z = records_sized s₀.words s₀.cells in
      let arrays : Arrays (records_of s₀) b₀ = record {
        tasks16 = z.tasks16;
        chans16 = z.chans16;
        order16 = z.order16;
        rows16 = q.values.rows;
        cells16 = q.values.cells;
      } in
      record { state = refl; values = refl; records = refl; kept = record { arrays = arrays; fit = q.fit }; whole = q.whole; room = refl }

  module _ (good : checked bs ≡ Ok tt) (s : State) (b : Values) (out : List ℕ) (i : ℕ) (l : Ahead bs s₀ b₀ pairs out₀ s b out i) where
    abbrev task : Task
    task = task_no (get_or pairs i 0)

    abbrev choice : ℕ
    choice = get_or pairs (i + 1) 0

    module _ (h : i + 1 < length pairs) where
      -- A turn in place, its change stored and its record put.
      module _ (s' : State) (m : Moved)
          (e : MadeTurn s s' m (λ z. stepped (body_of bs) (counts_of bs).rows z b task choice)) where
        told : turned bs s b task choice ≡ told_turn s' m
        told = (let long = e.whole l.whole in turned_in_place bs s b task choice good l.kept.fit s' long.0 long.1 m e)

        next : KeptIn bs s' (changed b m.change)
        next = subst (λ (r : Turned). KeptIn bs r.state (changed b r.change)) told (turned_kept bs s b task choice good l.kept.fit l.kept.arrays)

        state_lap : state_behind bs (pairs_of (drop i pairs)) s b ≡ state_behind bs (pairs_of (drop (i + 2) pairs)) s' (changed b m.change)
        unfolding state_behind
        state_lap =
            ap (λ ps. state_behind bs ps s b) (pairs_lap pairs i h)
            ∙ ap (λ (r : Turned). state_behind bs (pairs_of (drop (i + 2) pairs)) r.state (changed b r.change)) told

        values_lap : values_behind bs (pairs_of (drop i pairs)) s b ≡ values_behind bs (pairs_of (drop (i + 2) pairs)) s' (changed b m.change)
        unfolding values_behind
        values_lap =
            ap (λ ps. values_behind bs ps s b) (pairs_lap pairs i h)
            ∙ ap (λ (r : Turned). values_behind bs (pairs_of (drop (i + 2) pairs)) r.state (changed b r.change)) told

        records_lap : (out : List ℕ) (j k : ℕ) → k ≡ j + 6 → sets out j (event_records bs (pairs_of (drop i pairs)) s b)
            ≡ sets (sets out j (event_record task (numbers m.event))) k (event_records bs (pairs_of (drop (i + 2) pairs)) s' (changed b m.change))
        unfolding event_records
        records_lap out j k ek =
            let six : suc (suc (suc (suc (suc (suc j))))) ≡ k = omega arith in
            ap (λ ps. sets out j (event_records bs ps s b)) (pairs_lap pairs i h)
            ∙ ap (λ (r : Turned). sets out j (event_record task (numbers r.event) ++ event_records bs (pairs_of (drop (i + 2) pairs)) r.state (changed b r.change))) told
            ∙ ap (λ n. sets (sets out j (event_record task (numbers m.event))) n (event_records bs (pairs_of (drop (i + 2) pairs)) s' (changed b m.change))) six

        put_there : 3 * length pairs ≤ length out₀ → record_put out (3 * i) task (numbers m.event) ≡ sets out (3 * i) (event_record task (numbers m.event))
        unfolding record_put
        put_there room =
            let q = l.room in
            let enough : 3 * i + 6 ≤ length out = omega arith in
            rw (le-leb _ _ enough)

        pub ahead_lap : 3 * length pairs ≤ length out₀ → (b' : Values) → b' ≡ changed b m.change → (out' : List ℕ) → out' ≡ record_put out (3 * i) task (numbers m.event)
            → Ahead bs s₀ b₀ pairs out₀ s' b' out' (i + 2)
        ahead_lap room b' eb out' eo =
            let put = eo ∙ put_there room in
            let bytes = event_record task (numbers m.event) in
            record {
              state = l.state ∙ state_lap ∙ ap (λ z. state_behind bs (pairs_of (drop (i + 2) pairs)) s' z) (sym eb);
              values = l.values ∙ values_lap ∙ ap (λ z. values_behind bs (pairs_of (drop (i + 2) pairs)) s' z) (sym eb);
              records =
                  l.records ∙ records_lap out (3 * i) (3 * (i + 2)) (omega arith)
                  ∙ ap₂ (λ o z. sets o (3 * (i + 2)) (event_records bs (pairs_of (drop (i + 2) pairs)) s' z)) (sym put) (sym eb);
              kept = subst (KeptIn bs s') (sym eb) next;
              whole = e.whole l.whole;
              room = ap length put ∙ length-sets out (3 * i) bytes ∙ l.room;
            }

    -- Nothing is left.
    pub ahead_end : length pairs ≤ i → Ran bs s₀ b₀ pairs out₀ s b out
    unfolding state_behind values_behind event_records pairs_of
    ahead_end h =
        let none : pairs_of (drop i pairs) ≡ [] = ap pairs_of (drop_of_length-le pairs {i = i} h) in
        record {
          state = sym (l.state ∙ ap (λ ps. state_behind bs ps s b) none);
          values = sym (l.values ∙ ap (λ ps. values_behind bs ps s b) none);
          records = sym (l.records ∙ ap (λ ps. sets out (3 * i) (event_records bs ps s b)) none);
        }
