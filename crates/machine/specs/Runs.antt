-- A caller who starts and only ever turns: what he is answered, and what that stands for.
use Rattle.std.specs.Prelude.{List, [], ◌∷◌, ℕ}
use Rattle.machine.specs.Kinds.{Task, State, Turned}
use Rattle.meaning.specs.Machine as m
use Rattle.meaning.specs.Image.{Spot}
use Rattle.machine_records.specs.Values.{Values, changed}
use Rattle.machine_records.specs.View.{turned_of}
use Rattle.machine.specs.Public.{turned, done_of}

-- A schedule turned from a state, each turn with the state and the stored values of the one before.
unfoldable pub turns : List ℕ → List (Task × ℕ) → State → Values → List Turned
turns bs [] s b = []
turns bs (p ∷ ps) s b = (let r = turned bs s b p.0 p.1 in r ∷ turns bs ps r.state (changed b r.change))

-- The same turns, as the meaning's answers.
unfoldable pub seen_turns : List ℕ → List (Task × ℕ) → State → Values → List (m.Turned Spot)
seen_turns bs [] s b = []
seen_turns bs (p ∷ ps) s b = (let r = turned bs s b p.0 p.1 in turned_of bs b (done_of r) ∷ seen_turns bs ps r.state (changed b r.change))
