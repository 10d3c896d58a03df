-- The records that turns leave one behind the other, told of their events: what a caller of single turns would have written.
use Rattle.std.specs.Prelude.{List, [], ◌∷◌, ◌++◌, ℕ}
use Rattle.machine_turns.specs.Kinds.{Task, Event}
use Rattle.meaning.specs.Events.{numbers}
use Rattle.events.specs.Record.{event_record}

-- The records of these turns of these tasks, one behind the other.
unfoldable pub records_told : List (Task × ℕ) → List Event → List ℕ
records_told [] es = []
records_told (p ∷ ps) [] = []
records_told (p ∷ ps) (e ∷ es) = event_record p.0 (numbers e) ++ records_told ps es
