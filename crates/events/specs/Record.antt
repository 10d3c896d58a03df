-- Document 02, E1: "6-byte event records: event, task, channel, value (2, low byte first), partner".
use Rattle.std.specs.Prelude.{cond, List, [], ◌∷◌, ◌++◌, ℕ, ◌+◌, leb, length}
use Rattle.std.proofs.lemmas.List.Edits.{sets}
use Rattle.events.specs.Kinds.{Task, EventNumbers}
use Rattle.meaning.specs.Bytes.{two}

abbrev pub record_size : ℕ
record_size = 6

abbrev pub event_record : Task → EventNumbers → List ℕ
event_record t e = e.number ∷ t.0 ∷ e.channel ∷ two e.value ++ (e.partner ∷ [])

-- The record at a place of a slice, every other byte as it was; nothing where it would pass the slice's end.
unfoldable pub record_put : List ℕ → ℕ → Task → EventNumbers → List ℕ
record_put out at t e = cond (leb (at + record_size) (length out)) (sets out at (event_record t e)) out
