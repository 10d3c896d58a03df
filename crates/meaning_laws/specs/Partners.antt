-- "The mover itself is never its own partner", said of a turn's event.
use Rattle.std.specs.Prelude.{◌≡◌}
use Rattle.meaning_laws.specs.Kinds.{Task, Event, Appended, Handed, Taken, Refilled, Received, Drained, Closed, Waits, Branched, Finished, Faulted, Refused}

-- The event names another partner than t, or none.
abbrev pub Apart : Task → Event → Type 0
Apart t (Appended c v) = Unit {0}
Apart t (Handed c v u) = u.0 ≡ t.0 → ⊥
Apart t (Taken c v) = Unit {0}
Apart t (Refilled c v u) = u.0 ≡ t.0 → ⊥
Apart t (Received c v u) = u.0 ≡ t.0 → ⊥
Apart t (Drained c) = Unit {0}
Apart t (Closed c n) = Unit {0}
Apart t Waits = Unit {0}
Apart t Branched = Unit {0}
Apart t Finished = Unit {0}
Apart t (Faulted p f u) = Unit {0}
Apart t (Refused n) = Unit {0}
