-- Records by hand: turns 3 and 2 of document 01's listing, a value of two bytes, a fault on nil.
use Rattle.std.specs.Prelude.{◌≡◌, refl, List, [], ◌∷◌, map, ℕ, replicate}
use Rattle.events.specs.Kinds.{Task, Event, Appended, Refilled, Faulted, Refused, Nil}
use Rattle.meaning.specs.Events.{numbers}
use Rattle.events.specs.Record.{event_record, record_put}

records_of : List (Task × Event) → List (List ℕ)
records_of = map (λ p. event_record p.0 (numbers p.1))

turns : List (Task × Event)
turns =
    (record { 0 = 1 }, Refilled (record { 0 = 0 }) 7 (record { 0 = 0 }))
    ∷ (record { 0 = 0 }, Refused 15)
    ∷ (record { 0 = 15 }, Appended (record { 0 = 3 }) 65534)
    ∷ (record { 0 = 2 }, Faulted Nil 2 (record { 0 = 2 }))
    ∷ []

records : List (List ℕ)
records =
    (3 ∷ 1 ∷ 0 ∷ 7 ∷ 0 ∷ 0 ∷ [])
    ∷ (15 ∷ 0 ∷ 255 ∷ 0 ∷ 0 ∷ 255 ∷ [])
    ∷ (1 ∷ 15 ∷ 3 ∷ 254 ∷ 255 ∷ 255 ∷ [])
    ∷ (10 ∷ 2 ∷ 255 ∷ 2 ∷ 0 ∷ 2 ∷ [])
    ∷ []

examples_hold : records_of turns ≡ records
unfolding records_of turns records numbers
examples_hold = refl

-- A record at a place: with just the room, with a byte ahead of it, and one byte short, where nothing is put.
put_at : ℕ → ℕ → List ℕ
put_at size at = record_put (replicate size 238) at (record { 0 = 1 }) (numbers (Appended (record { 0 = 2 }) 772))

puts_hold : put_at 6 0 ∷ put_at 7 1 ∷ put_at 6 1 ∷ [] ≡ (1 ∷ 1 ∷ 2 ∷ 4 ∷ 3 ∷ 255 ∷ []) ∷ (238 ∷ 1 ∷ 1 ∷ 2 ∷ 4 ∷ 3 ∷ 255 ∷ []) ∷ (238 ∷ 238 ∷ 238 ∷ 238 ∷ 238 ∷ 238 ∷ []) ∷ []
unfolding put_at record_put numbers
puts_hold = refl
