-- The answers compute: bytes of pairs, bytes of room, and what is answered once the image is good and the state fits; pairs by hand.
use Rattle.std.specs.Prelude.{◌≡◌, refl, List, [], ◌∷◌, map, ℕ, replicate, Result, Ok, Err}
use Rattle.machine_turns.specs.Kinds.{Counts, State, Unmade}
use Rattle.image_check.specs.declared.ImageFault.TheVariants.{BadRow}
use Rattle.meaning.specs.Image.{row_no, task_no}
use Rattle.meaning.specs.Bytes.{tabulate}
use Rattle.machine_records.specs.Fitting.{every, fitting}
use Rattle.machine_store.specs.Store.{records_in}
use Rattle.machine_fit.specs.Fitted.{plainly, fitting_in}
use Rattle.machine_turns.specs.Schedule.{pairs_of, unmade_number, unmade_place, outcome_of, outcome_after}

-- What a call answers, as numbers: the bytes written, or a refusal's number and place.
data Told : Type 0 where
  Done : ℕ → Told
  Refused : ℕ → ℕ → Told

told : Result ℕ Unmade → Told
told (Ok n) = Done n
told (Err why) = Refused (unmade_number why) (unmade_place why)

calls : List (ℕ × ℕ × Told)
calls =
    -- no pairs, with and without room
    (0, 0, Done 0)
    ∷ (0, 6, Done 0)
    -- one pair, nine pairs, with just the room and with more
    ∷ (2, 6, Done 6)
    ∷ (18, 54, Done 54)
    ∷ (18, 60, Done 54)
    -- 31: one byte short, no room
    ∷ (18, 53, Refused 31 54)
    ∷ (18, 0, Refused 31 54)
    -- 30, ahead of 31
    ∷ (1, 6, Refused 30 0)
    ∷ (3, 0, Refused 30 0)
    -- pairs whose records no number of 64 bits counts
    ∷ (6148914691236517206, 9223372036854775807, Refused 31 18446744073709551615)
    ∷ []

answers_hold : map (λ (c : ℕ × ℕ × Told). told (outcome_of c.0 c.1)) calls ≡ map (λ (c : ℕ × ℕ × Told). c.2) calls
unfolding calls told
answers_hold = refl

pairs_hold : pairs_of (0 ∷ 7 ∷ 15 ∷ 255 ∷ []) ≡ (task_no 0, 7) ∷ (task_no 15, 255) ∷ []
unfolding pairs_of
pairs_hold = refl

-- The image's own number with its place comes first, then 17, ahead of 30: a state of no tasks and an image of one.
counts : Counts
counts = record { rows = 1; channels = 0; tasks = 1; back = 10 }

none : State
none = record { words = replicate 33 0; cells = replicate 181 0 }

refused_first : told (outcome_after [] counts none 3 0 (Err (BadRow (row_no 7)))) ≡ Refused 26 7
unfolding told
refused_first = refl

unfit_next : told (outcome_after [] counts none 3 0 (Ok tt)) ≡ Refused 17 0
unfolding told counts none fitting_in plainly every fitting records_in tabulate
unfit_next = refl
