-- Document 02, E1: a whole schedule in one call. "The answer and the end state equal those of single turns in order, refused turns
-- included; record bytes past the last are untouched."
use Rattle.std.specs.Prelude.{cond, List, [], ◌∷◌, ◌++◌, ℕ, ◌*◌, ◌%◌, eqb, leb, length, Result, Ok, Err, ⊤}
use Rattle.std.proofs.lemmas.List.Edits.{sets}
use Rattle.machine_turns.specs.Kinds.{Task, Counts, ImageFault, State, Unmade, Image, Unfit, OddPairs, RecordsShort, Scheduled}
use Rattle.meaning.specs.Numbers.{unfit}
use Rattle.meaning.specs.Events.{numbers}
use Rattle.meaning.specs.Image.{task_no}
use Rattle.meaning.specs.Bytes.{body_of}
use Rattle.events.specs.Record.{event_record}
use Rattle.image_rows.specs.Rows.{counts_of}
use Rattle.image_check.specs.Check.{checked, fault_number, fault_place}
use Rattle.machine_records.specs.Values.{Values, changed}
use Rattle.machine_fit.specs.Fitted.{fitting_in}
use Rattle.machine.specs.Public.{turned}

-- "Take a slice of pairs": task and choice, one pair behind the other.
unfoldable pub pairs_of : List ℕ → List (Task × ℕ)
pairs_of [] = []
pairs_of (t ∷ []) = []
pairs_of (t ∷ k ∷ ps) = (task_no t, k) ∷ pairs_of ps

-- SINGLE TURNS IN ORDER, each from the state and the stored values of the one before: the state behind the last, the values behind it,
-- and "6-byte event records", one for each turn.

module _ (bs : List ℕ) where
  unfoldable pub state_behind : List (Task × ℕ) → State → Values → State
  state_behind [] s b = s
  state_behind (p ∷ ps) s b = (let r = turned bs s b p.0 p.1 in state_behind ps r.state (changed b r.change))

  unfoldable pub values_behind : List (Task × ℕ) → State → Values → Values
  values_behind [] s b = b
  values_behind (p ∷ ps) s b = (let r = turned bs s b p.0 p.1 in values_behind ps r.state (changed b r.change))

  unfoldable pub event_records : List (Task × ℕ) → State → Values → List ℕ
  event_records [] s b = []
  event_records (p ∷ ps) s b = (let r = turned bs s b p.0 p.1 in event_record p.0 (numbers r.event) ++ event_records ps r.state (changed b r.change))

-- REFUSALS: "the image's own and 17, then 30 odd number of bytes, then 31 records slice too short (the length needed); all before any
-- turn"

abbrev pub odd_pairs : ℕ
odd_pairs = 30

abbrev pub records_short : ℕ
records_short = 31

-- Six bytes for each pair of two. The records of more bytes of pairs than this have no length that a number of 64 bits can say: then it
-- is the largest such number, which no slice has.
abbrev pub longest : ℕ
longest = 6148914691236517205

abbrev pub needed : ℕ → ℕ
needed n = cond (leb n longest) (3 * n) 18446744073709551615

-- The number of a call that makes no turn, and its place.
abbrev pub unmade_number : Unmade → ℕ
unmade_number (Image fault) = fault_number fault
unmade_number Unfit = unfit
unmade_number OddPairs = odd_pairs
unmade_number (RecordsShort n) = records_short

abbrev pub unmade_place : Unmade → ℕ
unmade_place (Image fault) = fault_place fault
unmade_place Unfit = 0
unmade_place OddPairs = 0
unmade_place (RecordsShort n) = n

-- Of so many bytes of pairs, with room for so many bytes of records.
abbrev pub outcome_of : ℕ → ℕ → Result ℕ Unmade
outcome_of pairs room =
    cond (eqb (pairs % 2) 0)
    (cond (leb (needed pairs) room) (Ok (needed pairs)) (Err (RecordsShort (needed pairs))))
    (Err OddPairs)

abbrev pub outcome_after : List ℕ → Counts → State → ℕ → ℕ → Result ⊤ ImageFault → Result ℕ Unmade
outcome_after rs k s pairs room (Ok done) = cond (fitting_in rs k s.words s.cells) (outcome_of pairs room) (Err Unfit)
outcome_after rs k s pairs room (Err fault) = Err (Image fault)

unfoldable pub outcome : List ℕ → State → ℕ → ℕ → Result ℕ Unmade
outcome bs s pairs room = outcome_after (body_of bs) (counts_of bs) s pairs room (checked bs)

-- THE CALL on an image, a state, the values beside it, a slice of pairs and one for the records: what it answers, and the values and
-- every byte of the records behind it. A refused call changes nothing.

abbrev pub if_done : {A : Type 0} → Result ℕ Unmade → A → A → A
if_done (Ok n) made kept = made
if_done (Err why) made kept = kept

abbrev pub decided : List ℕ → State → List ℕ → List ℕ → Result ℕ Unmade
decided bs s pairs records = outcome bs s (length pairs) (length records)

module _ (bs : List ℕ) (s : State) (b : Values) (pairs records : List ℕ) where
  abbrev pub scheduled : Scheduled
  scheduled = (let o = decided bs s pairs records in record { outcome = o; state = if_done o (state_behind bs (pairs_of pairs) s b) s })

  abbrev pub values_after : Values
  values_after = if_done (decided bs s pairs records) (values_behind bs (pairs_of pairs) s b) b

  abbrev pub records_after : List ℕ
  records_after = if_done (decided bs s pairs records) (sets records 0 (event_records bs (pairs_of pairs) s b)) records
