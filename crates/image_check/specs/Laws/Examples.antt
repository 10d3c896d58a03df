-- The check computes. Small images, each with the answer that document 01's list gives: one table, one claim. Every byte stands
-- here as document 01's 'Step image' says it; nothing is written by the definitions that it is to try.
use Rattle.std.specs.Prelude.{◌≡◌, refl, List, [], ◌∷◌, ◌++◌, map, ℕ, Result, Ok, Err, ⊤}
use Rattle.meaning.specs.Bytes.{fields_of, statement_of, trailer_of, distance, mark_of, version_of, body_of, fields_of_row, capacity_in, first_row_in}
use Rattle.image_rows.specs.Rows.{counts_in, counts_of}
use Rattle.image_check.specs.Kinds.{ImageFault}
use Rattle.image_row.specs.Row.{in_table, owed_after, port_good, op_good, is_case_row, is_target, otherwise_good, cases_follow, statement_good, row_good}
use Rattle.image_check.specs.Check.{owed_at, capacity_bad, row_bad, first_row_bad, first_of, refused_at, body_checked, counts_good, checked, fault_number, fault_place}

abbrev Bytes : Type 0
Bytes = List ℕ

-- op, chan, arg, next, other, each below 256
abbrev row : ℕ → ℕ → ℕ → ℕ → ℕ → Bytes
row o c a n m = o ∷ c ∷ a ∷ 0 ∷ n ∷ 0 ∷ m ∷ 0 ∷ []

abbrev stop_row : Bytes
stop_row = row 12 0 0 0 0

-- rows, channels, tasks and distance, the two wide ones below 256
abbrev trailer : ℕ → ℕ → ℕ → ℕ → Bytes
trailer r c t d = r ∷ 0 ∷ c ∷ t ∷ d ∷ 0 ∷ 0x5A ∷ 1 ∷ []

-- One channel of capacity 0 and one task from row 0 on, behind one, two or three rows and a stop row.
abbrev one : Bytes → Bytes
one a = a ++ stop_row ++ (0 ∷ 0 ∷ 0 ∷ []) ++ trailer 2 1 1 19

abbrev two : Bytes → Bytes → Bytes
two a b = a ++ b ++ stop_row ++ (0 ∷ 0 ∷ 0 ∷ []) ++ trailer 3 1 1 27

abbrev three : Bytes → Bytes → Bytes → Bytes
three a b c = a ++ b ++ c ++ stop_row ++ (0 ∷ 0 ∷ 0 ∷ []) ++ trailer 4 1 1 35

-- A stop row; behind it capacities, first rows and the trailer.
abbrev stop_and : Bytes → Bytes → Bytes → Bytes
stop_and caps firsts t = stop_row ++ caps ++ firsts ++ t

-- An answer as document 01 tells it: good, or the refusal's number and place.
data Told : Type 0 where
  Good : Told
  Refused : ℕ → ℕ → Told

abbrev told : Result ⊤ ImageFault → Told
told (Ok done) = Good
told (Err fault) = Refused (fault_number fault) (fault_place fault)

record Example : Type 0 where
  image : Bytes
  answer : Told

abbrev example : Bytes → Told → Example
example bs a = record { image = bs; answer = a }

abbrev examples : List Example
examples =
    -- 21: under 8 bytes
    example [] (Refused 21 0)
    ∷ example (0 ∷ 0 ∷ 1 ∷ 10 ∷ 0 ∷ 0x5A ∷ 1 ∷ []) (Refused 21 0)
    -- 22, ahead of 23: mark
    ∷ example (0 ∷ 0 ∷ 0 ∷ 0 ∷ 0 ∷ 0 ∷ 0 ∷ 0 ∷ []) (Refused 22 0)
    ∷ example (stop_and [] (0 ∷ 0 ∷ []) (1 ∷ 0 ∷ 0 ∷ 1 ∷ 10 ∷ 0 ∷ 0x5B ∷ 1 ∷ [])) (Refused 22 0)
    -- 23, ahead of 24: version
    ∷ example (stop_and [] (0 ∷ 0 ∷ []) (1 ∷ 0 ∷ 0 ∷ 1 ∷ 10 ∷ 0 ∷ 0x5A ∷ 2 ∷ [])) (Refused 23 0)
    ∷ example (0 ∷ 0 ∷ 0 ∷ 0 ∷ 0 ∷ 0 ∷ 0x5A ∷ 0 ∷ []) (Refused 23 0)
    -- 24, ahead of 25: no row, 1,025 rows, 17 channels, no task, 17 tasks, a distance one too short and one too long
    ∷ example (trailer 0 0 1 2) (Refused 24 0)
    ∷ example (1 ∷ 4 ∷ 0 ∷ 1 ∷ 10 ∷ 32 ∷ 0x5A ∷ 1 ∷ []) (Refused 24 0)
    ∷ example (trailer 1 17 1 27) (Refused 24 0)
    ∷ example (trailer 1 0 0 8) (Refused 24 0)
    ∷ example (trailer 1 0 17 42) (Refused 24 0)
    ∷ example (stop_and [] (0 ∷ 0 ∷ []) (trailer 1 0 1 9)) (Refused 24 0)
    ∷ example (stop_and [] (0 ∷ 0 ∷ []) (trailer 1 0 1 11)) (Refused 24 0)
    -- 25: 1,024 rows; 16 channels and 16 tasks; one byte of row 0 is not there
    ∷ example (0 ∷ 4 ∷ 0 ∷ 1 ∷ 2 ∷ 32 ∷ 0x5A ∷ 1 ∷ []) (Refused 25 0)
    ∷ example (trailer 1 16 16 56) (Refused 25 0)
    ∷ example ((0 ∷ 0 ∷ 0 ∷ 0 ∷ 0 ∷ 0 ∷ 0 ∷ []) ++ (0 ∷ 0 ∷ []) ++ trailer 1 0 1 10) (Refused 25 0)
    -- a good one, and behind bytes that are not its own
    ∷ example (stop_and [] (0 ∷ 0 ∷ []) (trailer 1 0 1 10)) Good
    ∷ example (1 ∷ 2 ∷ 3 ∷ stop_and [] (0 ∷ 0 ∷ []) (trailer 1 0 1 10)) Good
    -- 26: a row that image_row's table finds bad, and good ones; a select's cases; a capacity of 11 behind the last row is no case row
    ∷ example (one (row 13 0 0 0 0)) (Refused 26 0)
    ∷ example (one (row 3 255 0 1 0)) Good
    ∷ example (two (row 8 1 0 0 0) (row 9 0 7 2 0)) Good
    ∷ example (two (row 8 2 0 0 0) (row 11 0 0 2 0)) (Refused 26 0)
    ∷ example (row 8 1 0 0 0 ++ (11 ∷ 0 ∷ 0 ∷ []) ++ trailer 1 1 1 11) (Refused 26 0)
    -- a case row that isn't one of those: behind no select, behind a select of none, behind a select's last
    ∷ example (two (row 3 0 0 0 0) (row 11 0 0 2 0)) (Refused 26 1)
    ∷ example (two (row 8 0 0 0 0) (row 11 0 0 2 0)) (Refused 26 1)
    ∷ example (three (row 8 1 0 0 0) (row 11 0 0 3 0) (row 11 0 0 3 0)) (Refused 26 2)
    ∷ example (three (row 8 2 0 0 0) (row 11 0 0 3 0) (row 11 0 0 3 0)) Good
    -- the first bad row; and 26 ahead of 27 and 28
    ∷ example (three stop_row (row 13 0 0 0 0) (row 13 0 0 0 0)) (Refused 26 1)
    ∷ example (row 13 0 0 0 0 ++ (17 ∷ 9 ∷ 0 ∷ []) ++ trailer 1 1 1 11) (Refused 26 0)
    -- 27: capacity 16 passes, 17 does not; the first such channel; ahead of 28
    ∷ example (stop_and (16 ∷ []) (0 ∷ 0 ∷ []) (trailer 1 1 1 11)) Good
    ∷ example (stop_and (16 ∷ 17 ∷ 18 ∷ []) (0 ∷ 0 ∷ []) (trailer 1 3 1 13)) (Refused 27 1)
    ∷ example (stop_and (17 ∷ []) (1 ∷ 0 ∷ []) (trailer 1 1 1 11)) (Refused 27 0)
    -- 28: no row; the first such task; a case row; the high byte counts
    ∷ example (stop_and [] (1 ∷ 0 ∷ []) (trailer 1 0 1 10)) (Refused 28 0)
    ∷ example (stop_and [] (0 ∷ 0 ∷ 1 ∷ 0 ∷ 2 ∷ 0 ∷ []) (trailer 1 0 3 14)) (Refused 28 1)
    ∷ example (row 8 1 0 0 0 ++ row 11 0 0 2 0 ++ stop_row ++ (0 ∷ 1 ∷ 0 ∷ []) ++ trailer 3 1 1 27) (Refused 28 0)
    ∷ example (stop_and [] (0 ∷ 1 ∷ []) (trailer 1 0 1 10)) (Refused 28 0)
    ∷ []

examples_hold : map (λ e. told (checked e.image)) examples ≡ map (λ e. e.answer) examples
unfolding fields_of statement_of trailer_of distance mark_of version_of body_of fields_of_row capacity_in first_row_in counts_in counts_of in_table owed_after port_good op_good is_case_row owed_at is_target otherwise_good cases_follow capacity_bad statement_good row_good row_bad first_row_bad first_of refused_at body_checked counts_good checked
examples_hold = refl
