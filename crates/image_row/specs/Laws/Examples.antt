-- The row test computes. Rows as document 01's 'Step image' writes them, byte by byte, each with the answer that its list of bad rows
-- gives: one table, one claim; and one of the case rows still to come behind a row. Nothing is written by the definitions that it is
-- to try.
use Rattle.std.specs.Prelude.{◌≡◌, refl, Bool, true, false, List, [], ◌∷◌, ◌++◌, map, ℕ}
use Rattle.meaning.specs.Image.{row_no}
use Rattle.meaning.specs.Bytes.{fields_of, statement_of, fields_of_row}
use Rattle.image_row.specs.Row.{in_table, owed_after, port_good, op_good, is_case_row, is_target, otherwise_good, cases_follow, statement_good, row_good, row_passes}

abbrev Bytes : Type 0
Bytes = List ℕ

-- op, chan, arg, next, other, each below 256
abbrev row : ℕ → ℕ → ℕ → ℕ → ℕ → Bytes
row o c a n m = o ∷ c ∷ a ∷ 0 ∷ n ∷ 0 ∷ m ∷ 0 ∷ []

abbrev stop_row : Bytes
stop_row = row 12 0 0 0 0

-- Seven bytes of a stop row.
abbrev cut : Bytes
cut = 12 ∷ 0 ∷ 0 ∷ 0 ∷ 0 ∷ 0 ∷ 0 ∷ []

-- Eight case rows, `case recv 0` to row n.
abbrev cases8 : ℕ → Bytes
cases8 n = row 11 0 0 n 0 ++ row 11 0 0 n 0 ++ row 11 0 0 n 0 ++ row 11 0 0 n 0 ++ row 11 0 0 n 0 ++ row 11 0 0 n 0 ++ row 11 0 0 n 0 ++ row 11 0 0 n 0

-- A row of so many, with so many case rows to come; one channel is declared.
record Example : Type 0 where
  body : Bytes
  rows : ℕ
  row_no_there : ℕ
  owed : ℕ
  answer : Bool

abbrev example : Bytes → ℕ → ℕ → ℕ → Bool → Example
example bs n i o b = record { body = bs; rows = n; row_no_there = i; owed = o; answer = b }

-- Row 0 ahead of a stop row; row 1 between a select of one case and a stop row.
abbrev ahead : Bytes → Bool → Example
ahead a b = example (a ++ stop_row) 2 0 0 b

abbrev behind : Bytes → Bool → Example
behind a b = example (row 8 1 0 0 0 ++ a ++ stop_row) 3 1 1 b

abbrev examples : List Example
examples =
    -- every row is there, and bytes behind them; the row's own last byte is not; another row's is not; no such row
    example stop_row 1 0 0 true
    ∷ example (stop_row ++ (1 ∷ 2 ∷ 3 ∷ [])) 1 0 0 true
    ∷ example (stop_row ++ stop_row) 2 1 0 true
    ∷ example cut 1 0 0 false
    ∷ example (stop_row ++ cut) 2 0 0 false
    ∷ example (stop_row ++ stop_row) 1 1 0 false
    ∷ example [] 0 0 0 false
    -- good rows: send, forward, recv, close, on nil, range, repeat, ifok, select, select with default
    ∷ ahead (row 1 0 255 1 0) true
    ∷ ahead (1 ∷ 0 ∷ 255 ∷ 255 ∷ 1 ∷ 0 ∷ 0 ∷ 0 ∷ []) true
    ∷ ahead (row 2 0 0 1 0) true
    ∷ ahead (row 3 0 0 0 0) true
    ∷ ahead (row 4 0 0 1 0) true
    ∷ ahead (row 3 255 0 1 0) true
    ∷ ahead (row 5 0 0 0 1) true
    ∷ ahead (row 6 5 255 0 1) true
    ∷ ahead (row 7 0 0 1 0) true
    ∷ ahead (row 8 0 0 0 0) true
    ∷ ahead (row 8 0 1 1 0) true
    -- op 0 and op 13
    ∷ ahead (row 0 0 0 0 0) false
    ∷ ahead (row 13 0 0 0 0) false
    -- chan: no such channel, at each op that names one; depth 6; 9 cases that do follow; 8 pass
    ∷ ahead (row 1 1 0 1 0) false
    ∷ ahead (row 2 1 0 1 0) false
    ∷ ahead (row 3 1 0 1 0) false
    ∷ ahead (row 4 1 0 1 0) false
    ∷ ahead (row 5 254 0 0 1) false
    ∷ ahead (row 6 6 1 0 1) false
    ∷ example (row 8 8 0 0 0 ++ cases8 9 ++ stop_row) 10 0 0 true
    ∷ example (row 8 9 0 0 0 ++ cases8 10 ++ row 11 0 0 10 0 ++ stop_row) 11 0 0 false
    -- arg: N 256; a default mark of 2
    ∷ ahead (6 ∷ 0 ∷ 0 ∷ 1 ∷ 0 ∷ 0 ∷ 1 ∷ 0 ∷ []) false
    ∷ ahead (row 8 0 2 1 0) false
    -- an unused field that is not 0
    ∷ ahead (row 1 0 5 1 1) false
    ∷ ahead (row 2 0 1 1 0) false
    ∷ ahead (row 3 0 1 1 0) false
    ∷ ahead (row 4 0 0 1 1) false
    ∷ ahead (row 5 0 1 0 1) false
    ∷ ahead (row 7 1 0 1 1) false
    ∷ ahead (row 7 0 1 1 1) false
    ∷ ahead (row 8 0 0 1 0) false
    ∷ ahead (row 8 0 1 1 1) false
    ∷ ahead (row 12 0 0 1 0) false
    -- a target that isn't a row, in each field that names one
    ∷ ahead (row 1 0 0 2 0) false
    ∷ ahead (row 4 0 0 2 0) false
    ∷ ahead (row 5 0 0 2 1) false
    ∷ ahead (row 5 0 0 1 2) false
    ∷ ahead (row 6 0 1 2 1) false
    ∷ ahead (row 6 0 1 1 2) false
    ∷ ahead (row 7 0 0 2 1) false
    ∷ ahead (row 7 0 0 1 2) false
    ∷ ahead (row 8 0 1 2 0) false
    -- cases: send, forward and recv behind their select; the fields of a case row
    ∷ behind (row 9 0 7 2 0) true
    ∷ behind (row 10 0 0 2 0) true
    ∷ behind (row 11 255 0 0 0) true
    ∷ behind (row 9 1 7 2 0) false
    ∷ behind (row 10 0 1 2 0) false
    ∷ behind (row 11 0 0 2 1) false
    ∷ behind (row 11 0 0 3 0) false
    -- a target that is a case row: of a statement, of a default, of the case itself
    ∷ example (row 1 0 0 2 0 ++ row 8 1 0 0 0 ++ row 9 0 0 3 0 ++ stop_row) 4 0 0 false
    ∷ example (row 1 0 0 2 0 ++ row 8 1 0 0 0 ++ row 11 0 0 3 0 ++ stop_row) 4 0 0 false
    ∷ example (row 8 1 1 1 0 ++ row 11 0 0 2 0 ++ stop_row) 3 0 0 false
    ∷ behind (row 11 0 0 1 0) false
    -- fewer case rows than a select names follow it at once; one that lies behind the last row is none of them
    ∷ example (row 8 2 0 0 0 ++ row 11 0 0 2 0 ++ stop_row) 3 0 0 false
    ∷ example (row 8 1 0 0 0) 1 0 0 false
    ∷ example (row 8 1 0 0 0 ++ row 11 0 0 0 0) 1 0 0 false
    -- a case row where none is to come
    ∷ ahead (row 11 0 0 1 0) false
    ∷ []

examples_hold : map (λ e. row_passes e.body e.rows 1 (row_no e.row_no_there) e.owed) examples ≡ map (λ e. e.answer) examples
unfolding fields_of statement_of fields_of_row in_table owed_after port_good op_good is_case_row is_target otherwise_good cases_follow statement_good row_good row_passes
examples_hold = refl

-- The case rows to come behind row 0, where so many were to come ahead of it.
record Behind : Type 0 where
  body : Bytes
  owed : ℕ
  answer : ℕ

abbrev owing : Bytes → ℕ → ℕ → Behind
owing bs o n = record { body = bs; owed = o; answer = n }

abbrev behinds : List Behind
behinds =
    -- a select names them; each case row is one of them, and past the last there are none
    owing (row 8 3 0 0 0) 0 3
    ∷ owing (row 8 3 0 0 0) 2 3
    ∷ owing (row 9 0 7 2 0) 3 2
    ∷ owing (row 10 0 0 2 0) 2 1
    ∷ owing (row 11 0 0 2 0) 1 0
    ∷ owing (row 11 0 0 2 0) 0 0
    -- every other row ends them: op 1 to 7 and 12, ops out of the table, a row that is not whole
    ∷ owing (row 1 0 7 1 0) 2 0
    ∷ owing (row 4 0 0 1 0) 2 0
    ∷ owing (row 5 0 0 1 0) 2 0
    ∷ owing (row 6 3 5 1 0) 2 0
    ∷ owing (row 7 3 0 1 0) 2 0
    ∷ owing stop_row 2 0
    ∷ owing (row 0 3 0 0 0) 2 0
    ∷ owing (row 13 3 0 0 0) 2 0
    ∷ owing (8 ∷ 3 ∷ 0 ∷ 0 ∷ 0 ∷ 0 ∷ 0 ∷ []) 2 0
    ∷ []

behinds_hold : map (λ e. owed_after e.owed (statement_of (fields_of_row e.body (row_no 0)))) behinds ≡ map (λ e. e.answer) behinds
unfolding statement_of fields_of_row owed_after
behinds_hold = refl
