-- The row that a note is written as: document 01's table of the rows, 'Step image', from the three numbers and the rows around it.
-- Row numbers are counted on with no end; of one over 65,535 the two bytes of the field keep what two bytes can.
use Rattle.std.specs.Prelude.{cond, ℕ, ◌+◌, ◌-◌, ◌/◌, ◌%◌, eqb, ltb}
use Rattle.translate_fields.specs.Kinds.{Fields}
use Rattle.meaning.specs.Bytes.{fields}

-- The row that a field names for a part of n rows from row i on: "An empty body's field names that row", the one to which the
-- part's end leads, j.
unfoldable pub first_of : ℕ → ℕ → ℕ → ℕ
first_of n i j = cond (ltb 0 n) i j

-- "The end of a loop's body leads to the loop's row, the end of any other body to what follows its block": of the statement at row
-- i whose note begins with this number, and which row j follows.
unfoldable pub leads_to : ℕ → ℕ → ℕ → ℕ
leads_to head i j = cond (eqb (head % 256) 5) i (cond (eqb (head % 256) 6) i j)

-- A select at row i: with no default, arg and next are 0; with one of arg - 1 rows, which are the last of the select's, arg is 1.
unfoldable pub select_fields : ℕ → ℕ → ℕ → ℕ → ℕ → Fields
select_fields i chan arg size after = cond (eqb arg 0) (fields 8 chan 0 0 0) (fields 8 chan 1 (first_of (arg - 1) (i + size - (arg - 1)) after) 0)

-- The row i of a statement of so many rows that row `after` follows, by its op: the lines of the table, from op 1 on.
unfoldable pub row_fields : ℕ → ℕ → ℕ → ℕ → ℕ → ℕ → Fields
row_fields i op chan arg size after =
    -- send, forward, recv, close: "chan; arg = V for send; next"
    cond (ltb op 5) (fields op chan arg after 0)
    -- range and repeat: "next body, other after"
    (cond (ltb op 7) (fields op chan arg (first_of (size - 1) (i + 1) i) after)
    -- ifok: "next first body, other second body", arg the rows of the first
    (cond (eqb op 7) (fields 7 0 0 (first_of arg (i + 1) after) (first_of (size - 1 - arg) (i + 1 + arg) after))
    -- select: "chan = number of cases (0 to 8), arg 1 with default, next its body"
    (cond (eqb op 8) (select_fields i chan arg size after)
    -- stop: "none"
    (fields 12 0 0 0 0))))

-- The same, op and chan in one number as they are noted.
abbrev pub note_fields : ℕ → ℕ → ℕ → ℕ → ℕ → Fields
note_fields i head arg size after = row_fields i (head % 256) (head / 256) arg size after

-- The row of a case whose body stands from row start on: "chan; arg = V for send; next body".
unfoldable pub case_fields : ℕ → ℕ → ℕ → ℕ → ℕ → Fields
case_fields head arg size start after = fields (head % 256) (head / 256) arg (first_of (size - 1) start after) 0
