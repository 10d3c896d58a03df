-- Document 01, 'What comes back': when one row of an image is good.
use Rattle.std.specs.Prelude.{Bool, true, not, ◌&&◌, List, ℕ, zero, suc, ◌-◌, ◌*◌, length, eqb, leb, ltb}
use Rattle.image_row.specs.Kinds.{Row, Port, Nil, On, Op, Send, Forward, Recv, Otherwise, Wait, Go, Statement, Do, Close, Range, Repeat, Ifok, Select, Case, Stop, Fields}
use Rattle.meaning.specs.Numbers.{case_limit, lap_limit, depth_limit}
use Rattle.meaning.specs.Image.{row_no}
use Rattle.meaning.specs.Bytes.{row_size, fields_of, statement_of, fields_of_row}

abbrev pub same_fields : Fields → Fields → Bool
same_fields f g = eqb f.op g.op && (eqb f.chan g.chan && (eqb f.arg g.arg && (eqb f.next g.next && eqb f.other g.other)))

-- "op .. or an unused field breaks the table": the table writes these five fields for the statement that they read as.
unfoldable pub in_table : Fields → Bool
in_table f = same_fields f (fields_of (statement_of f))

-- "case rows (ops 9 to 11)"
abbrev pub is_case_op : ℕ → Bool
is_case_op n = leb 9 n && leb n 11

-- How many of the case rows that a select names are still to come behind a row, where n of them were to come ahead of it.
unfoldable pub owed_after : ℕ → Statement → ℕ
owed_after n (Do o b) = 0
owed_after n (Close p b) = 0
owed_after n (Range p b a) = 0
owed_after n (Repeat d k b a) = 0
owed_after n (Ifok b a) = 0
owed_after n (Select k e) = k
owed_after n (Case o b) = n - 1
owed_after n Stop = 0

-- "C is a declared channel or `nil`"
unfoldable pub port_good : ℕ → Port → Bool
port_good channels Nil = true
port_good channels (On c) = ltb c.0 channels

unfoldable pub op_good : ℕ → Op → Bool
op_good channels (Send p v) = port_good channels p
op_good channels (Forward p) = port_good channels p
op_good channels (Recv p) = port_good channels p

-- rs is the image from row 0 on.
module _ (rs : List ℕ) where
  unfoldable pub is_case_row : Row → Bool
  is_case_row r = is_case_op (fields_of_row rs r).op

  -- It has so many rows.
  module _ (rows : ℕ) where
    -- "if a target isn't a row or is a case row"
    unfoldable pub is_target : Row → Bool
    is_target r = ltb r.0 rows && not (is_case_row r)

    unfoldable pub otherwise_good : Otherwise → Bool
    otherwise_good Wait = true
    otherwise_good (Go n) = is_target n

    -- "if fewer case rows .. than a select names follow it at once": the k rows from row i on are case rows.
    unfoldable pub cases_follow : ℕ → ℕ → Bool
    cases_follow zero i = true
    cases_follow (suc k) i = ltb i rows && (is_case_row (row_no i) && cases_follow k (suc i))

    -- And so many channels.
    module _ (channels : ℕ) where
      -- The ranges of chan and arg, the targets and the case rows, for a statement at row i with so many case rows to come:
      -- "depth: .. 0 to 5", "N (0 to 255)", "number of cases (0 to 8)", "or if a case row isn't one of those".
      unfoldable pub statement_good : ℕ → ℕ → Statement → Bool
      statement_good i owed (Do o n) = op_good channels o && is_target n
      statement_good i owed (Close p n) = port_good channels p && is_target n
      statement_good i owed (Range p n a) = port_good channels p && (is_target n && is_target a)
      statement_good i owed (Repeat d k n a) = ltb d depth_limit && (leb k lap_limit && (is_target n && is_target a))
      statement_good i owed (Ifok n a) = is_target n && is_target a
      statement_good i owed (Select k e) = leb k case_limit && (otherwise_good e && cases_follow k (suc i))
      statement_good i owed (Case o n) = ltb 0 owed && (op_good channels o && is_target n)
      statement_good i owed Stop = true

      unfoldable pub row_good : ℕ → ℕ → Fields → Bool
      row_good i owed f = in_table f && statement_good i owed (statement_of f)

      -- A row of an image: the slice holds every row, this is one of them, and it is good, with so many case rows to come.
      unfoldable pub row_passes : Row → ℕ → Bool
      row_passes i owed = leb (row_size * rows) (length rs) && (ltb i.0 rows && row_good i.0 owed (fields_of_row rs i))
