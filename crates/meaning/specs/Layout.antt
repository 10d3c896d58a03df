-- Document 01, 'Step image': where the rows of a text stand, and which rows their fields name.
use Rattle.std.specs.Prelude.{List, [], ◌∷◌, ◌++◌, ℕ, suc, ◌+◌}
use Rattle.meaning.specs.Kinds.{Row, Otherwise, Wait, Go, Statement, Do, Close, Range, Repeat, Ifok, Select, Case, Stop}
use Rattle.meaning.specs.Text.{Stmt, operate, close, stop, range, repeat, ifok, select, Body, empty, ◌▸◌, Cases, nomore, default, case}
use Rattle.meaning.specs.Image.{row_no}

-- The number of cases, and so of case rows.
unfoldable pub case_count : Cases → ℕ
case_count nomore = 0
case_count (default b) = 0
case_count (case o b cs) = suc (case_count cs)

-- How many rows a statement, a body, and the bodies of cases and default take.
unfoldable mutual
  pub size_s : Stmt → ℕ
  size_s (operate o) = 1
  size_s (close p) = 1
  size_s stop = 1
  size_s (range p b) = suc (size_b b)
  size_s (repeat n b) = suc (size_b b)
  size_s (ifok b c) = suc (size_b b + size_b c)
  size_s (select cs) = suc (case_count cs + size_c cs)

  pub size_b : Body → ℕ
  size_b empty = 0
  size_b (s ▸ b) = size_s s + size_b b

  pub size_c : Cases → ℕ
  size_c nomore = 0
  size_c (default b) = size_b b
  size_c (case o b cs) = size_b b + size_c cs

-- The row that a field names for a body that would stand at row i: "An empty body's field names that row", the one to which
-- the body's end leads, j.
unfoldable pub entry : Body → ℕ → ℕ → Row
entry empty i j = row_no j
entry (s ▸ b) i j = row_no i

-- The case rows and the default of a select whose bodies stand from row i on and lead to row j.
unfoldable pub case_rows : Cases → ℕ → ℕ → List Statement
case_rows nomore i j = []
case_rows (default b) i j = []
case_rows (case o b cs) i j = Case o (entry b i j) ∷ case_rows cs (i + size_b b) j

unfoldable pub default_row : Cases → ℕ → ℕ → Otherwise
default_row nomore i j = Wait
default_row (default b) i j = Go (entry b i j)
default_row (case o b cs) i j = default_row cs (i + size_b b) j

-- "Rows stand in text order": the rows from row i on, inside d blocks, of what leads to row j.
unfoldable mutual
  pub rows_s : Stmt → ℕ → ℕ → ℕ → List Statement
  rows_s (operate o) d i j = Do o (row_no j) ∷ []
  rows_s (close p) d i j = Close p (row_no j) ∷ []
  rows_s stop d i j = Stop ∷ []
  -- "The end of a loop's body leads to the loop's row, the end of any other body to what follows its block"
  rows_s (range p b) d i j = Range p (entry b (suc i) i) (row_no j) ∷ rows_b b (suc d) (suc i) i
  rows_s (repeat n b) d i j = Repeat d n (entry b (suc i) i) (row_no j) ∷ rows_b b (suc d) (suc i) i
  rows_s (ifok b c) d i j = Ifok (entry b (suc i) j) (entry c (suc i + size_b b) j) ∷ rows_b b (suc d) (suc i) j ++ rows_b c (suc d) (suc i + size_b b) j
  -- "a select's case rows follow it at once, then the bodies in order, default last"
  rows_s (select cs) d i j = Select (case_count cs) (default_row cs (suc i + case_count cs) j) ∷ case_rows cs (suc i + case_count cs) j ++ rows_c cs (suc d) (suc i + case_count cs) j

  pub rows_b : Body → ℕ → ℕ → ℕ → List Statement
  rows_b empty d i j = []
  rows_b (s ▸ b) d i j = rows_s s d i (entry b (i + size_s s) j).0 ++ rows_b b d (i + size_s s) j

  pub rows_c : Cases → ℕ → ℕ → ℕ → List Statement
  rows_c nomore d i j = []
  rows_c (default b) d i j = rows_b b d i j
  rows_c (case o b cs) d i j = rows_b b d i j ++ rows_c cs d (i + size_b b) j

-- "Each task closes with a stop row": the rows of the tasks from row i on, and the first row of each.
unfoldable pub rows_t : List Body → ℕ → List Statement
rows_t [] i = []
rows_t (b ∷ bs) i = rows_b b 0 i (i + size_b b) ++ Stop ∷ rows_t bs (suc (i + size_b b))

unfoldable pub first_rows : List Body → ℕ → List Row
first_rows [] i = []
first_rows (b ∷ bs) i = row_no i ∷ first_rows bs (suc (i + size_b b))
