-- Document 01, 'Step image': what a task at a row, with its lap counts, does next. The rows are decoded here; Bytes reads them.
use Rattle.std.specs.Prelude.{cond, List, [], ◌∷◌, ◌++◌, map, ℕ, zero, suc, get_or, set, replicate, ltb}
use Rattle.std.proofs.Math.Option.{Option, none, some}
use Rattle.meaning.specs.Kinds.{Task, Chan, Row, Recv, Otherwise, Wait, Go, Statement, Do, Close, Range, Repeat, Ifok, Select, Case, Stop}
use Rattle.meaning.specs.Numbers.{depth_limit}
use Rattle.meaning.specs.Machine as m

-- "Running keeps one lap count (0 to 255) per task and depth."
pub record Spot : Type 0 where
  pub row : Row
  pub laps : List ℕ

abbrev pub spot : List ℕ → Row → Spot
spot laps r = record { row = r; laps = laps }

-- Row, channel and task number n: three kinds, so that none is taken for another.
abbrev pub row_no : ℕ → Row
row_no n = record { 0 = n }

abbrev pub chan_no : ℕ → Chan
chan_no n = record { 0 = n }

abbrev pub task_no : ℕ → Task
task_no n = record { 0 = n }

-- The rows of an image, each asked for by its number: an image is read where it stands and never copied.
abbrev pub Rows : Type 0
Rows = Row → Statement

unfoldable pub image_case : List ℕ → Statement → List (m.Case Spot)
image_case laps (Do o n) = []
image_case laps (Close p n) = []
image_case laps (Range p n a) = []
image_case laps (Repeat d k n a) = []
image_case laps (Ifok n a) = []
image_case laps (Select k e) = []
image_case laps (Case o n) = record { op = o; hit = spot laps n; miss = spot laps n } ∷ []
image_case laps Stop = []

-- "a select's case rows follow it at once": the k rows from row i on
unfoldable pub image_cases : Rows → List ℕ → ℕ → ℕ → List (m.Case Spot)
image_cases rows laps zero i = []
image_cases rows laps (suc k) i = image_case laps (rows (row_no i)) ++ image_cases rows laps k (suc i)

unfoldable pub image_default : List ℕ → Otherwise → Option Spot
image_default laps Wait = none
image_default laps (Go n) = some (spot laps n)

-- "repeat adds 1 and goes to next if it is below N, otherwise sets it to 0 and goes to other"
unfoldable pub image_repeat : List ℕ → ℕ → ℕ → Row → Row → m.Look Spot
image_repeat laps d n body after = m.branches (cond (ltb (get_or laps d 0) n) (spot (set laps d (suc (get_or laps d 0))) body) (spot (set laps d 0) after))

-- The row at number i. (A task never stands at a case row: the image check sees to it.)
unfoldable pub image_statement : Rows → List ℕ → ℕ → Statement → m.Look Spot
image_statement rows laps i (Do o n) = m.alone o (spot laps n) (spot laps n)
image_statement rows laps i (Close p n) = m.closes p (spot laps n)
image_statement rows laps i (Range p body after) = m.alone (Recv p) (spot laps body) (spot laps after)
image_statement rows laps i (Repeat d n body after) = image_repeat laps d n body after
image_statement rows laps i (Ifok first second) = m.asks (spot laps first) (spot laps second)
image_statement rows laps i (Select k e) = m.tries (image_cases rows laps k (suc i)) (image_default laps e)
image_statement rows laps i (Case o n) = m.ends
image_statement rows laps i Stop = m.ends

unfoldable pub image_look : Rows → Spot → m.Look Spot
image_look rows s = image_statement rows s.laps s.row.0 (rows s.row)

-- A fresh start at these first rows: every lap count is 0.
unfoldable pub image_start : List ℕ → List Row → m.Machine Spot
image_start capacities firsts = m.fresh capacities (map (spot (replicate depth_limit 0)) firsts)
