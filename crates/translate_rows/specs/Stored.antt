-- What pass 2's functions are given and what they leave: whatever part of a job the notes hold, its rows stand in the buffer from row
-- i on and lead to row j.
use Rattle.std.specs.Prelude.{◌≡◌, List, [], ◌∷◌, ℕ, suc, ◌+◌, ◌*◌, ◌≤◌, get_or}
use Rattle.meaning.specs.Numbers.{row_limit}
use Rattle.meaning.specs.Text.{Stmt, Body, Cases}
use Rattle.meaning.specs.Layout.{case_count, size_s, size_b, size_c, case_rows, rows_s, rows_b, rows_c}
use Rattle.translate_notes.specs.Notes.{notes_s, notes_b, notes_c}
use Rattle.translate_rows.specs.RowsPut.{rows_put}

-- These numbers stand in an array from place i on.
abbrev pub Held : List ℕ → ℕ → List ℕ → Type 0
Held ns i [] = Unit {0}
Held ns i (x ∷ xs) = (get_or ns i 0 ≡ x) × Held ns (suc i) xs

-- The notes, as they are lent.
module _ (ns : List ℕ) where
  -- A statement of n rows noted at row r, a body noted from row r to row e, k cases noted from row r on.
  abbrev pub StmtHeld : Stmt → ℕ → ℕ → ℕ → Type 0
  StmtHeld x d r n = Held ns (3 * r) (notes_s x d) × (n ≡ size_s x)

  abbrev pub BodyHeld : Body → ℕ → ℕ → ℕ → Type 0
  BodyHeld b d r e = Held ns (3 * r) (notes_b b d) × (e ≡ r + size_b b)

  abbrev pub CasesHeld : Cases → ℕ → ℕ → ℕ → Type 0
  CasesHeld cs d r k = Held ns (3 * r) (notes_c cs d) × (k ≡ case_count cs)

  -- The same, there and within the limits: noted from row r on, to stand from row i on (the case rows from row `line` on).
  abbrev pub StmtThere : ℕ → ℕ → ℕ → Type 0
  StmtThere r n i = (x : Stmt) × (d : ℕ) × StmtHeld x d r n × (r + n ≤ row_limit) × (i + n ≤ row_limit)

  abbrev pub BodyThere : ℕ → ℕ → ℕ → Type 0
  BodyThere r e i = (b : Body) × (d : ℕ) × BodyHeld b d r e × (e ≤ row_limit) × (i + size_b b ≤ row_limit)

  abbrev pub BodiesThere : ℕ → ℕ → ℕ → ℕ → Type 0
  BodiesThere r k e i =
      (cs : Cases) × (d : ℕ) × CasesHeld cs d r k
      × (e ≡ r + case_count cs + size_c cs) × (e ≤ row_limit) × (i + size_c cs ≤ row_limit)

  abbrev pub CasesThere : ℕ → ℕ → ℕ → ℕ → Type 0
  CasesThere r k line i =
      (cs : Cases) × (d : ℕ) × CasesHeld cs d r k
      × (r + case_count cs + size_c cs ≤ row_limit) × (line + case_count cs ≤ row_limit) × (i + size_c cs ≤ row_limit)

  abbrev pub StmtStored : ℕ → ℕ → ℕ → ℕ → List ℕ → List ℕ → Type 0
  StmtStored r n i j out new = (x : Stmt) (d : ℕ) → StmtHeld x d r n → new ≡ rows_put out i (rows_s x d i j)

  abbrev pub BodyStored : ℕ → ℕ → ℕ → ℕ → List ℕ → List ℕ → Type 0
  BodyStored r e i j out new = (b : Body) (d : ℕ) → BodyHeld b d r e → new ≡ rows_put out i (rows_b b d i j)

  abbrev pub CasesStored : ℕ → ℕ → ℕ → ℕ → ℕ → List ℕ → List ℕ → Type 0
  CasesStored r k line i j out new = (cs : Cases) (d : ℕ) → CasesHeld cs d r k → new ≡ rows_put out line (case_rows cs i j)

  abbrev pub BodiesStored : ℕ → ℕ → ℕ → ℕ → ℕ → List ℕ → List ℕ → Type 0
  BodiesStored r k e i j out new =
      (cs : Cases) (d : ℕ) → CasesHeld cs d r k → e ≡ r + case_count cs + size_c cs → new ≡ rows_put out i (rows_c cs d i j)
