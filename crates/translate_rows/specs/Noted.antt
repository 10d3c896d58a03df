-- What pass 1's functions leave in the notes, beside their answers: whatever part of the text the definitions read, in enough steps,
-- its notes stand from its first row on. (Of a text that is refused nothing is said: its notes are not looked at.)
use Rattle.std.specs.Prelude.{◌≡◌, List, [], ◌∷◌, ◌++◌, map, ℕ, suc, ◌+◌, ◌-◌, ◌*◌, ◌≤◌, ◌<◌, ⊤}
use Rattle.std.proofs.lemmas.List.Edits.{sets}
use Rattle.translate_rows.specs.Kinds.{Row, Op}
use Rattle.meaning.specs.Numbers.{case_limit, row_limit, task_limit}
use Rattle.meaning.specs.Text.{Stmt, ifok, select, Body, Cases, nomore, default, case, Job}
use Rattle.meaning.specs.Layout.{size_b, first_rows}
use Rattle.text_words.specs.Words.{word_at}
use Rattle.text_reader.specs.Reading.{Part, got, bind, closed, second_by, case_by, last_by, cases_from, stmt_by, body_from, task_by, tasks_from, none}
use Rattle.translate_notes.specs.Notes.{op_code, op_port, op_arg, last_arg, notes_s, notes_b, notes_c, noted, all_of}

-- The notes of a case and its body, and of the cases alone, without the default's.
abbrev pub case_notes : Op → Body → ℕ → List ℕ
case_notes o b d = (8 + op_code o + 256 * op_port o) ∷ op_arg o ∷ suc (size_b b) ∷ notes_b b d

unfoldable pub lines_c : Cases → ℕ → List ℕ
lines_c nomore d = []
lines_c (default b) d = []
lines_c (case o b cs) d = case_notes o b d ++ lines_c cs d

-- Where no such part stands, the notes are as they were.
abbrev pub Unmoved : List ℕ → List ℕ → Part ⊤ → Type 0
Unmoved old new r = r ≡ none → new ≡ old

module _ (s : List ℕ) (channels depth at rows : ℕ) where
  abbrev pub BodyNoted : List ℕ → List ℕ → Type 0
  BodyNoted old new = (k : ℕ) (b : Body) (a r : ℕ) → row_limit - rows < k → body_from k s channels depth at rows ≡ got b a r → new ≡ sets old (3 * rows) (notes_b b depth)

  abbrev pub StmtNoted : List ℕ → List ℕ → Type 0
  StmtNoted old new = (k : ℕ) (x : Stmt) (a r : ℕ) → row_limit ≤ k + rows → stmt_by s channels (body_from k s channels (depth + 1)) depth (word_at s at) rows ≡ got x a r → new ≡ sets old (3 * rows) (notes_s x depth)

  -- A body, and then the note of the block that it ends.
  abbrev pub BlockNoted : ℕ → ℕ → ℕ → List ℕ → List ℕ → Type 0
  BlockNoted row head arg old new = (k : ℕ) (b : Body) (a r : ℕ) → row_limit - rows < k → body_from k s channels depth at rows ≡ got b a r → new ≡ noted (sets old (3 * rows) (notes_b b depth)) row head arg (rows + size_b b - row)

  abbrev pub SecondNoted : ℕ → List ℕ → List ℕ → Type 0
  SecondNoted row old new =
      (k : ℕ) (b : Body) (x : Stmt) (a r : ℕ) → row_limit - rows < k → second_by s channels (body_from k s channels depth) b at (word_at s at) rows ≡ got x a r
      → (c : Body) × (ifok b c ≡ x) × (new ≡ noted (sets old (3 * rows) (notes_b c depth)) row 7 (rows - row - 1) (rows + size_b c - row))

  -- The inside of a block whose row is the one ahead.
  abbrev pub IfokNoted : List ℕ → List ℕ → Type 0
  IfokNoted old new =
      (k d : ℕ) (x : Stmt) (a r : ℕ) → suc d ≡ depth → row_limit - rows < k
      → bind (body_from k s channels depth at rows) (λ b at r. second_by s channels (body_from k s channels depth) b at (word_at s at) r) ≡ got x a r → new ≡ sets old (3 * (rows - 1)) (notes_s x d)

  abbrev pub SelectNoted : List ℕ → List ℕ → Type 0
  SelectNoted old new =
      (k d : ℕ) (x : Stmt) (a r : ℕ) → suc d ≡ depth → row_limit - rows < k
      → bind (cases_from s channels (body_from k s channels depth) case_limit at rows) (λ cs at r. closed s (select cs) at r) ≡ got x a r → new ≡ sets old (3 * (rows - 1)) (notes_s x d)

  abbrev pub CaseNoted : ℕ → List ℕ → List ℕ → Type 0
  CaseNoted left old new = (k : ℕ) (o : Op) (b : Body) (a r : ℕ) → row_limit ≤ k + rows → case_by s channels (body_from k s channels depth) left (word_at s at) rows ≡ got (o, b) a r → new ≡ sets old (3 * rows) (case_notes o b depth)

  abbrev pub CasesNoted : List ℕ → List ℕ → Type 0
  CasesNoted old new = (k : ℕ) (cs : Cases) (a r : ℕ) → row_limit - rows < k → cases_from s channels (body_from k s channels depth) case_limit at rows ≡ got cs a r → new ≡ sets old (3 * rows) (lines_c cs depth)

  abbrev pub LastNoted : ℕ → ℕ → List ℕ → List ℕ → Type 0
  LastNoted row n old new =
      (k : ℕ) (cs : Cases) (a r : ℕ) → row_limit - rows < k → last_by s channels (body_from k s channels depth) at (word_at s at) rows ≡ got cs a r
      → new ≡ noted (sets old (3 * rows) (notes_c cs depth)) row (8 + 256 * n) (last_arg cs) (r - row)

-- TASKS. All of them are noted as one body (`all_of`), each closed by a stop.

abbrev pub stop_notes : List ℕ
stop_notes = 12 ∷ 0 ∷ 1 ∷ []

-- The numbers of the tasks' first rows.
abbrev pub first_numbers : List Body → ℕ → List ℕ
first_numbers bs i = map (λ (r : Row). r.0) (first_rows bs i)

module _ (s : List ℕ) (channels at rows : ℕ) where
  abbrev pub TaskNoted : ℕ → List ℕ → List ℕ → Type 0
  TaskNoted left old new = (b : Body) (a r : ℕ) → task_by s channels left (word_at s at) rows ≡ got b a r → new ≡ sets old (3 * rows) (notes_b b 0 ++ stop_notes)

  abbrev pub TasksNoted : List ℕ → List ℕ → List ℕ → List ℕ → Type 0
  TasksNoted old new oldf newf =
      (bs : List Body) (a r : ℕ) → tasks_from s channels task_limit at rows ≡ got bs a r
      → (new ≡ sets old (3 * rows) (notes_b (all_of bs) 0)) × (newf ≡ sets oldf 0 (first_numbers bs rows))

-- Of a whole text.
abbrev pub JobNoted : Part Job → List ℕ → List ℕ → List ℕ → List ℕ → Type 0
JobNoted p old new oldf newf =
    (j : Job) (a r : ℕ) → p ≡ got j a r → (new ≡ sets old 0 (notes_b (all_of j.tasks) 0)) × (newf ≡ sets oldf 0 (first_numbers j.tasks 0))
