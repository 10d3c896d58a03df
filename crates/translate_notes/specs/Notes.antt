-- What pass 1 leaves of a job for pass 2: nested statements made flat, three numbers for each row, the rows in text order (a
-- statement ahead of what is inside it, a case ahead of its body). The three numbers of a row are
--   1. its op and its chan in one number, op + 256 * chan: the row's own, as document 01's table of the rows has them;
--   2. its arg: the row's own for send (the value) and repeat (the laps); for ifok the rows of its first body; for select 0 where it
--      has no default, and one more than the default's rows where it has one; 0 for every other row;
--   3. its size: how many rows the whole statement takes with all that is inside it; of a case, its row and those of its body.
-- With sizes alone pass 2 knows where each part ends and begins, and never looks at the text.
use Rattle.std.specs.Prelude.{cond, List, [], ◌∷◌, ◌++◌, ℕ, suc, ◌+◌, ◌*◌, ltb}
use Rattle.std.proofs.lemmas.List.Edits.{sets}
use Rattle.translate_notes.specs.Kinds.{Op, Send, Forward, Recv}
use Rattle.meaning.specs.Numbers.{row_limit}
use Rattle.meaning.specs.Events.{port_number}
use Rattle.meaning.specs.Text.{Stmt, operate, close, stop, range, repeat, ifok, select, Body, empty, ◌▸◌, Cases, nomore, default, case}
use Rattle.meaning.specs.Layout.{case_count, size_s, size_b}

-- AN OPERATION: its op as a statement (8 more as a case), the number of its channel, its value.

unfoldable pub op_code : Op → ℕ
op_code (Send p v) = 1
op_code (Forward p) = 2
op_code (Recv p) = 3

unfoldable pub op_port : Op → ℕ
op_port (Send p v) = port_number p
op_port (Forward p) = port_number p
op_port (Recv p) = port_number p

unfoldable pub op_arg : Op → ℕ
op_arg (Send p v) = v
op_arg (Forward p) = 0
op_arg (Recv p) = 0

-- A STATEMENT

unfoldable pub op_s : Stmt → ℕ
op_s (operate o) = op_code o
op_s (close p) = 4
op_s (range p b) = 5
op_s (repeat n b) = 6
op_s (ifok b c) = 7
op_s (select cs) = 8
op_s stop = 12

-- Inside d blocks: repeat's "chan = depth: blocks around it", select's "chan = number of cases".
unfoldable pub chan_s : Stmt → ℕ → ℕ
chan_s (operate o) d = op_port o
chan_s (close p) d = port_number p
chan_s (range p b) d = port_number p
chan_s (repeat n b) d = d
chan_s (ifok b c) d = 0
chan_s (select cs) d = case_count cs
chan_s stop d = 0

-- Of the default: 0 where there is none, one more than its rows where there is one.
unfoldable pub last_arg : Cases → ℕ
last_arg nomore = 0
last_arg (default b) = suc (size_b b)
last_arg (case o b cs) = last_arg cs

unfoldable pub arg_s : Stmt → ℕ
arg_s (operate o) = op_arg o
arg_s (close p) = 0
arg_s (range p b) = 0
arg_s (repeat n b) = n
arg_s (ifok b c) = size_b b
arg_s (select cs) = last_arg cs
arg_s stop = 0

-- THE NOTES, inside d blocks: of what is inside a statement, of a body, and of cases with their default.

unfoldable mutual
  pub inside_s : Stmt → ℕ → List ℕ
  inside_s (operate o) d = []
  inside_s (close p) d = []
  inside_s (range p b) d = notes_b b (suc d)
  inside_s (repeat n b) d = notes_b b (suc d)
  inside_s (ifok b c) d = notes_b b (suc d) ++ notes_b c (suc d)
  inside_s (select cs) d = notes_c cs (suc d)
  inside_s stop d = []

  pub notes_b : Body → ℕ → List ℕ
  notes_b empty d = []
  notes_b (s ▸ b) d = ((op_s s + 256 * chan_s s d) ∷ arg_s s ∷ size_s s ∷ inside_s s d) ++ notes_b b d

  pub notes_c : Cases → ℕ → List ℕ
  notes_c nomore d = []
  notes_c (default b) d = notes_b b d
  notes_c (case o b cs) d = (8 + op_code o + 256 * op_port o) ∷ op_arg o ∷ suc (size_b b) ∷ notes_b b d ++ notes_c cs d

-- Of a whole statement: the three numbers of its row, then what is inside it.
abbrev pub notes_s : Stmt → ℕ → List ℕ
notes_s s d = (op_s s + 256 * chan_s s d) ∷ arg_s s ∷ size_s s ∷ inside_s s d

-- The three numbers of a row stored in an array of notes; nothing where the row is past the limit.
unfoldable pub noted : List ℕ → ℕ → ℕ → ℕ → ℕ → List ℕ
noted old row head arg size = cond (ltb row row_limit) (sets old (3 * row) (head ∷ arg ∷ size ∷ [])) old

-- A JOB: "Each task closes with a stop row". Its tasks are noted as one body, all of them one behind the other, a stop behind each.

unfoldable pub closed_with : Body → Body → Body
closed_with empty c = stop ▸ c
closed_with (s ▸ b) c = s ▸ closed_with b c

unfoldable pub all_of : List Body → Body
all_of [] = empty
all_of (b ∷ bs) = closed_with b (all_of bs)
