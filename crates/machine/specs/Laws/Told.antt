-- A turn made in place is told cell by cell, by the arrays that it leaves: what `turn` answers of the state that they were.
use Rattle.std.specs.Prelude.{◌≡◌, refl, true, List, [], ◌∷◌, ℕ, zero, suc, ◌<◌, length, get_or, Ok}
use Rattle.std.proofs.Math.Path.{sym}
use Rattle.std.proofs.Common.{ap, ap₂, ◌∙◌, le_of_suc-le-suc, not-suc-le-zero, arith}
use Rattle.std.specs.Int.{w16}
use mir.Val.{Val}
use Rattle.std.specs.Borrow.{RattleType}
use denote.Laws.{Is}
use denote.Shadow.{shadow}
use denote.Plain.{UInt}
use denote.Array.{Array, each}
use Rattle.machine.specs.Kinds.{Task, Moved, State, Turned}
use Rattle.meaning.specs.Bytes.{row_count, body_of}
use Rattle.image_rows.specs.Rows.{counts_in, counts_of}
use Rattle.image_check.specs.Check.{checked}
use Rattle.machine_records.specs.Records.{Records}
use Rattle.machine_records.specs.Values.{Values}
use Rattle.machine_records.specs.Plans.{Done}
use Rattle.machine_records.specs.Step.{stepped}
use Rattle.machine_store.specs.Store.{records_of, state_in, Plain, done_in, MadeTurn}
use Rattle.machine_store.specs.Laws.Again.{words_again, cells_again}
use Rattle.machine_fit.specs.Fitted.{fitting_in}
use Rattle.machine_fit.specs.Laws.Plain.{fitting_parts}
use Rattle.machine.specs.Public.{state_of, turned_as, turned}
use Rattle.machine.specs.Laws.Meant.{turned_step}

-- ONE STORE FOR ONE STATE

module _ (x : State) (lw : length x.words ≡ 33) (lc : length x.cells ≡ 181) (p : Plain x.cells) where
  pub state_again : (s : Records) → records_of x ≡ s → x ≡ state_of s
  state_again s e = sym (ap₂ state_in (words_again x.words x.cells lw) (cells_again x.words x.cells lc p)) ∙ ap state_of e

  -- A turn in place, told cell by cell.
  pub turn_told : (m : Moved) (d : Done) → done_in x m ≡ d → record { event = m.event; state = x; change = m.change } ≡ turned_as d
  turn_told m d e = ap (λ s. record { event = m.event; state = s; change = m.change }) (state_again (records_of x) refl) ∙ ap turned_as e

-- The same of a whole turn, on an image that passes the check and for a state that fits it.
abbrev pub told_turn : State → Moved → Turned
told_turn x m = record { event = m.event; state = x; change = m.change }

module _ (bs : List ℕ) (s : State) (b : Values) (t : Task) (choice : ℕ) (good : checked bs ≡ Ok tt)
    (fit : fitting_in (body_of bs) (counts_of bs) s.words s.cells ≡ true) where
  pub turned_in_place : (y : State) → length y.words ≡ 33 → length y.cells ≡ 181 → (m : Moved)
      → MadeTurn s y m (λ z. stepped (body_of bs) (counts_of bs).rows z b t choice) → turned bs s b t choice ≡ told_turn y m
  unfolding counts_of counts_in row_count
  turned_in_place y lw lc m e =
      let p = e.plain (fitting_parts (body_of bs) (counts_of bs) s.words s.cells fit).0 in
      turned_step bs s b t choice good fit ∙ sym (turn_told y lw lc p m _ e.same)

-- The rows of an array of arrays have sixteen cells each: what is known of the array says it element by element.
abbrev CellRow : RattleType
CellRow = Array (UInt w16) 16

each_row : (xs : List CellRow.Denot) (us : List Val) → shadow (each CellRow.Denot CellRow.own_val xs us) → (j : ℕ) → j < length xs
    → length (get_or xs j []) ≡ 16
each_row [] us s j h = absurd (not-suc-le-zero h)
each_row (x ∷ xs) [] s j h = absurd s
each_row (x ∷ xs) (u ∷ us) s zero h = s.0.1.0.1
each_row (x ∷ xs) (u ∷ us) s (suc j) h = each_row xs us s.1 j (le_of_suc-le-suc h)

pub rows-length : (xs : List CellRow.Denot) (vs : List Val) → Is (Array CellRow 16) xs vs → (j : ℕ) → j < 16 → length (get_or xs j []) ≡ 16
rows-length xs vs p j h =
    let n : length xs ≡ 16 = p.1.0.1 in
    each_row xs p.0 p.1.1 j (omega arith)
