use mathlib.Core.Path.{◌≡◌}
use Prim.Native.Nat.{ℕ, suc, ◌+◌, ◌-◌, ◌*◌, ◌≤◌, ◌<◌}
use lib.Seq.{sets}
use Rattle.meaning.specs.Numbers.{case_limit, row_limit}
use Rattle.meaning.specs.Text.{Body, Cases}
use Rattle.text_reader.specs.Reading.{got, body_from, cases_from}
use Rattle.text_reader.specs.Answers.{told, counted, count_from, self}
use Rattle.translate_notes.specs.Notes.{notes_b}
use Rattle.translate_rows.specs.Noted.{lines_c}
use Rattle.translate_rows.proofs.reading.+reading.Given as goal

abbrev pub decreases-read_block : goal.decreases-read_block
decreases-read_block l = 5 * (suc row_limit - l.from.rows) + 2

abbrev pub decreases-read_body : goal.decreases-read_body
decreases-read_body l = 5 * (suc row_limit - l.from.rows) + 1

abbrev pub decreases-read_case : goal.decreases-read_case
decreases-read_case l = 5 * (suc row_limit - l.from.rows)

abbrev pub decreases-read_cases : goal.decreases-read_cases
decreases-read_cases l = 5 * (suc row_limit - l.from.rows) + 1

abbrev pub decreases-read_ifok : goal.decreases-read_ifok
decreases-read_ifok l = 5 * (suc row_limit - l.from.rows) + 4

abbrev pub decreases-read_last : goal.decreases-read_last
decreases-read_last l = 5 * (suc row_limit - l.from.rows) + 2

abbrev pub decreases-read_second : goal.decreases-read_second
decreases-read_second l = 5 * (suc row_limit - l.from.rows) + 3

abbrev pub decreases-read_select : goal.decreases-read_select
decreases-read_select l = 5 * (suc row_limit - l.from.rows) + 3

abbrev pub decreases-read_stmt : goal.decreases-read_stmt
decreases-read_stmt l = 5 * (suc row_limit - l.from.rows)

abbrev pub invariant-read_body-loop-next : goal.invariant-read_body-loop-next
invariant-read_body-loop-next l =
    (l.fn.from.rows ≤ l.behind.rows)
    × ((k : ℕ) → row_limit - l.fn.from.rows < k → (m : ℕ) × (row_limit - l.behind.rows < m) × (told (body_from m l.text l.channels l.depth l.behind.at l.behind.rows) ≡ told (body_from k l.text l.channels l.depth l.fn.from.at l.fn.from.rows)))
    × ((k : ℕ) (b : Body) (a r : ℕ) → row_limit - l.fn.from.rows < k → body_from k l.text l.channels l.depth l.fn.from.at l.fn.from.rows ≡ got b a r
    → (m : ℕ) × (e : Body) × (row_limit - l.behind.rows < m) × (body_from m l.text l.channels l.depth l.behind.at l.behind.rows ≡ got e a r) × (sets l.notes (3 * l.behind.rows) (notes_b e l.depth) ≡ sets l.initial.notes (3 * l.fn.from.rows) (notes_b b l.depth)))

abbrev pub decreases-read_body-loop-next : goal.decreases-read_body-loop-next
decreases-read_body-loop-next l = suc row_limit - l.behind.rows

abbrev pub invariant-read_cases-loop-case : goal.invariant-read_cases-loop-case
invariant-read_cases-loop-case l =
    (l.count ≤ case_limit) × (l.fn.from.rows ≤ l.behind.rows)
    × ((k : ℕ) → row_limit - l.fn.from.rows < k → counted self l.count (count_from l.text l.channels (body_from k l.text l.channels l.depth) (case_limit - l.count) l.behind.at l.behind.rows) ≡ counted self 0 (count_from l.text l.channels (body_from k l.text l.channels l.depth) case_limit l.fn.from.at l.fn.from.rows))
    × ((k : ℕ) (cs : Cases) (a r : ℕ) → row_limit - l.fn.from.rows < k → cases_from l.text l.channels (body_from k l.text l.channels l.depth) case_limit l.fn.from.at l.fn.from.rows ≡ got cs a r
    → (ds : Cases) × (cases_from l.text l.channels (body_from k l.text l.channels l.depth) (case_limit - l.count) l.behind.at l.behind.rows ≡ got ds a r) × (sets l.notes (3 * l.behind.rows) (lines_c ds l.depth) ≡ sets l.initial.notes (3 * l.fn.from.rows) (lines_c cs l.depth)))

abbrev pub decreases-read_cases-loop-case : goal.decreases-read_cases-loop-case
decreases-read_cases-loop-case l = suc row_limit - l.behind.rows
