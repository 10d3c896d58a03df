use mathlib.Core.Path.{◌≡◌}
use mathlib.Core.List.{List}
use Prim.Native.Nat.{ℕ, ◌-◌, ◌*◌, ◌≤◌}
use lib.ListN.{length}
use lib.Seq.{sets}
use Rattle.meaning.specs.Numbers.{task_limit}
use Rattle.meaning.specs.Text.{Body}
use Rattle.text_reader.specs.Reading.{got, tasks_from}
use Rattle.text_reader.specs.Answers.{counted}
use Rattle.translate_notes.specs.Notes.{all_of, notes_b}
use Rattle.translate_rows.specs.Noted.{first_numbers}
use Rattle.translate_rows.proofs.tasks.read_tasks.Given as goal

abbrev pub invariant-loop-task : goal.invariant-loop-task
invariant-loop-task l =
    (l.count ≤ task_limit) × (counted length l.count (tasks_from l.text l.channels (task_limit - l.count) l.behind.at l.behind.rows) ≡ counted length 0 (tasks_from l.text l.channels task_limit l.fn.from.at l.fn.from.rows))
    × ((bs : List Body) (a r : ℕ) → tasks_from l.text l.channels task_limit l.fn.from.at l.fn.from.rows ≡ got bs a r
    → (ds : List Body) × (tasks_from l.text l.channels (task_limit - l.count) l.behind.at l.behind.rows ≡ got ds a r) × (sets l.notes (3 * l.behind.rows) (notes_b (all_of ds) 0) ≡ sets l.initial.notes (3 * l.fn.from.rows) (notes_b (all_of bs) 0))
    × (sets l.firsts l.count (first_numbers ds l.behind.rows) ≡ sets l.initial.firsts 0 (first_numbers bs l.fn.from.rows)))

abbrev pub decreases-loop-task : goal.decreases-loop-task
decreases-loop-task l = task_limit - l.count
