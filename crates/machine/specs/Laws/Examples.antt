-- Refused turns compute. Images and states, each with the number by which document 01 refuses a turn on them: one table, one claim.
use Rattle.std.specs.Prelude.{◌≡◌, refl, false, List, [], ◌∷◌, ◌++◌, map, ℕ, set, replicate}
use Rattle.machine.specs.Kinds.{Task, Status, Able, Waiting, Ended, TaskState, State, EventNumbers}
use Rattle.meaning.specs.Image.{task_no}
use Rattle.meaning.specs.Events.{event, numbers}
use Rattle.meaning.specs.Bytes.{fields_of, statement_of, trailer_of, distance, mark_of, version_of, body_of, fields_of_row, tabulate, rows_in, capacity_in, first_row_in}
use Rattle.image_rows.specs.Rows.{counts_in, counts_of}
use Rattle.image_row.specs.Row.{in_table, owed_after, port_good, op_good, is_case_row, is_target, otherwise_good, cases_follow, statement_good, row_good}
use Rattle.image_check.specs.Check.{owed_at, capacity_bad, row_bad, first_row_bad, first_of, refused_at, body_checked, counts_good, checked}
use Rattle.meaning_laws.specs.Fits.{times}
use Rattle.machine_records.specs.Fitting.{every, name_fits, task_fits, length_fits, fitting}
use Rattle.machine_records.specs.Step.{refused_by, stepped}
use Rattle.machine_store.specs.Store.{records_in, words_of, cells_of}
use Rattle.machine_fit.specs.Fitted.{plainly, fitting_in}
use Rattle.machine.specs.Public.{state_of, turned}

-- A task's record: status and row.
abbrev standing : Status → ℕ → TaskState
standing st r = record { status = st; ok = false; register = 0; row = record { 0 = r }; laps = replicate 6 0 }

-- Task 0's record, the waiting order, the counts of tasks and channels, channel 0's length, the fault.
abbrev state : TaskState → List Task → ℕ → ℕ → ℕ → ℕ → ℕ → State
state x order waiting tasks channels n f = state_of (record {
  tasks = x ∷ replicate 15 (standing Able 0);
  chans = record { closed = false; len = n } ∷ replicate 15 (record { closed = false; len = 0 });
  order = order ++ replicate 14 (task_no 0);
  waiting = waiting;
  taskcount = tasks;
  chancount = channels;
  fault = f;
  named = task_no 0;
  stamp = 0;
})

-- A cell that tells more than its record.
abbrev with_cell : State → ℕ → ℕ → State
with_cell s i n = record { words = s.words; cells = set s.cells i n }

abbrev nobody : List Task
nobody = task_no 0 ∷ task_no 0 ∷ []

-- chan 1 task select case recv nil end end: the select, its case row, the stop row
abbrev image : List ℕ
image = (8 ∷ 1 ∷ 0 ∷ 0 ∷ 0 ∷ 0 ∷ 0 ∷ 0 ∷ []) ++ (11 ∷ 255 ∷ 0 ∷ 0 ∷ 2 ∷ 0 ∷ 0 ∷ 0 ∷ []) ++ (12 ∷ 0 ∷ 0 ∷ 0 ∷ 0 ∷ 0 ∷ 0 ∷ 0 ∷ []) ++ (1 ∷ 0 ∷ 0 ∷ []) ++ (3 ∷ 0 ∷ 1 ∷ 1 ∷ 27 ∷ 0 ∷ 0x5A ∷ 1 ∷ [])

record Example : Type 0 where
  image : List ℕ
  state : State
  task : ℕ
  number : ℕ

abbrev example : List ℕ → State → ℕ → ℕ → Example
example bs s t n = record { image = bs; state = s; task = t; number = n }

abbrev examples : List Example
examples =
    -- the image check's own number, ahead of 17 and of 13
    example [] (state (standing Able 0) nobody 0 1 1 0 0) 0 21
    ∷ example (0 ∷ 0 ∷ 0 ∷ 0 ∷ 0 ∷ 0 ∷ 0 ∷ 0 ∷ []) (state (standing Able 0) nobody 0 2 1 0 1) 0 22
    -- 17: task and channel counts; a row that is none, a case row; a length over its capacity; fault 5
    ∷ example image (state (standing Able 0) nobody 0 0 0 0 0) 0 17
    ∷ example image (state (standing Able 0) nobody 0 2 1 0 0) 0 17
    ∷ example image (state (standing Able 0) nobody 0 1 0 0 0) 0 17
    ∷ example image (state (standing Able 3) nobody 0 1 1 0 0) 0 17
    ∷ example image (state (standing Ended 1) nobody 0 1 1 0 0) 0 17
    ∷ example image (state (standing Able 0) nobody 0 1 1 2 0) 0 17
    ∷ example image (state (standing Able 0) nobody 0 1 1 0 5) 0 17
    -- 17: the order names a task that does not wait, none that waits, one twice, one that is none, one where it cannot wait
    ∷ example image (state (standing Able 0) nobody 1 1 1 0 0) 0 17
    ∷ example image (state (standing Waiting 0) nobody 0 1 1 0 0) 0 17
    ∷ example image (state (standing Waiting 0) nobody 2 1 1 0 0) 0 17
    ∷ example image (state (standing Waiting 0) (task_no 0 ∷ task_no 1 ∷ []) 2 1 1 0 0) 0 17
    ∷ example image (state (standing Waiting 2) nobody 1 1 1 0 0) 0 17
    -- 17: a status 3, an ok mark 2 and a closed mark 2, of a task and a channel that the image has or has not
    ∷ example image (with_cell (state (standing Ended 2) nobody 0 1 1 0 0) 0 3) 0 17
    ∷ example image (with_cell (state (standing Able 0) nobody 0 1 1 0 0) 15 3) 0 17
    ∷ example image (with_cell (state (standing Able 0) nobody 0 1 1 0 0) 16 2) 0 17
    ∷ example image (with_cell (state (standing Able 0) nobody 0 1 1 0 0) 31 2) 0 17
    ∷ example image (with_cell (state (standing Able 0) nobody 0 1 1 0 0) 48 2) 0 17
    -- 17 ahead of 13
    ∷ example image (state (standing Able 0) nobody 0 2 1 0 4) 0 17
    -- 13, ahead of 14, 16 and 15
    ∷ example image (state (standing Able 0) nobody 0 1 1 1 4) 0 13
    ∷ example image (state (standing Able 0) nobody 0 1 1 0 1) 1 13
    ∷ example image (state (standing Ended 2) nobody 0 1 1 0 1) 0 13
    ∷ example image (state (standing Waiting 0) nobody 1 1 1 0 1) 0 13
    -- 14, 16, 15
    ∷ example image (state (standing Able 0) nobody 0 1 1 1 0) 1 14
    ∷ example image (state (standing Ended 2) nobody 0 1 1 0 0) 255 14
    ∷ example image (state (standing Ended 2) nobody 0 1 1 0 0) 0 16
    ∷ example image (state (standing Waiting 0) nobody 1 1 1 0 0) 0 15
    ∷ []

found : Example → EventNumbers × State
found e = let r = turned e.image e.state [] (task_no e.task) 0 in (numbers r.event, r.state)

-- "Refused turns, unused fields, state kept"
examples_hold : map found examples ≡ map (λ e. (event e.number 255 0 255, e.state)) examples
unfolding found numbers turned tabulate records_in words_of cells_of plainly fitting_in refused_by fields_of statement_of trailer_of distance mark_of version_of body_of fields_of_row rows_in capacity_in first_row_in counts_in counts_of in_table owed_after port_good op_good is_case_row owed_at is_target otherwise_good cases_follow capacity_bad statement_good row_good row_bad first_row_bad first_of refused_at body_checked counts_good checked times every name_fits task_fits length_fits fitting stepped
examples_hold = refl
