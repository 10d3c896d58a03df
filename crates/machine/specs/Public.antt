-- What `start` and `turn` answer, cell by cell, with document 01's refusals in front.
use Rattle.std.specs.Prelude.{◌≡◌, true, false, cond, List, ℕ, ltb, replicate, Result, Ok, Err, ⊤}
use Rattle.machine.specs.Kinds.{Task, Row, Able, Counts, ImageFault, TaskState, Keep, State, Turned, Started}
use Rattle.meaning.specs.declared.Event.TheVariants as event
use Rattle.meaning.specs.Numbers.{task_limit, channel_limit, capacity_limit, depth_limit, no_fault, unfit}
use Rattle.meaning.specs.Events.{numbers}
use Rattle.meaning.specs.Machine as m
use Rattle.meaning.specs.Image.{row_no, image_look, task_no}
use Rattle.meaning.specs.Bytes.{body_of, first_row_in, tabulate, rows_of}
use Rattle.image_rows.specs.Rows.{counts_of}
use Rattle.image_check.specs.Check.{checked, fault_number}
use Rattle.machine_records.specs.Records.{Records, blank_chan, no_tasks}
use Rattle.machine_records.specs.Values.{Values}
use Rattle.machine_records.specs.Plans.{Done}
use Rattle.machine_records.specs.Step.{stepped}
use Rattle.machine_records.specs.View.{view, turned_of}
use Rattle.machine_store.specs.Store.{records_of, words_of, cells_of}
use Rattle.machine_fit.specs.Fitted.{fitting_in}

-- The state of these records: "one store for one state".
abbrev pub state_of : Records → State
state_of s = record { words = words_of s; cells = cells_of s }

-- START

abbrev pub fresh_task : Row → TaskState
fresh_task r = record { status = Able; ok = false; register = 0; row = r; laps = replicate depth_limit 0 }

-- The records of the first n tasks at their first rows, those behind them unused.
abbrev pub fresh_tasks : List ℕ → Counts → ℕ → List TaskState
fresh_tasks rs k n = tabulate (λ t. fresh_task (cond (ltb t n) (first_row_in rs k.rows k.channels (task_no t)) (row_no 0))) task_limit 0

abbrev pub fresh_records : List TaskState → ℕ → ℕ → Records
fresh_records xs tasks channels = record {
  tasks = xs;
  taskcount = tasks;
  chans = replicate channel_limit blank_chan;
  chancount = channels;
  order = no_tasks;
  waiting = 0;
  fault = no_fault;
  named = task_no 0;
  stamp = 0;
}

unfoldable pub fresh_state : List ℕ → Counts → State
fresh_state rs k = state_of (fresh_records (fresh_tasks rs k k.tasks) k.tasks k.channels)

-- "A start from an image that fails returns that refusal and makes no machine": a state with no task, which fits no image.
abbrev pub no_state : State
no_state = record { words = replicate 33 0; cells = replicate 181 0 }

abbrev pub started_as : List ℕ → Counts → Result ⊤ ImageFault → Started
started_as rs k (Ok done) = record { answer = Ok tt; state = fresh_state rs k }
started_as rs k (Err fault) = record { answer = Err fault; state = no_state }

unfoldable pub started : List ℕ → Started
started bs = started_as (body_of bs) (counts_of bs) (checked bs)

-- All buffers empty.
abbrev pub fresh_values : Values
fresh_values = replicate channel_limit (replicate capacity_limit 0)

-- TURN: "in this order: the image check's own number, 17 state doesn't fit the image, 13 .., 14 .., 16 .., 15 .."

-- "Refused turns, unused fields, state kept"
abbrev pub refused_turn : State → ℕ → Turned
refused_turn s n = record { event = event.Refused n; state = s; change = Keep }

-- A turn over the records, told cell by cell.
abbrev pub turned_as : Done → Turned
turned_as d = record { event = d.event; state = state_of d.after; change = d.change }

abbrev pub stepped_turn : List ℕ → ℕ → State → Values → Task → ℕ → Turned
stepped_turn rs rows s b t choice = turned_as (stepped rs rows (records_of s) b t choice)

abbrev pub turned_after : List ℕ → Counts → State → Values → Task → ℕ → Result ⊤ ImageFault → Turned
turned_after rs k s b t choice (Ok done) = cond (fitting_in rs k s.words s.cells) (stepped_turn rs k.rows s b t choice) (refused_turn s unfit)
turned_after rs k s b t choice (Err fault) = refused_turn s (fault_number fault)

unfoldable pub turned : List ℕ → State → Values → Task → ℕ → Turned
turned bs s b t choice = turned_after (body_of bs) (counts_of bs) s b t choice (checked bs)

-- A turn's answer, over the records that its state reads as.
abbrev pub done_of : Turned → Done
done_of r = record { event = r.event; after = records_of r.state; change = r.change }

-- WHAT A TURN MEANS, on an image that passes the check, for a state that fits it: document 01's four numbers of its event are those of
-- the meaning's, the event and the machine seen in the state and values after it are those of the meaning's turn on the machine seen
-- before it, and the state fits again.
pub record Means (bs : List ℕ) (s : State) (b : Values) (t : Task) (choice : ℕ) (r : Turned) : Type 0 where
  pub told : numbers r.event ≡ numbers (m.turn (image_look (rows_of bs)) t choice (view bs (records_of s) b)).event
  pub same : turned_of bs b (done_of r) ≡ m.turn (image_look (rows_of bs)) t choice (view bs (records_of s) b)
  pub fits_again : fitting_in (body_of bs) (counts_of bs) r.state.words r.state.cells ≡ true
