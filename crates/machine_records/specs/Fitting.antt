-- Document 01, 'What comes back': when a state fits an image, as a test. Refusal 17 is given exactly where it says no.
use Rattle.std.specs.Prelude.{Bool, true, false, ◌&&◌, List, ℕ, zero, suc, ◌%◌, eqb, leb, ltb, get_or}
use Rattle.machine_records.specs.Kinds.{Otherwise, Wait, Go, Statement, Do, Close, Range, Repeat, Ifok, Select, Case, Stop, Status, Able, Waiting, Ended, Counts, TaskState}
use Rattle.meaning.specs.Image.{chan_no, task_no}
use Rattle.meaning.specs.Numbers.{task_limit, channel_limit, close_under_sender}
use Rattle.meaning.specs.Bytes.{rows_in, capacity_in}
use Rattle.image_row.specs.Row.{is_target}
use Rattle.meaning_laws.specs.Fits.{times, mark}
use Rattle.machine_records.specs.Records.{Records, blank_task, blank_chan, order_of}

-- The n numbers from i on all pass.
unfoldable pub every : (ℕ → Bool) → ℕ → ℕ → Bool
every p zero i = true
every p (suc n) i = p i && every p n (suc i)

-- "an operation that can wait", by the kind of row: send, forward, recv and range, and a select without default
abbrev pub no_default : Otherwise → Bool
no_default Wait = true
no_default (Go n) = false

abbrev pub can_wait : Statement → Bool
can_wait (Do o n) = true
can_wait (Close p n) = false
can_wait (Range p n a) = true
can_wait (Repeat d k n a) = false
can_wait (Ifok n a) = false
can_wait (Select k e) = no_default e
can_wait (Case o n) = false
can_wait Stop = false

-- "every one at an operation that can wait"
abbrev pub place_fits : Status → Statement → Bool
place_fits Able s = true
place_fits Waiting s = can_wait s
place_fits Ended s = true

-- A name in the order is a task's.
unfoldable pub name_fits : Counts → Records → ℕ → Bool
name_fits k s i = ltb (get_or s.order (i % task_limit) (task_no 0)).0 k.tasks

-- rs is the image from row 0 on, k its counts.
module _ (rs : List ℕ) (k : Counts) (s : Records) where
  -- "each task's row is a row and no case row", "the order names exactly the waiting tasks, once each": task i stands as x
  abbrev pub record_fits : TaskState → ℕ → Bool
  record_fits x i = is_target rs k.rows x.row && (eqb (times (task_no i) (order_of s)) (mark x.status) && place_fits x.status (rows_in rs x.row))

  unfoldable pub task_fits : ℕ → Bool
  task_fits i = record_fits (get_or s.tasks (i % task_limit) blank_task) i

  -- "each length is at most its capacity"
  unfoldable pub length_fits : ℕ → Bool
  length_fits c = leb (get_or s.chans (c % channel_limit) blank_chan).len (capacity_in rs k.rows (chan_no c))

  -- "its task and channel counts are the image's, .. the fault is 0 to 4"
  unfoldable pub fitting : Bool
  fitting =
      eqb s.taskcount k.tasks
      && (eqb s.chancount k.channels
      && (leb s.fault close_under_sender
      && (leb s.waiting task_limit
      && (every (name_fits k s) s.waiting 0
      && (every length_fits k.channels 0
      && every task_fits k.tasks 0)))))
