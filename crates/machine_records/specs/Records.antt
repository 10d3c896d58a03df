-- The records that a state reads as, and the changes of them from which every turn is made. Task and channel numbers count by their
-- remainder, so that every definition here answers every number.
use Rattle.std.specs.Prelude.{Bool, true, false, not, List, [], ℕ, suc, ◌+◌, ◌-◌, ◌%◌, eqb, length, get_or, set, take, replicate}
use Rattle.machine_records.specs.Kinds.{Task, Chan, Row, Status, Able, TaskState, ChanState}
use Rattle.meaning.specs.Numbers.{task_limit, channel_limit, capacity_limit, depth_limit, stamp_modulus}
use Rattle.meaning.specs.Image.{task_no}
use Rattle.machine_records.specs.Cells.{over, keep}

-- Sixteen tasks and sixteen channels, of which the first are the image's. `order` holds the waiting tasks, longest first, in its
-- first `waiting` cells. `fault` is 0 while the machine runs, and `named` the task that a fault names.
pub record Records : Type 0 where
  pub tasks : List TaskState
  pub taskcount : ℕ
  pub chans : List ChanState
  pub chancount : ℕ
  pub order : List Task
  pub waiting : ℕ
  pub fault : ℕ
  pub named : Task
  pub stamp : ℕ

-- READING

abbrev pub blank_task : TaskState
blank_task = record { status = Able; ok = false; register = 0; row = record { 0 = 0 }; laps = [] }

abbrev pub blank_chan : ChanState
blank_chan = record { closed = false; len = 0 }

abbrev pub task_in : List TaskState → Task → TaskState
task_in xs t = get_or xs (t.0 % task_limit) blank_task

abbrev pub chan_in : List ChanState → Chan → ChanState
chan_in cs c = get_or cs (c.0 % channel_limit) blank_chan

abbrev pub lap_of : TaskState → ℕ → ℕ
lap_of x d = get_or x.laps (d % depth_limit) 0

-- The waiting tasks, longest first.
abbrev pub order_of : Records → List Task
order_of s = take (s.waiting % suc task_limit) s.order

-- A TASK'S RECORD

-- The task has received v, with this mark, and moves on.
abbrev pub got_task : TaskState → ℕ → Bool → Row → TaskState
got_task x v b r = record { status = Able; ok = b; register = v; row = r; laps = x.laps }

-- The task moves on, its register and mark kept.
abbrev pub went_task : TaskState → Row → TaskState
went_task x r = record { status = Able; ok = x.ok; register = x.register; row = r; laps = x.laps }

-- The task stays where it is, with another status.
abbrev pub stood_task : TaskState → Status → TaskState
stood_task x st = record { status = st; ok = x.ok; register = x.register; row = x.row; laps = x.laps }

-- So many laps are begun in the repeat at depth d.
abbrev pub lap_task : TaskState → ℕ → ℕ → TaskState
lap_task x d k = record { status = x.status; ok = x.ok; register = x.register; row = x.row; laps = set x.laps (d % depth_limit) k }

-- THE ORDER: what is kept, then zeros

abbrev pub other : Task → Task → Bool
other t u = not (eqb t.0 u.0)

abbrev pub no_tasks : List Task
no_tasks = replicate task_limit (task_no 0)

-- CHANGES OF THE RECORDS

module _ (s : Records) where
  abbrev pub with_tasks : List TaskState → Records
  with_tasks xs = record { tasks = xs; taskcount = s.taskcount; chans = s.chans; chancount = s.chancount; order = s.order; waiting = s.waiting; fault = s.fault; named = s.named; stamp = s.stamp }

  abbrev pub with_chans : List ChanState → Records
  with_chans ks = record { tasks = s.tasks; taskcount = s.taskcount; chans = ks; chancount = s.chancount; order = s.order; waiting = s.waiting; fault = s.fault; named = s.named; stamp = s.stamp }

  abbrev pub with_order : List Task → ℕ → Records
  with_order o n = record { tasks = s.tasks; taskcount = s.taskcount; chans = s.chans; chancount = s.chancount; order = o; waiting = n; fault = s.fault; named = s.named; stamp = s.stamp }

  -- "Faults change nothing but the halt record (fault number, task named ..) and the stamp."
  abbrev pub halted : ℕ → Task → Records
  halted f t = record { tasks = s.tasks; taskcount = s.taskcount; chans = s.chans; chancount = s.chancount; order = s.order; waiting = s.waiting; fault = f; named = t; stamp = s.stamp }

  -- "65,535 is followed by 0."
  abbrev pub ticked : Records
  ticked = record { tasks = s.tasks; taskcount = s.taskcount; chans = s.chans; chancount = s.chancount; order = s.order; waiting = s.waiting; fault = s.fault; named = s.named; stamp = (s.stamp + 1) % stamp_modulus }

  -- The image's counts of tasks and channels.
  abbrev pub with_counts : ℕ → ℕ → Records
  with_counts tasks channels = record { tasks = s.tasks; taskcount = tasks; chans = s.chans; chancount = channels; order = s.order; waiting = s.waiting; fault = s.fault; named = s.named; stamp = s.stamp }

  abbrev pub with_task : Task → TaskState → Records
  with_task t x = with_tasks (set s.tasks (t.0 % task_limit) x)

  abbrev pub with_chan : Chan → ChanState → Records
  with_chan c k = with_chans (set s.chans (c.0 % channel_limit) k)

  -- One task has received, gone on, stood, or begun a lap.
  abbrev pub task_got : Task → ℕ → Bool → Row → Records
  task_got t v b r = with_task t (got_task (task_in s.tasks t) v b r)

  abbrev pub task_went : Task → Row → Records
  task_went t r = with_task t (went_task (task_in s.tasks t) r)

  abbrev pub task_stood : Task → Status → Records
  task_stood t st = with_task t (stood_task (task_in s.tasks t) st)

  abbrev pub task_lapped : Task → ℕ → ℕ → Records
  task_lapped t d k = with_task t (lap_task (task_in s.tasks t) d k)

  -- One channel's buffer is longer or shorter by a value, or the channel is closed, its buffer kept.
  abbrev pub chan_longer : Chan → Records
  chan_longer c = with_chan c (record { closed = (chan_in s.chans c).closed; len = (chan_in s.chans c).len % capacity_limit + 1 })

  abbrev pub chan_shorter : Chan → Records
  chan_shorter c = with_chan c (record { closed = (chan_in s.chans c).closed; len = (chan_in s.chans c).len - 1 })

  abbrev pub chan_shut : Chan → Records
  chan_shut c = with_chan c (record { closed = true; len = (chan_in s.chans c).len })

  -- These tasks wait, in this order; one more does; one has left.
  abbrev pub ordered : List Task → Records
  ordered ts = with_order (over ts no_tasks) (length ts)

  abbrev pub joined : Task → Records
  joined t = with_order (set s.order (s.waiting % task_limit) t) (s.waiting % task_limit + 1)

  abbrev pub left : Task → Records
  left t = ordered (keep (other t) (order_of s))
