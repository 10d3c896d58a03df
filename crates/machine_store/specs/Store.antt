-- The records that the two arrays of a state read as, and what a change of the arrays makes of them. The places stand here alone.
use Rattle.std.specs.Prelude.{◌≡◌, ℕ, ◌+◌, ◌*◌, ◌<◌, ◌≤◌, Bool, true, false, not, List, [], ◌∷◌, ◌++◌, map, ◌==◌, slice_index, length}
use Rattle.machine_store.specs.Kinds.{Task, Row, TaskState, ChanState, Moved, State}
use Rattle.meaning.specs.Numbers.{task_limit, channel_limit, depth_limit}
use Rattle.meaning.specs.Statuses.{status_number, status_of}
use Rattle.meaning.specs.Image.{row_no, task_no}
use Rattle.meaning.specs.Bytes.{tabulate}
use Rattle.machine_records.specs.Records.{Records, task_in}
use Rattle.machine_records.specs.Plans.{Done}

-- A MARK: 0 or 1

abbrev pub mark_of : ℕ → Bool
mark_of n = not (n == 0)

abbrev pub mark_no : Bool → ℕ
mark_no true = 1
mark_no false = 0

-- THE PLACES: in the words w a task's row (at its number), its register, the stamp;

abbrev pub register_place : ℕ
register_place = 16

abbrev pub stamp_place : ℕ
stamp_place = 32

-- in the cells c a task's status (at its number), its ok mark, the order, a channel's closed mark and length, a task's laps, numbers.

abbrev pub ok_place : ℕ
ok_place = 16

abbrev pub order_place : ℕ
order_place = 32

abbrev pub closed_place : ℕ
closed_place = 48

abbrev pub length_place : ℕ
length_place = 64

abbrev pub lap_place : ℕ
lap_place = 80

abbrev pub waiting_place : ℕ
waiting_place = 176

abbrev pub fault_place : ℕ
fault_place = 177

abbrev pub named_place : ℕ
named_place = 178

abbrev pub taskcount_place : ℕ
taskcount_place = 179

abbrev pub chancount_place : ℕ
chancount_place = 180

-- THE RECORDS

abbrev pub laps_of : List ℕ → ℕ → List ℕ
laps_of c t = tabulate (λ d. slice_index c (lap_place + depth_limit * t + d)) depth_limit 0

abbrev pub task_of : List ℕ → List ℕ → ℕ → TaskState
task_of w c t = record { status = status_of (slice_index c t); ok = mark_of (slice_index c (ok_place + t)); register = slice_index w (register_place + t); row = row_no (slice_index w t); laps = laps_of c t }

abbrev pub chan_of : List ℕ → ℕ → ChanState
chan_of c i = record { closed = mark_of (slice_index c (closed_place + i)); len = slice_index c (length_place + i) }

abbrev pub name_of : List ℕ → ℕ → Task
name_of c i = task_no (slice_index c (order_place + i))

unfoldable pub records_in : List ℕ → List ℕ → Records
records_in w c = record {
  tasks = tabulate (task_of w c) task_limit 0;
  taskcount = slice_index c taskcount_place;
  chans = tabulate (chan_of c) channel_limit 0;
  chancount = slice_index c chancount_place;
  order = tabulate (name_of c) task_limit 0;
  waiting = slice_index c waiting_place;
  fault = slice_index c fault_place;
  named = task_no (slice_index c named_place);
  stamp = slice_index w stamp_place;
}

abbrev pub records_of : State → Records
records_of s = records_in s.words s.cells

-- The state in two arrays.
abbrev pub state_in : List ℕ → List ℕ → State
state_in w c = record { words = w; cells = c }

-- THE ARRAYS OF RECORDS, part by part: what stands in each place

abbrev pub all_laps : List TaskState → List ℕ
all_laps [] = []
all_laps (x ∷ xs) = x.laps ++ all_laps xs

unfoldable pub words_of : Records → List ℕ
words_of s =
    map (λ x. x.row.0) s.tasks
    ++ map (λ x. x.register) s.tasks
    ++ s.stamp ∷ []

unfoldable pub cells_of : Records → List ℕ
cells_of s =
    map (λ x. status_number x.status) s.tasks
    ++ map (λ x. mark_no x.ok) s.tasks
    ++ map (λ t. t.0) s.order
    ++ map (λ k. mark_no k.closed) s.chans
    ++ map (λ k. k.len) s.chans
    ++ all_laps s.tasks
    ++ s.waiting ∷ s.fault ∷ s.named.0 ∷ s.taskcount ∷ s.chancount ∷ []

-- The row at which task t stands, whatever the cells.
abbrev pub RowIn : List ℕ → Task → Row → Type 0
RowIn w t r = (c : List ℕ) → r ≡ (task_in (records_in w c).tasks t).row

-- The cells hold nothing but what the records tell.
pub record Plain (c : List ℕ) : Type 0 where
  pub statuses : (t : ℕ) → t < task_limit → slice_index c t ≤ 2
  pub oks : (t : ℕ) → t < task_limit → slice_index c (ok_place + t) ≤ 1
  pub closeds : (k : ℕ) → k < channel_limit → slice_index c (closed_place + k) ≤ 1

-- The arrays have a state's lengths.
abbrev pub Whole : State → Type 0
Whole x = (length x.words ≡ 33) × (length x.cells ≡ 181)

-- A CHANGE: the state x became y, whose records are f of those of x, and stays plain and of its lengths.
pub record Made (x y : State) (f : Records → Records) : Type 0 where
  pub same : records_of y ≡ f (records_of x)
  pub plain : Plain x.cells → Plain y.cells
  pub whole : Whole x → Whole y

-- The same of a turn, which answers m besides.
abbrev pub done_in : State → Moved → Done
done_in x m = record { event = m.event; after = records_of x; change = m.change }

pub record MadeTurn (x y : State) (m : Moved) (f : Records → Done) : Type 0 where
  pub same : done_in y m ≡ f (records_of x)
  pub plain : Plain x.cells → Plain y.cells
  pub whole : Whole x → Whole y
