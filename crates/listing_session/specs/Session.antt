-- A listing, line by line: document 01, 'A listing, whole', a line for each answer, turn, task and channel.
use Rattle.std.specs.Prelude.{cond, List, ℕ, ◌+◌, ◌-◌, ◌%◌, ltb, length, take, drop, Result, Ok, Err}
use Rattle.meaning.specs.Events.{numbers}
use Rattle.machine_records.specs.Records.{task_in, chan_in}
use Rattle.machine_records.specs.Values.{Values, row_for}
use Rattle.machine_store.specs.Store.{records_of}
use Rattle.machine.specs.Public.{started, turned}
use Rattle.listing_input.specs.Input.{pair_at}
use Rattle.listing_lines.specs.Lines.{refused_line, turn_line, task_line, chan_line, stamp_line, bad_schedule_line, too_long_line}
use Rattle.listing_session.specs.Kinds.{Task, Chan, State, Change, Keep, Turned, Pair, Run, Unlisted, TooLong, BadSchedule, Session, Refused}
use Rattle.listing_answer.specs.Answer.{answered, image_after}

-- BEGINNING

abbrev pub image_length : Result Run Unlisted → ℕ
image_length (Ok run) = run.length
image_length (Err why) = 0

abbrev pub pair_count : Result Run Unlisted → ℕ
pair_count (Ok run) = run.pairs
pair_count (Err why) = 0

-- The machine starts from the image; no image makes none, with no task and no channel.
abbrev pub begun_as : List ℕ → Result Run Unlisted → Session
begun_as image a = record { answer = a; at = 0; state = (started (take (image_length a) image)).state }

abbrev pub begun : List ℕ → List ℕ → Session
begun input out = begun_as (image_after input out) (answered input (length out))

-- A line for each turn, task and channel, and one for the stamp; one alone where nothing runs.
abbrev pub line_count : Session → ℕ
line_count s = pair_count s.answer + (records_of s.state).taskcount + (records_of s.state).chancount + 1

-- THE LINES

-- "Then task, status .. . Then channel, closed .. . Then stamp and fault": line i of these.
abbrev pub task_no : ℕ → Task
task_no i = record { 0 = i % 256 }

abbrev pub chan_no : ℕ → Chan
chan_no i = record { 0 = i % 256 }

unfoldable pub state_line : ℕ → State → Values → List ℕ
state_line i s b =
    cond (ltb i (records_of s).taskcount)
    (task_line (task_no i) (task_in (records_of s).tasks (task_no i)))
    (cond (ltb (i - (records_of s).taskcount) (records_of s).chancount)
    (chan_line (chan_no (i - (records_of s).taskcount)) (chan_in (records_of s).chans (chan_no (i - (records_of s).taskcount))) (row_for b (chan_no (i - (records_of s).taskcount))))
    (stamp_line (records_of s).stamp (records_of s).fault))

-- The turn of the pair at the session's place of a schedule, and the line that reports it.
module _ (rest image : List ℕ) (s : Session) (b : Values) where
  abbrev pub pair_of : Pair
  pair_of = pair_at rest s.at

  abbrev pub turn_of : Turned
  turn_of = turned image s.state b (record { 0 = pair_of.task }) pair_of.choice

  abbrev pub turned_line : ℕ → List ℕ
  turned_line i = turn_line i pair_of.task (numbers turn_of.event)

  abbrev pub turned_session : Session
  turned_session = record { answer = s.answer; at = pair_of.next; state = turn_of.state }

  -- Line i of a run of so many pairs, the session behind it, and what its turn does to the values.
  module _ (pairs i : ℕ) where
    unfoldable pub run_line : List ℕ
    run_line = cond (ltb i pairs) (turned_line i) (state_line (i - pairs) s.state b)

    unfoldable pub run_session : Session
    run_session = cond (ltb i pairs) turned_session s

    unfoldable pub run_change : Change
    run_change = cond (ltb i pairs) turn_of.change Keep

-- The line that stands alone where nothing runs.
abbrev pub line_alone : Unlisted → List ℕ
line_alone TooLong = too_long_line
line_alone (Refused number place) = refused_line number place
line_alone BadSchedule = bad_schedule_line

-- Line i of a listing.
module _ (input image : List ℕ) (i : ℕ) (s : Session) (b : Values) where
  abbrev pub line_of : Result Run Unlisted → List ℕ
  line_of (Ok run) = run_line (drop run.from input) (take run.length image) s b run.pairs i
  line_of (Err why) = line_alone why

  abbrev pub session_of : Result Run Unlisted → Session
  session_of (Ok run) = run_session (drop run.from input) (take run.length image) s b run.pairs i
  session_of (Err why) = s

  abbrev pub change_of : Result Run Unlisted → Change
  change_of (Ok run) = run_change (drop run.from input) (take run.length image) s b run.pairs i
  change_of (Err why) = Keep
