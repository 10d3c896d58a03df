-- Document 01, 'A listing, whole': what is printed for an input, as one function. (laws/Whole: the lines of a session, one behind the
-- other, are just that.)
use Rattle.std.specs.Prelude.{cond, List, [], ◌∷◌, ◌++◌, ℕ, zero, suc, ◌+◌, ltb, length, take, Option, Some, None}
use Rattle.meaning.specs.Numbers.{input_limit}
use Rattle.meaning.specs.Events.{numbers}
use Rattle.listing_session.specs.Kinds.{Translated, State, Turned}
use Rattle.translate.specs.Translated as t
use Rattle.translate.specs.Translated.{translated, written}
use Rattle.machine_records.specs.Values.{Values, changed}
use Rattle.machine_store.specs.Store.{records_of}
use Rattle.machine.specs.Public.{started, fresh_values, turned}
use Rattle.listing_input.specs.Input.{words_of, schedule_of, pairs_in}
use Rattle.listing_lines.specs.Lines.{refused_line, turn_line, bad_schedule_line, too_long_line}
use Rattle.listing_answer.specs.Answer.{text_in, schedule_in}
use Rattle.listing_session.specs.Session.{state_line}

-- So many of the lines behind the turns, from line i of them on.
unfoldable pub state_lines : ℕ → ℕ → State → Values → List ℕ
state_lines zero i s b = []
state_lines (suc k) i s b = state_line i s b ++ state_lines k (suc i) s b

-- A line for each pair, from pair n on, and behind them so many lines for the state that the turns lead to.
module _ (image : List ℕ) (ends : ℕ) where
  abbrev pub turn_by : ℕ × ℕ → State → Values → Turned
  turn_by p s b = turned image s b (record { 0 = p.0 }) p.1

  unfoldable pub run_lines : ℕ → List (ℕ × ℕ) → State → Values → List ℕ
  run_lines n [] s b = state_lines ends 0 s b
  run_lines n (p ∷ ps) s b = turn_line n p.0 (numbers (turn_by p s b).event) ++ run_lines (suc n) ps (turn_by p s b).state (changed b (turn_by p s b).change)

-- A line for each task and each channel, and one for the stamp.
abbrev pub end_lines : State → ℕ
end_lines s = (records_of s).taskcount + (records_of s).chancount + 1

abbrev pub run_listing : List ℕ → List (ℕ × ℕ) → List ℕ
run_listing image ps = run_lines image (end_lines (started image).state) 0 ps (started image).state fresh_values

-- "A refused text prints only `refused` number place; then a bad or odd schedule prints only `bad schedule`." The image is the
-- part of the buffer that the translation wrote; the pairs are those of all words of the schedule.
abbrev pub schedule_listing : List ℕ → List ℕ → Option ℕ → List ℕ
schedule_listing image text None = bad_schedule_line
schedule_listing image text (Some m) = run_listing image (pairs_in (words_of text))

abbrev pub text_listing : List ℕ → List ℕ → Translated → List ℕ
text_listing input out (t.Refused number place) = refused_line number place
text_listing input out (t.Image n) = schedule_listing (take n (written (text_in input) out)) (schedule_in input) (schedule_of (schedule_in input))

-- "reads up to 48,000 bytes of standard input (more: the line `input too long`)"; `out` is the image buffer as it was before.
unfoldable pub listing : List ℕ → List ℕ → List ℕ
listing input out = cond (ltb input_limit (length input)) too_long_line (text_listing input out (translated (text_in input) (length out)))
