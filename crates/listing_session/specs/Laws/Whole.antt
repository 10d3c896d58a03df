-- The lines of a session, one behind the other, are the whole listing of its input.
use Rattle.std.specs.Prelude.{◌≡◌, Bool, true, false, cond, List, [], ◌++◌, ltb, length, Option, Some, None, Result, Ok, Err}
use Rattle.std.proofs.Math.Path.{refl, ap}
use Rattle.std.proofs.Common.{◌∙◌, append-nil, length-take}
use Prim.Native.Nat.{ℕ, zero, suc, ◌+◌, ◌-◌, ◌%◌, ◌≤◌}
use native.Mathlib.Omega.{arith}
use borrow.Author.Tests.{lt-ltb, le-ltb, ltb-false}
use Rattle.std.proofs.Math.ListN.{take, drop, length-drop}
use Rattle.meaning.specs.Numbers.{input_limit}
use Rattle.translate.specs.Translated as t
use Rattle.translate.specs.Translated.{translated, written}
use Rattle.image_check.specs.Check.{checked}
use Rattle.machine_records.specs.Values.{Values, changed}
use Rattle.machine_store.specs.Store.{records_in, records_of}
use Rattle.machine.specs.Public.{started, fresh_values}
use Rattle.listing_input.specs.Input.{split_of, schedule_of, pair_at}
use Rattle.listing_input.specs.Laws.Input.{walked, walk_exact, pairs_within}
use Rattle.listing_lines.specs.Lines.{refused_line, bad_schedule_line, too_long_line}
use Rattle.listing_session.specs.Kinds.{Translated, State, Run, Unlisted, TooLong, BadSchedule, Session, Refused}
use Rattle.listing_answer.specs.Answer.{text_in, schedule_in, scheduled, answered_as, answered, image_after}
use Rattle.listing_session.specs.Session.{begun_as, begun, line_count, state_line, turn_of, turned_line, run_line, run_session, run_change, line_of, session_of, change_of}
use Rattle.listing_session.specs.Listing.{state_lines, run_lines, end_lines, schedule_listing, text_listing, listing}
use Rattle.listing_answer.specs.Laws.Places.{place_fits_lem}

-- THE LINES OF A SESSION

-- So many lines from line i on, one behind the other, each with the session and values that the one before leaves.
module _ (input image : List ℕ) where
  unfoldable pub lines_from : ℕ → ℕ → Session → Values → List ℕ
  lines_from zero i s b = []
  lines_from (suc k) i s b = line_of input image i s b s.answer ++ lines_from k (suc i) (session_of input image i s b s.answer) (changed b (change_of input image i s b s.answer))

  module _ (n pairs from : ℕ) where
    abbrev running : ℕ → State → Session
    running at s = record { answer = Ok (record { length = n; pairs = pairs; from = from }); at = at; state = s }

    -- Behind the turns the session stays as it is.
    ends_listed : (k i j at : ℕ) (s : State) (b : Values) → i ≡ pairs + j → lines_from k i (running at s) b ≡ state_lines k j s b
    unfolding lines_from state_lines run_line run_session run_change changed
    ends_listed zero i j at s b e = refl
    ends_listed (suc k) i j at s b e =
        let q : i - pairs ≡ j = omega arith in
        rw (le-ltb i pairs (omega arith), q) (ap (λ l. state_line j s b ++ l) (ends_listed k (suc i) (suc j) at s b (omega arith)))

    turns_listed : (ends m i at : ℕ) (s : State) (b : Values) → i + m ≡ pairs → lines_from (m + ends) i (running at s) b ≡ run_lines (take n image) ends i (walked m (drop from input) at) s b
    unfolding lines_from run_lines run_line run_session run_change walked
    turns_listed ends zero i at s b e =
        let z : 0 + ends ≡ ends = omega arith in
        rw z (ends_listed ends i 0 at s b (omega arith))
    turns_listed ends (suc m) i at s b e =
        let rest = drop from input in
        let bs = take n image in
        let r = turn_of rest bs (running at s) b in
        let z : suc m + ends ≡ suc (m + ends) = omega arith in
        rw (z, lt-ltb i pairs (omega arith)) (ap (λ l. turned_line rest bs (running at s) b i ++ l) (turns_listed ends m (suc i) (pair_at rest at).next r.state (changed b r.change) (omega arith)))

-- THE THEOREM

module _ (input image : List ℕ) where
  abbrev lines_of : Result Run Unlisted → List ℕ
  lines_of a = lines_from input image (line_count (begun_as image a)) 0 (begun_as image a) fresh_values

  -- Where nothing runs there is no task and no channel, and so one line.
  alone : (a : Result Run Unlisted) → line_count (begun_as image a) ≡ 1 → lines_of a ≡ line_of input image 0 (begun_as image a) fresh_values a
  unfolding lines_from
  alone a e = rw e (append-nil _)

  too_long : lines_of (Err TooLong) ≡ too_long_line
  unfolding started checked records_in
  too_long = alone (Err TooLong) refl

  refused : (number place : ℕ) → lines_of (Err (Refused number place)) ≡ refused_line number place
  unfolding started checked records_in
  refused number place = alone (Err (Refused number place)) refl

  bad_schedule : lines_of (Err BadSchedule) ≡ bad_schedule_line
  unfolding started checked records_in
  bad_schedule = alone (Err BadSchedule) refl

  by_schedule : length input ≤ input_limit → (n : ℕ) (given : Option ℕ) → schedule_of (schedule_in input) ≡ given → lines_of (scheduled n (split_of input).rest given) ≡ schedule_listing (take n image) (schedule_in input) given
  unfolding scheduled
  by_schedule small n None e = bad_schedule
  by_schedule small n (Some m) e =
      let s = (started (take n image)).state in
      let w = pairs_within (schedule_in input) m e in
      let l = length-drop (split_of input).rest input in
      let q : m % 65536 ≡ m = omega arith in
      let z : m + (records_of s).taskcount + (records_of s).chancount + 1 ≡ m + end_lines s = omega arith in
      rw (q, z) (turns_listed input image n m (split_of input).rest (end_lines s) m 0 0 s fresh_values (omega arith) ∙ ap (λ ps. run_lines (take n image) (end_lines s) 0 ps s fresh_values) (walk_exact (schedule_in input) m e).0)

by_text : (input out : List ℕ) → length input ≤ input_limit → (r : Translated) → translated (text_in input) (length out) ≡ r → lines_of input (written (text_in input) out) (answered_as input r) ≡ text_listing input out r
by_text input out small (t.Refused number place) e =
    let l = length-take (split_of input).text input in
    let h = place_fits_lem (text_in input) (omega arith) (length out) number place e in
    let q : place % 65536 ≡ place = omega arith in
    rw q (refused input (written (text_in input) out) number place)
by_text input out small (t.Image n) e = by_schedule input (written (text_in input) out) small n (schedule_of (schedule_in input)) refl

-- The lines of a session, from its beginning on and as many as are counted, are the listing of its input.
pub listed_whole : (input out : List ℕ) → lines_from input (image_after input out) (line_count (begun input out)) 0 (begun input out) fresh_values ≡ listing input out
unfolding answered image_after listing
listed_whole input out = go (ltb input_limit (length input)) refl
  where
    r : Translated
    r = translated (text_in input) (length out)

    go : (b : Bool) → ltb input_limit (length input) ≡ b → lines_of input (cond b out (written (text_in input) out)) (cond b (Err TooLong) (answered_as input r)) ≡ cond b too_long_line (text_listing input out r)
    go true e = too_long input out
    go false e = by_text input out (ltb-false input_limit (length input) e) r refl
