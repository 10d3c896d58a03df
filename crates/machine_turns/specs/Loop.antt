-- What the loop of turns counts on, asked once ahead of it, and what it leaves where state, values and records lie.
use Rattle.std.specs.Prelude.{◌≡◌, true, List, [], ℕ, ◌*◌, ◌%◌, ◌≤◌, ◌<◌, length, get_or, Ok}
use Rattle.std.proofs.lemmas.List.Edits.{sets}
use Rattle.machine_turns.specs.Kinds.{State}
use Rattle.meaning.specs.Numbers.{channel_limit, capacity_limit}
use Rattle.meaning.specs.Bytes.{body_of}
use Rattle.image_rows.specs.Rows.{counts_of}
use Rattle.image_check.specs.Check.{checked}
use Rattle.machine_records.specs.Values.{Values}
use Rattle.machine_store.specs.Store.{Whole}
use Rattle.machine_fit.specs.Fitted.{fitting_in}
use Rattle.machine_turns.specs.Schedule.{pairs_of, state_behind, values_behind, event_records}

-- "All buffers together are sixteen rows of sixteen values."
pub record Sixteen (b : Values) : Type 0 where
  pub rows : length b ≡ channel_limit
  pub cells : (c : ℕ) → c < channel_limit → length (get_or b c []) ≡ capacity_limit

module _ (bs : List ℕ) (s : State) (b : Values) (pairs out : List ℕ) where
  pub record Ready : Type 0 where
    pub good : checked bs ≡ Ok tt
    pub fit : fitting_in (body_of bs) (counts_of bs) s.words s.cells ≡ true
    pub whole : Whole s
    pub values : Sixteen b
    pub even : length pairs % 2 ≡ 0
    pub room : 3 * length pairs ≤ length out

  pub record Ran (s' : State) (b' : Values) (out' : List ℕ) : Type 0 where
    pub state : s' ≡ state_behind bs (pairs_of pairs) s b
    pub values : b' ≡ values_behind bs (pairs_of pairs) s b
    pub records : out' ≡ sets out 0 (event_records bs (pairs_of pairs) s b)
