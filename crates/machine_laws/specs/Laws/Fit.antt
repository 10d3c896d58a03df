-- A state that fits, in facts: what the test `fitting` asks (Fitted shows that they are the same), and the arrays' lengths.
use Rattle.std.specs.Prelude.{◌≡◌, List, [], ℕ, ◌≤◌, ◌<◌, length, get_or}
use Rattle.meaning.specs.Numbers.{task_limit, channel_limit, capacity_limit}
use Rattle.meaning.specs.Image.{image_look, chan_no}
use Rattle.meaning.specs.Bytes.{row_count, channel_count, task_count, body_of, rows_of, capacity_in}
use Rattle.meaning_laws.specs.Laws.Points.{Standings}
use Rattle.meaning_laws.specs.Fits.{Fits}
use Rattle.image_laws.specs.Laws.Closed.{OnRow}
use Rattle.machine_records.specs.Records.{Records, blank_chan}
use Rattle.machine_records.specs.Values.{Values}
use Rattle.machine_records.specs.View.{view}

-- The lists are as long as the arrays that hold them.
pub record Arrays (s : Records) (b : Values) : Type 0 where
  pub tasks16 : length s.tasks ≡ task_limit
  pub chans16 : length s.chans ≡ channel_limit
  pub order16 : length s.order ≡ task_limit
  pub rows16 : length b ≡ channel_limit
  pub cells16 : (c : ℕ) → c < channel_limit → length (get_or b c []) ≡ capacity_limit

-- Document 01: "A state fits if its task and channel counts are the image's, each task's row is a row and no case row, each
-- length is at most its capacity, the fault is 0 to 4, and the order names exactly the waiting tasks, once each, every one at an
-- operation that can wait": the counts here, the rest of the machine that is seen.
pub record Fit (bs : List ℕ) (s : Records) (b : Values) : Type 0 where
  pub taskcount : s.taskcount ≡ task_count bs
  pub chancount : s.chancount ≡ channel_count bs
  pub waiting : s.waiting ≤ task_limit
  pub lengths : (c : ℕ) → c < channel_count bs → (get_or s.chans c blank_chan).len ≤ capacity_in (body_of bs) (row_count bs) (chan_no c)
  pub rows : Standings (OnRow bs) (view bs s b)
  pub fits : Fits (image_look (rows_of bs)) (view bs s b)
