-- Document 01, 'What comes back': the image check, its refusals and their places.
use Rattle.std.specs.Prelude.{Bool, cond, not, ◌&&◌, List, ℕ, zero, suc, ◌-◌, length, eqb, leb, ltb, Option, Some, None, Result, Ok, Err, ⊤}
use Rattle.image_check.specs.Kinds.{Counts, ImageFault, TooShort, BadMark, BadVersion, BadCounts, BadDistance, BadRow, BadCapacity, BadFirstRow}
use Rattle.meaning.specs.Numbers.{row_limit, channel_limit, task_limit, capacity_limit, image_too_short, bad_mark, bad_version, bad_counts, bad_distance, bad_row, bad_capacity, bad_first_row}
use Rattle.meaning.specs.Image.{row_no, chan_no, task_no}
use Rattle.meaning.specs.Bytes.{statement_of, trailer_size, image_mark, image_version, span_of, mark_of, version_of, body_of, fields_of_row, capacity_in, first_row_in}
use Rattle.image_rows.specs.Rows.{counts_of}
use Rattle.image_row.specs.Row.{owed_after, is_target, row_good}

-- A ROW, A CHANNEL, A TASK

-- rs is the image from row 0 on.
module _ (rs : List ℕ) where
  -- The case rows still to come ahead of row i.
  unfoldable pub owed_at : ℕ → ℕ
  owed_at zero = 0
  owed_at (suc i) = owed_after (owed_at i) (statement_of (fields_of_row rs (row_no i)))

  -- It has so many rows.
  module _ (rows : ℕ) where
    -- "27 capacity over 16"
    unfoldable pub capacity_bad : ℕ → Bool
    capacity_bad c = ltb capacity_limit (capacity_in rs rows (chan_no c))

    -- And so many channels.
    module _ (channels : ℕ) where
      unfoldable pub row_bad : ℕ → Bool
      row_bad i = not (row_good rs rows channels i (owed_at i) (fields_of_row rs (row_no i)))

      -- "28 first row of a task not a row, or a case row"
      unfoldable pub first_row_bad : ℕ → Bool
      first_row_bad t = not (is_target rs rows (first_row_in rs rows channels (task_no t)))

-- A REFUSAL

-- Each refusal's number, and its place: 0 where it has none.
abbrev pub fault_number : ImageFault → ℕ
fault_number TooShort = image_too_short
fault_number BadMark = bad_mark
fault_number BadVersion = bad_version
fault_number BadCounts = bad_counts
fault_number BadDistance = bad_distance
fault_number (BadRow i) = bad_row
fault_number (BadCapacity c) = bad_capacity
fault_number (BadFirstRow t) = bad_first_row

abbrev pub fault_place : ImageFault → ℕ
fault_place TooShort = 0
fault_place BadMark = 0
fault_place BadVersion = 0
fault_place BadCounts = 0
fault_place BadDistance = 0
fault_place (BadRow i) = i.0
fault_place (BadCapacity c) = c.0
fault_place (BadFirstRow t) = t.0

-- THE CHECK

-- The first of the n numbers from i on that is bad.
unfoldable pub first_of : (ℕ → Bool) → ℕ → ℕ → Option ℕ
first_of bad zero i = None
first_of bad (suc n) i = cond (bad i) (Some i) (first_of bad n (suc i))

-- "Place: the first bad row, channel or task": refused there, or else the rest of the check.
unfoldable pub refused_at : (ℕ → ImageFault) → Option ℕ → Result ⊤ ImageFault → Result ⊤ ImageFault
refused_at fault None rest = rest
refused_at fault (Some i) rest = Err (fault i)

unfoldable pub body_checked : List ℕ → Counts → Result ⊤ ImageFault
body_checked rs k =
    refused_at (λ i. BadRow (row_no i)) (first_of (row_bad rs k.rows k.channels) k.rows 0)
    (refused_at (λ c. BadCapacity (chan_no c)) (first_of (capacity_bad rs k.rows) k.channels 0)
    (refused_at (λ t. BadFirstRow (task_no t)) (first_of (first_row_bad rs k.rows k.channels) k.tasks 0) (Ok tt)))

-- "24 rows not 1 to 1,024, channels over 16, tasks not 1 to 16, or distance unequal to 8 x rows + channels + 2 x tasks"
unfoldable pub counts_good : Counts → Bool
counts_good k =
    leb 1 k.rows
    && (leb k.rows row_limit
    && (leb k.channels channel_limit
    && (leb 1 k.tasks
    && (leb k.tasks task_limit
    && eqb k.back (span_of k.rows k.channels k.tasks)))))

-- "Image check, in this order: 21 under 8 bytes; 22 mark; 23 version; 24 ..; 25 distance reaches ahead of the slice; .."
unfoldable pub checked : List ℕ → Result ⊤ ImageFault
checked bs =
    cond (ltb (length bs) trailer_size) (Err TooShort)
    (cond (not (eqb (mark_of bs) image_mark)) (Err BadMark)
    (cond (not (eqb (version_of bs) image_version)) (Err BadVersion)
    (cond (not (counts_good (counts_of bs))) (Err BadCounts)
    (cond (ltb (length bs - trailer_size) (counts_of bs).back) (Err BadDistance)
    (body_checked (body_of bs) (counts_of bs))))))
