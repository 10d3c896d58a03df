-- What the answers come to, in the terms of the image check: of a refused image nothing is there, and of a good one the rows,
-- channels and tasks that its trailer counts are there, and no others.
use Rattle.std.specs.Prelude.{◌≡◌, List, ℕ, ◌≤◌, ◌<◌, Some, None, Ok, Err}
use native.Mathlib.Omega.{arith}
use borrow.Author.Tests.{lt-ltb, le-ltb}
use Rattle.thin_held.specs.Kinds.{Row, Chan, Task, ImageFault}
use Rattle.meaning.specs.Bytes.{row_count, channel_count, task_count, body_of, rows_of, capacity_in, first_row_in}
use Rattle.image_rows.specs.Rows.{counts_in, counts_of}
use Rattle.image_check.specs.Check.{checked}
use Rattle.thin_held.specs.Asked.{counts_held, held_of, row_asked, capacity_asked, first_row_asked, row_of, capacity_of, first_row_of}

module _ (bs : List ℕ) where
  module _ (fault : ImageFault) (refused : checked bs ≡ Err fault) where
    pub refused_row : (n : Row) → row_of bs n ≡ None
    unfolding row_asked held_of counts_held
    refused_row n = let h : 0 ≤ n.0 = omega arith in rw (refused, le-ltb _ _ h)

    pub refused_capacity : (c : Chan) → capacity_of bs c ≡ None
    unfolding capacity_asked held_of counts_held
    refused_capacity c = let h : 0 ≤ c.0 = omega arith in rw (refused, le-ltb _ _ h)

    pub refused_first_row : (t : Task) → first_row_of bs t ≡ None
    unfolding first_row_asked held_of counts_held
    refused_first_row t = let h : 0 ≤ t.0 = omega arith in rw (refused, le-ltb _ _ h)

  module _ (good : checked bs ≡ Ok tt) where
    pub good_row : (n : Row) → n.0 < row_count bs → row_of bs n ≡ Some (rows_of bs n)
    unfolding row_asked held_of counts_held counts_of counts_in row_count
    good_row n h = rw (good, lt-ltb _ _ h)

    pub no_row_lem : (n : Row) → row_count bs ≤ n.0 → row_of bs n ≡ None
    unfolding row_asked held_of counts_held counts_of counts_in row_count
    no_row_lem n h = rw (good, le-ltb _ _ h)

    pub good_capacity : (c : Chan) → c.0 < channel_count bs → capacity_of bs c ≡ Some (capacity_in (body_of bs) (row_count bs) c)
    unfolding capacity_asked held_of counts_held counts_of counts_in row_count channel_count
    good_capacity c h = rw (good, lt-ltb _ _ h)

    pub no_channel_lem : (c : Chan) → channel_count bs ≤ c.0 → capacity_of bs c ≡ None
    unfolding capacity_asked held_of counts_held counts_of counts_in channel_count
    no_channel_lem c h = rw (good, le-ltb _ _ h)

    pub good_first_row : (t : Task) → t.0 < task_count bs → first_row_of bs t ≡ Some (first_row_in (body_of bs) (row_count bs) (channel_count bs) t)
    unfolding first_row_asked held_of counts_held counts_of counts_in row_count channel_count task_count
    good_first_row t h = rw (good, lt-ltb _ _ h)

    pub no_task : (t : Task) → task_count bs ≤ t.0 → first_row_of bs t ≡ None
    unfolding first_row_asked held_of counts_held counts_of counts_in task_count
    no_task t h = rw (good, le-ltb _ _ h)
