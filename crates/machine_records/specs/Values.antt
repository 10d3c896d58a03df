-- All buffers together, "sixteen rows of sixteen values", beside the state. A row holds a channel's values, oldest first; the cells
-- past its length are 0.
use Rattle.std.specs.Prelude.{List, [], ℕ, suc, ◌-◌, ◌%◌, length, get_or, set, take, drop, replicate}
use Rattle.machine_records.specs.Kinds.{Chan, Change, Keep, Append, Take, Refill}
use Rattle.meaning.specs.Numbers.{channel_limit, capacity_limit}
use Rattle.machine_records.specs.Cells.{over}

abbrev pub Values : Type 0
Values = List (List ℕ)

abbrev pub row_for : Values → Chan → List ℕ
row_for b c = get_or b (c.0 % channel_limit) []

abbrev pub oldest : Values → Chan → ℕ
oldest b c = get_or (row_for b c) 0 0

-- The first values of a row, as many as its length says, without the oldest; zeros behind them.
abbrev pub shifted : List ℕ → ℕ → List ℕ
shifted row len = over (drop 1 (take len row)) (replicate (length row) 0)

abbrev pub with_value : Values → Chan → ℕ → ℕ → Values
with_value b c len v = set b (c.0 % channel_limit) (set (row_for b c) (len % capacity_limit) v)

abbrev pub without_first : Values → Chan → ℕ → Values
without_first b c len = set b (c.0 % channel_limit) (shifted (row_for b c) (len % suc capacity_limit))

unfoldable pub changed : Values → Change → Values
changed b Keep = b
changed b (Append c len v) = with_value b c len v
changed b (Take c len) = without_first b c len
changed b (Refill c len v) = with_value (without_first b c len) c (len % suc capacity_limit - 1) v
