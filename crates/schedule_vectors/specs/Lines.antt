-- A line of a text of blocks, by its first word.
use Rattle.std.specs.Prelude.{◌≡◌, ◌≢◌, List, ℕ, ◌<◌, ◌≤◌, length, slice_index}

-- The first word of a line that tells something stands from `at` up to `from`: at `at` is neither a newline nor a `#`, none of its bytes is
-- a newline or a blank, and it ends at a blank, with its line or with the text.
abbrev pub FirstWord : List ℕ → ℕ → ℕ → Type 0
FirstWord text at from =
    (at < length text → (slice_index text at ≢ 10) × (slice_index text at ≢ 35))
    × (at ≤ from)
    × ((k : ℕ) → at ≤ k → k < from → (slice_index text k ≢ 10) × (slice_index text k ≢ 32))
    × (from < length text → slice_index text from ≢ 10 → slice_index text from ≡ 32)
