-- The measure is the number of bytes that are left. From one line to the next: the place is where a line begins, or behind the text, and
-- no line behind it tells anything.
use Rattle.std.proofs.Common.{◌≡◌, ◌≢◌, ℕ, ◌-◌, ◌<◌, ◌≤◌, length, get_or}
use Rattle.schedule_vectors.proofs.lines.next_told.Given as goal

abbrev pub invariant-loop-i : goal.invariant-loop-i
invariant-loop-i l = record {
  ahead : l.at ≤ l.i;
  past : length l.text ≤ l.at → l.i ≡ l.at;
  within : l.at ≤ length l.text → l.i ≤ length l.text;
  begins : l.i ≢ l.at → l.i < length l.text → get_or l.text (l.i - 1) 0 ≡ 10;
  first : get_or l.text l.at 0 ≢ 10 → get_or l.text l.at 0 ≢ 35 → l.i ≡ l.at;
  passed : (k : ℕ) → l.at < k → k < l.i → get_or l.text (k - 1) 0 ≡ 10 → get_or l.text k 0 ≢ 10 → get_or l.text k 0 ≡ 35;
}

abbrev pub decreases-loop-i : goal.decreases-loop-i
decreases-loop-i l = length l.text - l.i
