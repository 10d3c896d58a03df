-- The place only grows, up to the digit that was read last.
use Rattle.std.proofs.Common.{◌≤◌, ◌<◌, length}
use Rattle.schedule_vectors.proofs.lines.number_at.Given as goal

abbrev pub invariant-loop-i : goal.invariant-loop-i
invariant-loop-i l = record { ahead : l.at ≤ l.next; within : l.at < l.next → l.next ≤ length l.told }
