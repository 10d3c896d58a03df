-- The measure is the number of bytes that are left of the line.
use Rattle.std.proofs.Common.{◌-◌, length}
use Rattle.schedule_vectors.proofs.lines.bytes_of.Given as goal

abbrev pub decreases-loop-i : goal.decreases-loop-i
decreases-loop-i l = length l.told - l.i
