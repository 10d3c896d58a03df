-- The measure is the number of bytes that are left. Nothing has to hold from one block to the next.
use Rattle.std.proofs.Common.{◌-◌, length}
use Rattle.schedule_vectors.proofs.run_blocks.Given as goal

abbrev pub decreases-loop-at : goal.decreases-loop-at
decreases-loop-at g l = length l.text - l.at
