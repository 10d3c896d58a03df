-- What has been found is within what is expected.
use Rattle.std.proofs.Common.{◌≤◌, length}
use Rattle.listing_vectors.proofs.first_difference.Given as goal

abbrev pub invariant-loop-i : goal.invariant-loop-i
invariant-loop-i l = l.at ≤ length l.expected
