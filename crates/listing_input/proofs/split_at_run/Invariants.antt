use Rattle.std.proofs.Common.{◌≡◌, ◌+◌, drop, true}
use Rattle.listing_input.specs.Input.{text_length}
use Rattle.listing_input.proofs.split_at_run.Given as goal

abbrev pub invariant-loop-i : goal.invariant-loop-i
invariant-loop-i l = l.i + text_length l.begins (drop l.i l.input) ≡ text_length true l.input
