use mathlib.Core.Path.{◌≡◌}
use Prim.Native.Nat.{◌-◌, ◌≤◌}
use lib.ListN.{length}
use Rattle.meaning.specs.Numbers.{channel_limit}
use Rattle.text_reader.specs.Reading.{chans_from}
use Rattle.text_reader.specs.Answers.{counted}
use Rattle.text_jobs.proofs.read_chans.Given as goal

abbrev pub invariant-loop-capacity : goal.invariant-loop-capacity
invariant-loop-capacity l = (l.count ≤ channel_limit) × (counted length l.count (chans_from l.text (channel_limit - l.count) l.at 0) ≡ counted length 0 (chans_from l.text channel_limit 0 0))

abbrev pub decreases-loop-capacity : goal.decreases-loop-capacity
decreases-loop-capacity l = channel_limit - l.count
