use Rattle.std.proofs.Common.{◌≡◌, ◌*◌, drop}
use Rattle.machine.specs.Public.{started, fresh_values}
use Rattle.bench.specs.Bench.{after_pairs}
use Rattle.bench.proofs.after_pairs.Given as goal

abbrev pub invariant-loop-i : goal.invariant-loop-i
invariant-loop-i l =
    after_pairs l.image l.task l.choice l.rounds l.way l.pairs (started l.image).state fresh_values
    ≡ after_pairs l.image l.task l.choice l.rounds l.way (drop (2 * l.i) l.pairs) l.s l.values
