use Prim.Native.Nat.{◌*◌}
use Rattle.machine_turns.proofs.Laps.{Ahead}
use Rattle.machine_schedule.proofs.run_in.Given as goal

abbrev pub invariant-loop-i : goal.invariant-loop-i
invariant-loop-i l =
    Ahead l.image l.initial.state l.initial.values l.pairs l.initial.records l.state l.values l.records (2 * l.i)
