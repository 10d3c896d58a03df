use mathlib.Core.Path.{◌≡◌}
use Prim.Native.Nat.{◌-◌}
use Rattle.machine_records.specs.Fitting.{every, length_fits}
use Rattle.machine_store.specs.Store.{records_of}
use Rattle.machine_fit.proofs.lengths_fit.Given as goal

abbrev pub invariant-loop-c : goal.invariant-loop-c
invariant-loop-c l =
    every (length_fits l.body l.k (records_of l.state)) l.k.channels 0 ≡ every (length_fits l.body l.k (records_of l.state)) (l.k.channels - l.c) l.c
