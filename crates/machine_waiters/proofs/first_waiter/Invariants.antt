use mathlib.Core.Path.{◌≡◌}
use lib.ListN.{drop}
use Rattle.machine_records.specs.Records.{order_of}
use Rattle.machine_records.specs.Waiters.{first_of, waits_at, first_waiter}
use Rattle.machine_store.specs.Store.{records_of}
use Rattle.machine_waiters.proofs.first_waiter.Given as goal

-- nobody among the first i of the order
abbrev pub invariant-loop-i : goal.invariant-loop-i
invariant-loop-i l = first_waiter l.body (records_of l.state) l.side l.c ≡ first_of (waits_at l.body (records_of l.state) l.side l.c) (drop l.i (order_of (records_of l.state)))
