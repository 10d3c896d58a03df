use mathlib.Core.Path.{◌≡◌}
use Rattle.machine_order.specs.Laws.Order.{written}
use Rattle.machine_store.specs.Store.{state_in}
use Rattle.machine_order.proofs.put_order.Given as goal

abbrev pub invariant-loop-i : goal.invariant-loop-i
invariant-loop-i l = l.state ≡ state_in l.initial.state.words (written l.initial.state.cells l.order l.i)
