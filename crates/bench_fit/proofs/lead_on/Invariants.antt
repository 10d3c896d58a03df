use Rattle.std.proofs.Common.{◌≡◌, ◌*◌, drop}
use Rattle.machine_store.specs.Store.{records_of, Plain, Whole}
use Rattle.machine.specs.Public.{fresh_values}
use Rattle.bench_fit.specs.FitRounds.{led_on}
use Rattle.bench_fit.proofs.lead_on.Given as goal

abbrev pub invariant-loop-i : goal.invariant-loop-i
invariant-loop-i l = record {
  led : led_on l.body l.rows l.pairs (records_of l.initial.state) fresh_values ≡ led_on l.body l.rows (drop (2 * l.i) l.pairs) (records_of l.state) l.values;
  plain : Plain l.initial.state.cells → Plain l.state.cells;
  whole : Whole l.initial.state → Whole l.state;
}
