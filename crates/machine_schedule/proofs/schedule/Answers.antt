use native.Mathlib.Omega.{arith}
use lib.ListN.{length}
use borrow.Author.Rules.{rules}
use borrow.Author.Tests.{eqb-true}
use Rattle.machine_turns.specs.Laws.Done.{done_begun, room_for}
use Rattle.machine_schedule.proofs.schedule.Goals as goal

pub run_in-requires : goal.run_in-requires
run_in-requires c =
    let a = c.args in
    let begun = done_begun a.image.now a.s (length a.pairs.now) (length a.records.now) _ c.decide-outcome.ensures _ c.in-Ok.is in
    record {
      good = begun.good;
      fit = begun.fit;
      whole = (search rules, search rules);
      values = c.sixteen-all.ensures;
      even = eqb-true _ _ begun.even;
      room = room_for _ _ begun.enough (omega arith);
    }
