use Rattle.std.proofs.Common.{◌≡◌, ◌+◌, ◌*◌, drop, sym, ap, ◌∙◌, ap₂, arith}
use Rattle.machine_records.specs.Values.{changed}
use Rattle.machine_records.specs.Plans.{Done}
use Rattle.machine_store.specs.Store.{records_of}
use Rattle.bench_fit.specs.FitRounds.{led_on}
use Rattle.bench_fit.specs.Laws.FitRounds.{pair_step, pairs_end}
use Rattle.bench_fit.proofs.lead_on.Goals as goal

pub loop-i-init : goal.loop-i-init
loop-i-init c = record { led = rw c.fresh_values-values.ensures; plain = λ p. p; whole = λ p. p }

pub loop-i-preserved : goal.loop-i-preserved
loop-i-preserved c =
    let l = c.loop-i in
    let a = c.args in
    let same = c.step_in-m.ensures.same in
    let two : 2 * l.i + 2 ≡ 2 * (l.i + 1) = omega arith in
    record {
      led =
          l.invariant.led
          ∙ rw two at (pair_step a.body.now a.rows a.pairs.now (2 * l.i) (records_of l.state) l.values (omega arith))
          ∙ sym (ap₂ (led_on a.body.now a.rows (drop (2 * (l.i + 1)) a.pairs.now)) (ap (λ (d : Done). d.after) same) (c.store_in.ensures ∙ ap (λ (d : Done). changed l.values d.change) same));
      plain = λ p. c.step_in-m.ensures.plain (l.invariant.plain p);
      whole = λ p. c.step_in-m.ensures.whole (l.invariant.whole p);
    }

pub returns : goal.returns
returns c =
    let l = c.loop-i in
    record {
      same = sym (l.invariant.led ∙ pairs_end c.args.body.now c.args.rows c.args.pairs.now (2 * l.i) (records_of l.state) l.values (omega arith));
      plain = l.invariant.plain;
      whole = l.invariant.whole;
    }
