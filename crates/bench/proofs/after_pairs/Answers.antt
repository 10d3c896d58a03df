use Rattle.std.proofs.Common.{◌≡◌, ◌+◌, ◌*◌, sym, ◌∙◌, arith}
use Rattle.bench.specs.Laws.Bench.{pair_step, pairs_end}
use Rattle.bench.proofs.after_pairs.Goals as goal

pub loop-i-init : goal.loop-i-init
loop-i-init c = rw (c.start-begun.ensures.0, c.fresh_values-values.ensures)

pub loop-i-preserved : goal.loop-i-preserved
loop-i-preserved c =
    let a = c.args in
    let l = c.loop-i in
    let two : 2 * l.i + 2 ≡ 2 * (l.i + 1) = omega arith in
    let p = pair_step a.image.now a.task a.choice a.rounds a.way a.pairs.now (2 * l.i) l.s l.values (omega arith) in
    l.invariant ∙ rw two at p ∙ rw (c.stored-after.ensures, c.turn-r.ensures.0)

pub returns : goal.returns
returns c =
    let a = c.args in
    let l = c.loop-i in
    let e = pairs_end a.image.now a.task a.choice a.rounds a.way a.pairs.now (2 * l.i) l.s l.values (omega arith) in
    sym (l.invariant ∙ e ∙ sym c.rounds_of.ensures)
