use Rattle.std.proofs.Common.{◌∙◌, ap, arith, length, length-append}
use Rattle.listing_lines.specs.Lines.{text_of, spaced}
use Rattle.listing_lines.specs.Laws.Lines.{adds_none, adds_number}
use Rattle.listing_lines.proofs.Line.numbers.Goals as goal

pub loop-n-init : goal.loop-n-init
unfolding spaced
loop-n-init c = record { shown = adds_none c.args.self.now; most = omega arith }

pub loop-n-preserved : goal.loop-n-preserved
loop-n-preserved c =
    let l = c.loop-n in
    let blank = ap length c.byte.ensures ∙ length-append (text_of l.self) _ in
    record {
      shown = adds_number c.args.self.now l.self _ _ c.args.ns.now l.n-index c.loop-n-test.true l.invariant.shown c.byte.ensures c.number.ensures.digits;
      most = omega (arith, blank, c.number.ensures.most, l.invariant.most);
    }
