use Rattle.std.proofs.Common.{◌/◌, arith, rules, length, length-append, ap, ◌∙◌}
use Rattle.listing_lines.specs.Lines.{text_of, decimal_of}
use Rattle.listing_lines.specs.Laws.Lines.{decimal_one, decimal_more, decimal-length, digit_more, adds_more}
use Rattle.listing_lines.proofs.Line.+number.Goals as goal

pub returns-then-n-lt10-clause-digits : goal.returns-then-n-lt10-clause-digits
returns-then-n-lt10-clause-digits t c = rw (decimal_one c.args.n (omega arith)) c.byte.ensures

pub byte-requires-2 : goal.byte-requires-2
byte-requires-2 t c =
    let longer = ap length c.number.ensures.digits ∙ length-append (text_of c.args.self.now) (decimal_of (c.args.n / 10)) in
    omega (arith, longer, digit_more c.args.n (omega arith), decimal-length c.args.n (search rules))

pub returns-clause-digits : goal.returns-clause-digits
returns-clause-digits t c =
    rw (decimal_more c.args.n (omega arith)) (adds_more _ _ _ _ _ c.number.ensures.digits c.byte-2.ensures)

pub returns-clause-most : goal.returns-clause-most
returns-clause-most t c =
    let longer = ap length c.number.ensures.digits ∙ length-append (text_of c.args.self.now) (decimal_of (c.args.n / 10)) in
    let one = ap length c.byte-2.ensures ∙ length-append (text_of c.number.new.self) _ in
    omega (arith, longer, one, digit_more c.args.n (omega arith), decimal-length c.args.n (search rules))
