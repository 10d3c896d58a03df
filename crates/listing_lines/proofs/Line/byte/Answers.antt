use Rattle.std.proofs.Common.{rules, arith, ◌<◌, ◌∙◌, length-set, length-take-le}
use Rattle.listing_lines.specs.Laws.Padded.{padded_more}
use Rattle.listing_lines.proofs.Line.byte.Goals as goal

pub invariant_of-self : goal.invariant_of-self
invariant_of-self c =
    let s = c.self.inside in
    let h = c.self.invariant in
    let room : s.len < 128 = search (rules, length-take-le s.len s.bytes) in
    (omega arith, length-set s.bytes s.len c.args.b ∙ h.1, padded_more s.bytes s.len c.args.b room h.1 h.2)
