use Rattle.std.proofs.Common.{take}
use Rattle.listing_lines.specs.Lines.{Adds}
use Rattle.listing_lines.proofs.Line.word.Given as goal

abbrev pub invariant-loop-b : goal.invariant-loop-b
invariant-loop-b l = Adds l.initial.self (take l.b-index l.word) l.self
