use Rattle.std.proofs.Common.{◌+◌, ◌*◌, ◌≤◌, length, take}
use Rattle.listing_lines.specs.Lines.{text_of, Adds, spaced}
use Rattle.listing_lines.proofs.Line.numbers.Given as goal

abbrev pub invariant-loop-n : goal.invariant-loop-n
invariant-loop-n l = record {
  shown : Adds l.initial.self (spaced (take l.n-index l.ns)) l.self;
  most : length (text_of l.self) ≤ length (text_of l.initial.self) + 6 * l.n-index;
}
