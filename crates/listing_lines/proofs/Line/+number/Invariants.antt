use Rattle.listing_lines.proofs.Line.+number.Given as goal

abbrev pub decreases-number : goal.decreases-number
decreases-number l = l.n
