use Rattle.std.proofs.Common.{arith}
use native.Mathlib.Numerals.{add-one}
use lib.ListN.{drop_of_length-le}
use lib.Seq.{drop-cons}
use Rattle.text_keys.specs.Keys.{gathered}
use Rattle.text_keys.proofs.key_of_row.Goals as goal

pub loop-b-preserved : goal.loop-b-preserved
unfolding gathered
loop-b-preserved c =
    let l = c.loop-b in
    let row = c.args.row in
    rw (c.key_more-key.ensures, add-one l.b-index) (rw (drop-cons row l.b-index 0 (omega arith)) at l.invariant)

pub returns : goal.returns
unfolding gathered
returns c =
    let l = c.loop-b in
    rw (drop_of_length-le c.args.row {i = l.b-index} (omega arith)) at l.invariant
