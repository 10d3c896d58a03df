use mathlib.Core.Path.{refl}
use borrow.Author.Tests.{lt-ltb, le-ltb}
use Rattle.listing_session.specs.Session.{run_session, run_change, run_line}
use Rattle.listing_session.proofs.run_listed.Goals as goal

pub returns-then-i-pairs : goal.returns-then-i-pairs
unfolding run_session run_change run_line
returns-then-i-pairs c = rw (lt-ltb _ _ c.if-i-pairs.true) c.turn_listed.ensures

pub returns : goal.returns
unfolding run_session run_change run_line
returns c = rw (le-ltb _ _ c.if-i-pairs.false, c.quiet.ensures) (refl, refl, c.state_line.ensures)
