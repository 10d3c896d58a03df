use mathlib.Core.Path.{refl}
use Rattle.listing_session.proofs.turn_listed.Goals as goal

pub returns : goal.returns
returns c = rw (← c.pair_at-pair.ensures, ← c.turn-turned.ensures.0) (refl, refl, c.turn_line-line.ensures)
