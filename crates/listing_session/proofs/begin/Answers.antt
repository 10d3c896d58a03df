use mathlib.Core.Path.{refl}
use Rattle.listing_session.proofs.begin.Goals as goal

pub returns : goal.returns
returns c = rw (← c.answer_of-a.ensures.0, ← c.answer_of-a.ensures.1) (c.begin_as.ensures, refl)
