use mathlib.Core.Path.{sym, ap, ◌∙◌}
use Rattle.machine_waiters.specs.Served.{served_offer}
use Rattle.machine_waiters.specs.Laws.Served.{served_matched}
use Rattle.machine_waiters.proofs.matched_at.Goals as goal

pub returns-in_err-served_at : goal.returns-in_err-served_at
returns-in_err-served_at c = c.from_residual.ensures ∙ ap (served_offer c.args.body.now) (sym c.in_err-served_at.was ∙ c.served_at.ensures) ∙ served_matched c.args.body.now c.args.side c.args.c c.args.row

pub returns : goal.returns
returns c = c.offer_at.ensures ∙ ap (served_offer c.args.body.now) (sym c.in_ok-served_at.was ∙ c.served_at.ensures) ∙ served_matched c.args.body.now c.args.side c.args.c c.args.row
