use borrow.Author.Rules.{rules}
use Rattle.machine_select.proofs.Laws.{offer_at, offer_none}
use Rattle.machine_select.proofs.case_offer.Goals as goal

pub returns-in-9 : goal.returns-in-9
returns-in-9 c =
    rw c.from-p.ensures (offer_at c.args.body.now c.args.n c.fields_no-f.result c.fields_no-f.ensures 9 c.in-9.is)

pub returns-in-10 : goal.returns-in-10
returns-in-10 c =
    rw c.from-p.ensures (offer_at c.args.body.now c.args.n c.fields_no-f.result c.fields_no-f.ensures 10 c.in-10.is)

pub returns-in-11 : goal.returns-in-11
returns-in-11 c =
    rw c.from-p.ensures (offer_at c.args.body.now c.args.n c.fields_no-f.result c.fields_no-f.ensures 11 c.in-11.is)

pub returns-in_default : goal.returns-in_default
returns-in_default c =
    offer_none c.args.body.now c.args.n c.fields_no-f.result c.fields_no-f.ensures (search rules) (search rules) (search rules)
