use borrow.Author.Rules.{rules}
use mathlib.Core.Logic.{inl, inr}
use Rattle.machine_waiters.specs.Laws.Served.{offer_at, offer_none}
use Rattle.machine_waiters.proofs.offer_at.Goals.{in-1, in-2, in-3, in-5}
use Rattle.machine_waiters.proofs.offer_at.Goals as goal

pub returns-in_default : goal.returns-in_default
returns-in_default c =
    let f = c.fields_no-f in
    offer_none c.args.body.now c.args.n f.result f.ensures (search rules) (search rules) (search rules) (search rules) (search rules) (search rules) (search rules)

pub returns : goal.returns
returns c =
    let f = c.fields_no-f in
    let at = offer_at c.args.body.now c.args.n f.result f.ensures in
    elim c.match-f.branch [
      | in-1 w ↦ rw (w.op-is, c.from-p.ensures) (elim w.in-1.is [ inl e ↦ at 1 e | inr e ↦ at 9 e ])
      | in-2 w ↦ rw (w.op-is, c.from-p.ensures) (elim w.in-2.is [ inl e ↦ at 2 e | inr e ↦ at 10 e ])
      | in-3 w ↦ rw (w.op-is, c.from-p.ensures) (elim w.in-3.is [ inl e ↦ at 3 e | inr e ↦ at 11 e ])
      | in-5 w ↦ rw (w.op-is, c.from-p.ensures) (at 5 w.in-5.is)
    ]
