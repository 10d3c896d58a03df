use mathlib.Core.Path.{sym, ◌∙◌}
use Prim.Native.Nat.{◌+◌}
use borrow.Author.Rules.{rules}
use Rattle.meaning.specs.Machine.{is_on}
use Rattle.meaning.specs.Bytes.{port_of}
use Rattle.machine_waiters.specs.Served.{head_of, case_serves}
use Rattle.machine_waiters.specs.Laws.Served.{taken_by, left_by, serving_lap, serving_end}
use Rattle.machine_waiters.proofs.first_case.Goals.{then-is_on+else-case_serves, else-is_on}
use Rattle.machine_waiters.proofs.first_case.Goals as goal

pub returns-then-case_serves : goal.returns-then-case_serves
returns-then-case_serves c =
    let a = c.args in
    let h = c.head_at-h in
    let g = head_of a.body.now (a.row.0 + 1 + c.loop-i.i) in
    sym (
    c.loop-i.invariant
    ∙ serving_lap a.body.now a.side a.c a.k c.loop-i.i (a.row.0 + 1) (search rules)
    ∙ taken_by (λ z. is_on a.c (port_of z.chan)) h.result g c.is_on.result _ _ h.ensures c.is_on.ensures c.if-is_on.true
    ∙ taken_by (λ z. case_serves a.side z.op) h.result g c.case_serves.result _ _ h.ensures c.case_serves.ensures c.if-case_serves.true
    )

pub loop-i-preserved : goal.loop-i-preserved
loop-i-preserved c =
    let a = c.args in
    let h = c.head_at-h in
    let g = head_of a.body.now (a.row.0 + 1 + c.loop-i.i) in
    c.loop-i.invariant
    ∙ serving_lap a.body.now a.side a.c a.k c.loop-i.i (a.row.0 + 1) (search rules)
    ∙ elim c.if-is_on.branch [
      | then-is_on+else-case_serves w ↦
          taken_by (λ z. is_on a.c (port_of z.chan)) h.result g c.is_on.result _ _ h.ensures c.is_on.ensures w.if-is_on.true
          ∙ left_by (λ z. case_serves a.side z.op) h.result g w.case_serves.result _ _ h.ensures w.case_serves.ensures w.if-case_serves.false
      | else-is_on w ↦ left_by (λ z. is_on a.c (port_of z.chan)) h.result g c.is_on.result _ _ h.ensures c.is_on.ensures w.if-is_on.false
    ]

pub returns : goal.returns
returns c = sym (c.loop-i.invariant ∙ serving_end c.args.body.now c.args.side c.args.c c.args.k c.loop-i.i (c.args.row.0 + 1) (search rules))
