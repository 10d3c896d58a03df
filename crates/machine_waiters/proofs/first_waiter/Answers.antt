use mathlib.Core.Path.{refl, sym, ap, ◌∙◌}
use borrow.Author.Rules.{rules}
use Rattle.machine_records.specs.Waiters.{first_waiter}
use Rattle.machine_records.specs.declared.TaskState.{TaskState}
use Rattle.machine_store.specs.Store.{records_of}
use Rattle.machine_store.specs.Laws.Store.{order_length}
use Rattle.machine_waiters.specs.Laws.Served.{walk_past, walk_hit}
use Rattle.machine_waiters.proofs.first_waiter.Goals as goal

pub loop-i-init : goal.loop-i-init
unfolding first_waiter
loop-i-init c = refl

pub returns-in-Some : goal.returns-in-Some
returns-in-Some c =
    let a = c.args in
    let s = a.state.now in
    sym (c.loop-i.invariant ∙ walk_hit a.body.now (records_of s) a.side a.c (order_length s.words s.cells) c.loop-i.i c.name-task.result c.task.result.row c.matched_at.result (search rules) c.name-task.ensures (ap (λ (x : TaskState). x.row) c.task.ensures) c.matched_at.ensures c.in-Some.offer c.in-Some.is)

pub loop-i-preserved : goal.loop-i-preserved
loop-i-preserved c =
    let a = c.args in
    let s = a.state.now in
    c.loop-i.invariant ∙ walk_past a.body.now (records_of s) a.side a.c (order_length s.words s.cells) c.loop-i.i c.name-task.result c.task.result.row c.matched_at.result (search rules) c.name-task.ensures (ap (λ (x : TaskState). x.row) c.task.ensures) c.matched_at.ensures c.in_default.is
