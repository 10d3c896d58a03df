use mathlib.Core.Path.{ap, ◌∙◌}
use lib.ListN.{get_or}
use Prim.Native.Nat.{◌%◌, ◌<◌}
use Rattle.meaning.specs.Image.{task_no}
use Rattle.machine_records.specs.Records.{Records}
use Rattle.machine_store.specs.Store.{records_of}
use Rattle.machine_store.specs.Laws.Store.{order_length}
use Rattle.machine_shut.specs.Laws.Moves.{walked_wakes, walked_keeps, others_same, walked_all}
use borrow.Author.Rules.{rules}
use Rattle.machine_shut.proofs.wake_all.Goals.{in-Some, in-None}
use Rattle.machine_shut.proofs.wake_all.Goals as goal

pub loop-i-preserved : goal.loop-i-preserved
loop-i-preserved c =
    let a = c.args in
    let l = c.loop-i in
    let z = records_of a.state.now in
    let named = c.name-t.ensures ∙ ap (λ (y : Records). get_or y.order (l.i % 16) (task_no 0)) l.invariant.1.1.0 in
    let order_long = order_length a.state.now.words a.state.now.cells in
    let within : l.i < z.waiting % 17 = search rules in
    elim c.match-missed_at.branch [
      | in-Some w ↦ rw (w.state-is, w.kept-is, w.w-is) (
        search rules,
        (
          l.invariant.1.0,
          (
            others_same z (records_of l.state) _ _ w.got.ensures.same l.invariant.1.1.0,
            (
              (λ p. w.got.ensures.plain (l.invariant.1.1.1.0 p)),
              ((λ p. w.got.ensures.whole (l.invariant.1.1.1.1.0 p)), λ s b. walked_wakes a.body.now a.c s z a.before.now b order_long l.i within c.name-t.result named c.row_in.result c.row_in.ensures c.missed_at.result c.missed_at.ensures _ _ l.kept l.w (l.invariant.1.1.1.1.1 s b) _ w.in-Some.is _ (ap (λ (y : Records). y.tasks) w.got.ensures.same)),
            ),
          ),
        ),
      )
      | in-None w ↦ rw (w.state-is, w.kept-is, w.w-is) (
        search rules,
        (
          l.invariant.1.0,
          (
            l.invariant.1.1.0,
            (
              l.invariant.1.1.1.0,
              (l.invariant.1.1.1.1.0, λ s b. walked_keeps a.body.now a.c s z a.before.now b order_long l.i within c.name-t.result named c.row_in.result c.row_in.ensures c.missed_at.result c.missed_at.ensures _ _ l.kept l.w (l.invariant.1.1.1.1.1 s b) w.in-None.is),
            ),
          ),
        ),
      )
    ]

pub returns : goal.returns
returns c =
    let a = c.args in
    let l = c.loop-i in
    λ s b. walked_all a.body.now a.c s a.before.now a.state.now l.state _ b l.i (search rules) l.invariant.1.1.0 l.invariant.1.1.1.0 l.kept l.w (l.invariant.1.1.1.1.1 s b) c.put_order.ensures.made l.invariant.1.1.1.1.0 _ (search rules)
