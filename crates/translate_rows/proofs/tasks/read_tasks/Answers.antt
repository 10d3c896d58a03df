use mathlib.Core.Path.{◌≡◌, refl, ◌∙◌}
use Prim.Native.Nat.{◌+◌, ◌-◌}
use native.Mathlib.Omega.{arith}
use Rattle.meaning.specs.Numbers.{task_limit}
use Rattle.text_reader.specs.Answers.{count_told}
use Rattle.text_reader.specs.Laws.Answered as is
use Rattle.text_reader.specs.Laws.Jobs.{tasks_step, tasks_end, tasks_refused}
use Rattle.translate_rows.specs.Laws.Noted.{stop_by}
use Rattle.translate_rows.specs.Laws.Tasks.{task_lap, tasks_done, tasks_next, firsts_next, tasks_none, tasks_refusal}
use Rattle.translate_rows.proofs.Stops.{exit}
use Rattle.translate_rows.proofs.tasks.read_tasks.Goals as goal

pub loop-task-init : goal.loop-task-init
loop-task-init c = (omega arith, refl, λ bs a r e. (bs, e, refl, refl))

pub bounds-firsts-count : goal.bounds-firsts-count
bounds-firsts-count c =
    let l = c.loop-task in
    let z = tasks_step _ _ (task_limit - l.count) l.behind.at l.behind.rows l.count (is.as_some c.in_ok-task.was c.in-Some.is) c.read_task.ensures.0 in omega (arith, z.0)

pub loop-task-smaller : goal.loop-task-smaller
loop-task-smaller c =
    let l = c.loop-task in
    let z = tasks_step _ _ (task_limit - l.count) l.behind.at l.behind.rows l.count (is.as_some c.in_ok-task.was c.in-Some.is) c.read_task.ensures.0 in omega (arith, z.0)

pub loop-task-preserved : goal.loop-task-preserved
loop-task-preserved c =
    let l = c.loop-task in
    let at = l.behind.at in
    let rows = l.behind.rows in
    let read_task = c.read_task in
    let d = is.as_some c.in_ok-task.was c.in-Some.is in
    let z = tasks_step _ _ (task_limit - l.count) at rows l.count d read_task.ensures.0 in (
      omega (arith, z.0),
      z.1 (task_limit - (l.count + 1)) (omega (arith, z.0)) ∙ l.invariant.1,
      λ bs a q e.
          let y = l.invariant.2 bs a q e in
          let w = task_lap _ _ (task_limit - l.count) at rows z.0 d read_task.ensures.0 y.1 in
          let f = w.left_is in
          let p : w.fewer ≡ task_limit - (l.count + 1) = omega arith in
          (w.rest, rw (← p) w.rest_is, tasks_next w _ (read_task.ensures.1 w.one _ _ w.is) ∙ y.2, firsts_next w _ l.count ∙ y.3),
    )

pub returns-in_err-task : goal.returns-in_err-task
returns-in_err-task c =
    let l = c.loop-task in
    let t = tasks_refused _ _ (task_limit - l.count) l.behind.at l.behind.rows l.count (is.as_bad c.in_err-task.was) c.read_task.ensures.0 ∙ l.invariant.1 in
    rw (is.count_bad (exit c.from_residual.result c.from_residual.ensures.1)) (t, λ bs a q e. absurd (tasks_refusal _ t e))

pub returns : goal.returns
unfolding count_told
returns c =
    let l = c.loop-task in
    let at = l.behind.at in
    let rows = l.behind.rows in
    let read_task = c.read_task in
    let d = is.as_none c.in_ok-task.was c.in_default.not-Some in (
      tasks_end _ _ (task_limit - l.count) at rows l.count d read_task.ensures.0 ∙ l.invariant.1,
      λ bs a q e.
          let y = l.invariant.2 bs a q e in
          let w = tasks_none y.0 _ _ _ _ _ (tasks_done _ _ (task_limit - l.count) at rows (stop_by d tt) read_task.ensures.0 y.1) in
          (read_task.ensures.2 d ∙ w.0 ∙ y.2, w.1 ∙ y.3),
    )
