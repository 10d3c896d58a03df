use mathlib.Core.Path.{refl, sym, ◌∙◌}
use Prim.Native.Nat.{suc}
use native.Mathlib.Omega.{arith}
use Rattle.meaning.specs.Numbers.{row_limit}
use Rattle.text_reader.specs.Answers.{told_as}
use Rattle.text_reader.specs.Laws.Answered as is
use Rattle.text_reader.specs.Laws.Parts.{bind_done, bind_stop}
use Rattle.text_reader.specs.Laws.Jobs.{task_stop, task_begun}
use Rattle.translate_rows.specs.Laws.Laps.{bind_told}
use Rattle.translate_rows.specs.Laws.Noted.{stop_by, refused_some, done_some}
use Rattle.translate_rows.specs.Laws.Tasks.{end_got, task_noted, stopped_task}
use Rattle.translate_rows.proofs.Stops.{exit}
use Rattle.translate_rows.proofs.tasks.read_task.Goals as goal

pub returns-in_err-inside : goal.returns-in_err-inside
returns-in_err-inside c =
    let args = c.args in
    let y = is.as_bad c.in_err-inside.was in
    rw (is.as_bad (exit c.from_residual.result c.from_residual.ensures.1))
    (stopped_task args.text.now args.channels args.from.at args.from.rows args.left _ _ tt (sym y ∙ task_stop args.text.now args.channels args.from.at args.from.rows args.left c.read_task_head.ensures (stop_by y tt)) (refused_some _ _ _ _))

pub returns-in_default : goal.returns-in_default
unfolding told_as
returns-in_default c =
    let args = c.args in
    let y = is.as_none c.in_ok-inside.was c.in_default.not-Some in
    stopped_task args.text.now args.channels args.from.at args.from.rows args.left _ _ tt (sym y ∙ task_stop args.text.now args.channels args.from.at args.from.rows args.left c.read_task_head.ensures (stop_by y tt)) (λ _. refl)

pub returns-in_err-body : goal.returns-in_err-body
returns-in_err-body c =
    let args = c.args in
    let y = is.told_bad c.in_err-body.was in
    let b = task_begun args.text.now args.channels args.from.at args.from.rows args.left c.read_task_head.ensures (is.as_some c.in_ok-inside.was c.in-Some.is) in
    rw (is.as_bad (exit c.from_residual-in_err-body.result c.from_residual-in_err-body.ensures.1))
    (stopped_task args.text.now args.channels args.from.at args.from.rows args.left _ _ tt (rw b.1 (sym y ∙ bind_stop _ _ (stop_by y tt) (c.read_body.ensures.0 (suc row_limit) (omega arith)))) (refused_some _ _ _ _))

pub returns-in_err-end : goal.returns-in_err-end
returns-in_err-end c =
    let args = c.args in
    let d = is.told_got c.in_ok-body.was in
    let b = task_begun args.text.now args.channels args.from.at args.from.rows args.left c.read_task_head.ensures (is.as_some c.in_ok-inside.was c.in-Some.is) in
    rw (is.as_bad (exit c.from_residual-in_err-end.result c.from_residual-in_err-end.ensures.1))
    (stopped_task args.text.now args.channels args.from.at args.from.rows args.left _ _ tt (rw b.1 (bind_done _ _ _ d (c.read_body.ensures.0 (suc row_limit) (omega arith)) (λ x. sym (is.told_bad c.in_err-end.was) ∙ c.read_task_end.ensures x))) (refused_some _ _ _ _))

pub returns : goal.returns
unfolding told_as
returns c =
    let args = c.args in
    let read-body = c.read_body in
    let d = is.told_got c.in_ok-body.was in
    let g = task_begun args.text.now args.channels args.from.at args.from.rows args.left c.read_task_head.ensures (is.as_some c.in_ok-inside.was c.in-Some.is) in (
      rw g.1 (bind_done _ _ _ d (read-body.ensures.0 (suc row_limit) (omega arith)) (λ b. sym (is.told_got c.in_ok-end.was) ∙ c.read_task_end.ensures b)),
      λ b a r e.
          let w = bind_told _ _ d (read-body.ensures.0 (suc row_limit) (omega arith)) (sym g.1 ∙ e) in
          let q = end_got args.text.now args.channels w.0 _ _ w.2 in
          rw (← g.0) (task_noted args.text.now args.channels _ _ w.0 b _ w.1 q (read-body.ensures.1 (suc row_limit) w.0 _ _ (omega arith) w.1) c.note_one.ensures),
      done_some _ _ refl,
    )
