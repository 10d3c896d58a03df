use Rattle.text_reader.specs.Reading.{job}
use Rattle.text_reader.specs.Answers.{numbered}
use Rattle.text_reader.specs.Laws.Answered as is
use Rattle.text_reader.specs.Laws.Jobs.{job_refused, tasks_cut, no_task, job_done}
use Rattle.translate_rows.specs.Laws.Tasks.{stopped_job, job_noted}
use Rattle.translate_rows.proofs.Stops.{exit}
use Rattle.translate_rows.proofs.tasks.read_job.Goals as goal

pub returns-in_err-chans : goal.returns-in_err-chans
unfolding numbered
returns-in_err-chans c =
    let args = c.args in
    rw (exit c.from_residual.result c.from_residual.ensures.1)
    (stopped_job (job args.text.now) args.notes.now _ args.firsts.now _ (job_refused _ c.read_chans.ensures (is.count_bad c.in_err-chans.was)))

pub returns-in_err-all : goal.returns-in_err-all
unfolding numbered
returns-in_err-all c =
    let args = c.args in
    rw (exit c.from_residual-in_err-all.result c.from_residual-in_err-all.ensures.1)
    (stopped_job (job args.text.now) args.notes.now _ args.firsts.now _ (tasks_cut _ c.read_chans.ensures (is.count_got c.in_ok-chans.was) c.read_tasks.ensures.0 (is.count_bad c.in_err-all.was)))

pub returns-then-all-eq0 : goal.returns-then-all-eq0
unfolding numbered
returns-then-all-eq0 c =
    let args = c.args in
    rw c.at.ensures
    (stopped_job (job args.text.now) args.notes.now _ args.firsts.now _ (no_task _ c.read_chans.ensures (is.count_got c.in_ok-chans.was) c.read_tasks.ensures.0 (is.count_got c.in_ok-all.was) c.if-all-eq0.true))

pub returns : goal.returns
unfolding numbered
returns c =
    let args = c.args in
    let u = is.count_got c.in_ok-chans.was in
    (job_done _ c.read_chans.ensures u c.read_tasks.ensures.0 (is.count_got c.in_ok-all.was) c.if-all-eq0.false, job_noted args.text.now args.notes.now _ args.firsts.now _ u c.read_chans.ensures c.read_tasks.ensures.1)
