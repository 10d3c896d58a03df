use Rattle.std.proofs.Common.{sym, ◌∙◌}
use borrow.Author.Rules.{rules}
use Rattle.translate_notes.specs.Notes.{all_of}
use Rattle.text_reader.specs.Laws.Answered.{size_got, size_bad}
use Rattle.translate_rows.specs.Laws.Passed.{refused_passed, firsts_are, rows_short, rows_there}
use Rattle.translate_rows.specs.Laws.Jobs.{job_held, job_there, job_stored}
use Rattle.translate_rows.specs.Laws.Read.{is_job, in_limits, job_rows}
use Rattle.translate_rows.proofs.Stops.{exit}
use Rattle.translate_rows.proofs.put_rows.Goals as goal

pub returns-in_err-size : goal.returns-in_err-size
returns-in_err-size c =
    let read = c.read in
    let y = size_bad c.in_err-size.was in
    let z = refused_passed c.args.text.now c.args.image.now y read.ensures.0 in
    rw (exit c.from_residual.result c.from_residual.ensures.1) (sym y ∙ read.ensures.0, tt, z.1)

pub lay_body-requires : goal.lay_body-requires
lay_body-requires c =
    let read = c.read in
    let t = is_job c.args.text.now (size_got c.in_ok-size.was) read.ensures.0 in
    let n = read.ensures.1 t.job t.at _ t.read in
    let bs = t.job.tasks in
    let l = (in_limits _ t).0 in
    let h = job_held bs _ n.0 (search rules) (job_rows _ t) l in
    job_there _ bs h l

pub returns-then-length-image : goal.returns-then-length-image
returns-then-length-image c =
    let args = c.args in
    let read = c.read in
    let y = size_got c.in_ok-size.was in
    let t = is_job args.text.now y read.ensures.0 in
    let n = read.ensures.1 t.job t.at _ t.read in
    let bs = t.job.tasks in
    let l = (in_limits _ t).0 in
    let h = job_held bs _ n.0 (search rules) (job_rows _ t) l in
    (sym y ∙ read.ensures.0, n.1 ∙ sym (firsts_are _ args.image.now t), job_stored bs _ _ (c.lay_body.ensures (all_of bs) 0 h) ∙ sym (rows_there _ args.image.now t c.if-length-image.true))

pub returns-else-length-image : goal.returns-else-length-image
returns-else-length-image c =
    let args = c.args in
    let read = c.read in
    let y = size_got c.in_ok-size.was in
    let t = is_job args.text.now y read.ensures.0 in
    let n = read.ensures.1 t.job t.at _ t.read in
    (sym y ∙ read.ensures.0, n.1 ∙ sym (firsts_are _ args.image.now t), sym (rows_short _ args.image.now t c.if-length-image.false))
