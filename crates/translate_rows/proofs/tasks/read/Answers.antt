use borrow.Author.Tests.{lt-ltb, le-ltb}
use Rattle.text_reader.specs.Reading.{reading}
use Rattle.text_reader.specs.Answers.{numbered, told_job}
use Rattle.translate_rows.specs.Laws.Tasks.{stopped_job}
use Rattle.translate_rows.proofs.tasks.read.Goals as goal

pub returns-then-text-gt-TEXT_LIMIT : goal.returns-then-text-gt-TEXT_LIMIT
unfolding reading numbered told_job
returns-then-text-gt-TEXT_LIMIT c =
    let args = c.args in
    rw c.at.ensures (stopped_job (reading args.text.now) args.notes.now _ args.firsts.now _ (rw (lt-ltb _ _ c.if-text-gt-TEXT_LIMIT.true)))

pub returns-in-Some : goal.returns-in-Some
unfolding reading numbered told_job
returns-in-Some c =
    let args = c.args in
    rw c.at-in-Some.ensures (stopped_job (reading args.text.now) args.notes.now _ args.firsts.now _ (rw (le-ltb _ _ c.if-text-gt-TEXT_LIMIT.false, ← c.first_not_allowed.ensures, c.in-Some.is)))

pub returns-in-None : goal.returns-in-None
unfolding reading
returns-in-None c = rw (le-ltb _ _ c.if-text-gt-TEXT_LIMIT.false, ← c.first_not_allowed.ensures, c.in-None.is) c.read_job.ensures
