use borrow.Author.Tests.{eq-eqb, ne_eqb}
use Rattle.std.proofs.lemmas.Result.{err_from_is_err_and}
use Rattle.text_reader.specs.Reading.{chan_by}
use Rattle.text_reader.specs.Answers.{due_part, part_of}
use Rattle.text_jobs.proofs.read_chan.Goals as goal

pub returns-then-w-ne-CHAN : goal.returns-then-w-ne-CHAN
unfolding chan_by part_of
returns-then-w-ne-CHAN c = rw (← c.word_at-w.ensures, ne_eqb _ _ c.if-w-ne-CHAN.true)

pub returns-then-left-eq0 : goal.returns-then-left-eq0
unfolding chan_by part_of
returns-then-left-eq0 c = rw (c.at.ensures, ← c.word_at-w.ensures, eq-eqb _ _ c.if-w-ne-CHAN.false, eq-eqb _ _ c.if-left-eq0.true)

pub returns-in_err-capacity : goal.returns-in_err-capacity
unfolding chan_by part_of due_part
returns-in_err-capacity c =
    let p = err_from_is_err_and c.from_residual.result c.from_residual.ensures.1 in
    rw (p.1, p.2, ← c.word_at-w.ensures, eq-eqb _ _ c.if-w-ne-CHAN.false, ne_eqb _ _ c.if-left-eq0.false, c.read_number.ensures 0, c.in_err-capacity.was)

pub returns : goal.returns
unfolding chan_by part_of due_part
returns c = rw (← c.word_at-w.ensures, eq-eqb _ _ c.if-w-ne-CHAN.false, ne_eqb _ _ c.if-left-eq0.false, c.read_number.ensures 0, c.in_ok-capacity.was)
