use Rattle.std.proofs.Common.{◌∙◌, arith}
use Prim.Native.Nat.{◌+◌, ◌-◌}
use Rattle.std.proofs.lemmas.Result.{err_from_is_err_and}
use Rattle.meaning.specs.Numbers.{channel_limit}
use Rattle.text_reader.specs.Answers.{count_told}
use Rattle.text_reader.specs.Laws.Answered.{part_some, part_none, part_bad, count_bad}
use Rattle.text_reader.specs.Laws.Jobs.{chans_step, chans_end, chans_refused}
use Rattle.text_jobs.proofs.read_chans.Goals as goal

pub returns-in_err-capacity : goal.returns-in_err-capacity
returns-in_err-capacity c =
    let l = c.loop-capacity in
    let p = err_from_is_err_and c.from_residual.result c.from_residual.ensures.1 in
    rw (count_bad p.1, p.2) (chans_refused _ (channel_limit - l.count) l.at l.count (part_bad 0 c.in_err-capacity.was) c.read_chan.ensures ∙ l.invariant.1)

pub loop-capacity-smaller : goal.loop-capacity-smaller
loop-capacity-smaller c =
    let l = c.loop-capacity in
    let z = chans_step _ (channel_limit - l.count) l.at l.count (part_some 0 c.in_ok-capacity.was c.in-Some.is) c.read_chan.ensures in
    omega (arith, z.0)

pub loop-capacity-preserved : goal.loop-capacity-preserved
loop-capacity-preserved c =
    let l = c.loop-capacity in
    let z = chans_step _ (channel_limit - l.count) l.at l.count (part_some 0 c.in_ok-capacity.was c.in-Some.is) c.read_chan.ensures in
    (omega (arith, z.0), z.1 (channel_limit - (l.count + 1)) (omega (arith, z.0)) ∙ l.invariant.1)

pub returns : goal.returns
unfolding count_told
returns c =
    let l = c.loop-capacity in
    chans_end _ (channel_limit - l.count) l.at l.count (part_none 0 c.in_ok-capacity.was c.in_default.not-Some) c.read_chan.ensures ∙ l.invariant.1
