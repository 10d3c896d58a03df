use borrow.Author.Rules.{rules}
use borrow.Author.Tests.{le-leb}
use Rattle.machine_records.specs.Fitting.{length_fits}
use Rattle.machine_store.specs.Store.{records_of}
use Rattle.machine_records.specs.Laws.Every.{every_step}
use Rattle.machine_fit.proofs.lengths_fit.Goals as goal

pub loop-c-preserved : goal.loop-c-preserved
unfolding length_fits
loop-c-preserved c =
    let l = c.loop-c in
    let a = c.args in
    let step = every_step (length_fits a.body.now a.k (records_of a.state.now)) a.k.channels l.c (search rules) in
    rw (l.invariant, step, ← c.capacity_in-capacity.ensures, ← c.channel-channel.ensures, le-leb _ _ c.if-capacity-channel.false)
