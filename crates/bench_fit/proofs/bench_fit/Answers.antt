use Rattle.std.proofs.Common.{ap, ◌∙◌}
use Rattle.image_rows.specs.Rows.{counts_in, counts_of}
use Rattle.machine_store.specs.Store.{records_of}
use Rattle.machine.specs.declared.Started.{Started}
use Rattle.bench_fit.specs.Laws.FitRounds.{counted_so}
use Rattle.bench_fit.proofs.bench_fit.Goals as goal

pub returns : goal.returns
unfolding counts_of
returns c = counted_so c.args.image.now c.args.pairs.now c.args.rounds _ _ _ c.body_of-body.ensures (c.counts_in-k.ensures ∙ ap counts_in c.trailer_of.ensures) (ap (λ (r : Started). records_of r.state) c.start-begun.ensures.0) c.lead_on.ensures c.fit_rounds.ensures
