use Rattle.bench.proofs.bench_rounds.Goals as goal

pub returns : goal.returns
returns c = c.after_pairs.ensures
