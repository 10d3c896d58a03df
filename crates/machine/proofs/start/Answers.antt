use Rattle.image_rows.specs.Rows.{counts_in, counts_of}
use Rattle.meaning.specs.Bytes.{task_count}
use Rattle.image_check.specs.Laws.Sound.{good_sound}
use Rattle.machine.specs.Laws.Start.{started_means}
use Rattle.machine.specs.Public.{started}
use native.Mathlib.Omega.{arith}
use mathlib.Core.Path.{◌≡◌, sym, ap, ◌∙◌}
use Rattle.machine.proofs.start.Goals as goal

pub start_as-requires : goal.start_as-requires
unfolding counts_in task_count
start_as-requires c = λ g.
    let bs = c.args.image.now in
    let k = c.counts_in in
    let z : k.result.tasks ≡ task_count bs = ap (λ k. k.tasks) (k.ensures ∙ ap counts_in c.trailer_of.ensures) in
    omega (arith, z, (good_sound bs (sym c.check-answer.ensures ∙ g)).most_tasks)

pub returns : goal.returns
unfolding started counts_of
returns c =
    let bs = c.args.image.now in
    let check = c.check-answer.ensures in
    let body = c.body_of.ensures in
    let trailer = c.trailer_of.ensures in
    let counts = c.counts_in.ensures in
    let e : c.start_as.result ≡ started bs = rw (← check, ← trailer, ← counts, ← body) c.start_as.ensures in
    (e, λ good. started_means bs good c.start_as.result e)
