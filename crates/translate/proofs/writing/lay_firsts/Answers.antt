use mathlib.Core.Path.{◌≡◌, refl, ◌∙◌}
use native.Mathlib.Omega.{arith}
use borrow.Author.Rules.{rules}
use lib.ListN.{length}
use Rattle.meaning.specs.Numbers.{task_limit}
use Rattle.translate.specs.Laws.Firsts.{firsts_begin, firsts_lap, firsts_end}
use Rattle.translate.proofs.writing.lay_firsts.Goals as goal

pub loop-t-init : goal.loop-t-init
loop-t-init c =
    let args = c.args in
    (refl, firsts_begin args.firsts args.out.now args.base args.tasks)

pub loop-t-preserved : goal.loop-t-preserved
loop-t-preserved c =
    let args = c.args in
    let put_two = c.put_two in
    let loop = c.loop-t in
    let n : length args.firsts ≡ task_limit = search rules in (
      put_two.auto.out ∙ loop.invariant.0,
      firsts_lap args.firsts loop.out args.base args.tasks loop.t c.loop-t-test.true (omega arith) refl put_two.ensures ∙ loop.invariant.1,
    )

pub returns : goal.returns
returns c =
    let args = c.args in
    let loop = c.loop-t in
    firsts_end args.firsts _ _ args.tasks loop.t c.loop-t-test.false ∙ loop.invariant.1
