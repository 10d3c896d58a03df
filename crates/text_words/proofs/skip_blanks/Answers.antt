use mathlib.Core.Path.{sym, ◌∙◌}
use native.Mathlib.Omega.{arith}
use Rattle.text_words.specs.Words.{is_blank}
use Rattle.text_words.specs.Laws.Words.{run_more, run_stop, run_end}
use Rattle.text_words.proofs.skip_blanks.Goals as goal

pub loop-i-preserved : goal.loop-i-preserved
loop-i-preserved c =
    let i = c.loop-i.i in
    run_more is_blank _ i 0 (omega arith) (sym c.is_blank.ensures ∙ c.if-not-is_blank.false) ∙ c.loop-i.invariant

pub returns-then-not-is_blank : goal.returns-then-not-is_blank
returns-then-not-is_blank c =
    let i = c.loop-i.i in
    run_stop is_blank _ i 0 (omega arith) (sym c.is_blank.ensures ∙ c.if-not-is_blank.true) ∙ c.loop-i.invariant

pub returns : goal.returns
returns c = omega (arith, c.loop-i.invariant, run_end is_blank c.args.text.now c.loop-i.i (omega arith))
