use mathlib.Core.Path.{◌∙◌}
use native.Mathlib.Omega.{arith}
use Rattle.text_words.specs.Words.{in_word}
use Rattle.text_words.specs.Laws.Words.{run_more, run_stop, run_end}
use Rattle.text_words.proofs.word_end.Goals as goal

pub loop-i-preserved : goal.loop-i-preserved
unfolding in_word
loop-i-preserved c =
    let i = c.loop-i.i in
    run_more in_word _ i 0 (omega arith) (rw (← c.is_blank.ensures, c.if-is_blank.false)) ∙ c.loop-i.invariant

pub returns-then-is_blank : goal.returns-then-is_blank
unfolding in_word
returns-then-is_blank c =
    let i = c.loop-i.i in
    run_stop in_word _ i 0 (omega arith) (rw (← c.is_blank.ensures, c.if-is_blank.true)) ∙ c.loop-i.invariant

pub returns : goal.returns
returns c = omega (arith, c.loop-i.invariant, run_end in_word c.args.text.now c.loop-i.i (omega arith))
