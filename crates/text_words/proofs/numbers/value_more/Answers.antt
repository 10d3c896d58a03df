use native.Mathlib.Omega.{arith}
use Rattle.text_words.specs.Laws.Words.{digit_bounds}
use Rattle.text_words.proofs.numbers.value_more.Goals as goal

pub overflow_sub-result : goal.overflow_sub-result
overflow_sub-result c = let b = digit_bounds _ c.requires.1 in omega arith
