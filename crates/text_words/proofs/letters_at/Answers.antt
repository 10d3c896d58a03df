use native.Mathlib.Omega.{arith}
use Rattle.text_words.proofs.Firsts.{end_is, letters_word}
use Rattle.text_words.proofs.letters_at.Goals as goal

pub overflow_sub-next : goal.overflow_sub-next
overflow_sub-next c =
    let a = c.args in
    let p = c.requires in
    omega (arith, end_is a.text.now a.start p.0 p.1 p.2 c.key_more.ensures c.letters_from-letters.ensures)

pub returns : goal.returns
returns c =
    let a = c.args in
    let p = c.requires in
    let b = c.shared_slice_known-1.given in
    let w = letters_word a.text.now a.start p.0 p.1 p.2 c.key_more.ensures c.letters_from-letters.ensures in
    rw c.kind_by.ensures (w (λ i. omega (arith, b i)))
