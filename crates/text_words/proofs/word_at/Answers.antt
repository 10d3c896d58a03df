use mathlib.Core.Path.{sym, ◌∙◌}
use Rattle.text_words.specs.Words.{start_at}
use Rattle.text_words.specs.Laws.Words.{start_no_blank, ended_word}
use Rattle.text_words.proofs.Firsts.{word_from_lem}
use Rattle.text_words.proofs.word_at.Goals as goal

pub returns-then-text-start : goal.returns-then-text-start
unfolding start_at
returns-then-text-start c =
    let a = c.args in
    let s = c.skip_blanks-start.ensures in
    rw s (sym (ended_word a.text.now a.at (rw s at c.if-text-start.true)))

pub number_at-requires : goal.number_at-requires
number_at-requires c = (c.if-text-start.false, sym c.is_digit.ensures ∙ c.if-is_digit.true)

pub returns-then-is_digit : goal.returns-then-is_digit
unfolding start_at
returns-then-is_digit c =
    let a = c.args in
    c.number_at.ensures ∙ rw c.skip_blanks-start.ensures (word_from_lem a.text.now a.at)

pub letters_at-requires : goal.letters_at-requires
unfolding start_at
letters_at-requires c =
    let a = c.args in
    let s = c.skip_blanks-start.ensures in
    let h = c.if-text-start.false in
    (h, rw s (start_no_blank a.text.now a.at (rw s at h)), sym c.is_digit.ensures ∙ c.if-is_digit.false)

pub returns : goal.returns
unfolding start_at
returns c =
    let a = c.args in
    c.letters_at.ensures ∙ rw c.skip_blanks-start.ensures (word_from_lem a.text.now a.at)
