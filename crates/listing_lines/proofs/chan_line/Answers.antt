use Rattle.std.proofs.Common.{◌≡◌, ℕ, List, [], ◌∷◌, ◌++◌, ◌∙◌, rules, take, length}
use Rattle.listing_lines.specs.Lines.{chan_word, spaced, Adds}
use Rattle.listing_lines.specs.Laws.Lines.{adds_more, shows_line, line_append, take_most}
use Rattle.listing_lines.proofs.chan_line.Goals as goal

pub returns : goal.returns
returns c =
    let a = c.args in
    let ns : List ℕ = c.from.result ∷ c.from-2.result ∷ c.from-3.result ∷ [] in
    let vs : List ℕ = take c.min-shown.result a.values in
    let named : Adds c.blank-line.result (chan_word ++ spaced ns) c.numbers.new.self = adds_more c.blank-line.result c.word.new.self c.numbers.new.self chan_word (spaced ns) c.word.ensures.shown c.numbers.ensures.shown in
    let s = shows_line c.blank-line.result c.numbers.new.self c.end.new.self (chan_word ++ spaced ns) vs c.blank-line.ensures named c.end.ensures.shown c.end.ensures.most in
    let all : length a.values ≡ 16 = search rules in
    let v : vs ≡ take a.x.len a.values = rw c.min-shown.ensures (take_most a.x.len a.values all) in
    let shown = s.1 ∙ line_append chan_word ns vs in
    (s.0, rw (c.from.ensures, c.from-2.ensures, c.from-3.ensures, v) at shown)
