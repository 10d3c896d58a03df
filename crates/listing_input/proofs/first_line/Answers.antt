use Rattle.std.proofs.Common.{◌≡◌, ℕ, suc, ◌+◌, ◌≤◌, List, [], ◌∷◌, length, take, unwrap_or, Bool, cond, not, Some, None, refl, ap, arith, rules, tests, eqb, ltb}
use Rattle.std.specs.List.{position_or_len}
use Rattle.std.proofs.lemmas.Iterator.{YieldsList-from_slice}
use Rattle.std.proofs.lemmas.Iterator.Search.{position_from_yields_List}
use Rattle.text_words.specs.Words.{run}
use Rattle.text_words.specs.Laws.Words.{run_within}
use Rattle.listing_input.specs.Input.{in_line}
use Rattle.listing_input.proofs.first_line.Goals as goal

abbrev newline : ℕ → Bool
newline b = eqb b 10

-- The first newline, or the text's end, is as far as the line goes.
line_goes_on : (l : List ℕ) → position_or_len newline l ≡ run in_line l
unfolding run
line_goes_on [] = refl
line_goes_on (x ∷ l) =
    let e : 1 + position_or_len newline l ≡ suc (run in_line l) = omega (arith, line_goes_on l) in
    ap (λ n. cond (not (newline x)) n 0) e

found_or : (n m : ℕ) → n ≤ m → unwrap_or (cond (ltb n m) (Some n) None) m ≡ n
found_or n m h = grind arith

pub returns : goal.returns
returns c =
    let l = c.args.text.now in
    let found = position_from_yields_List newline _ _ c.position.result c.position.ensures.ran (YieldsList-from_slice _ c.iter.ensures.rest) (λ x b q k. search (rules, tests)) in
    rw (c.unwrap_or-end.ensures, found, line_goes_on l) (ap (λ n. take n l) (found_or (run in_line l) (length l) (run_within in_line l)))
