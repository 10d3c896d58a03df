use Rattle.std.proofs.Common.{◌≡◌, ℕ, ◌&&◌, List, [], ◌∷◌, nat_eq, refl, ap}
use Rattle.std.specs.Cmp.Lexicographic.{pointwise}
use Rattle.text_words.specs.Words.{same_word}
use Rattle.listing_input.specs.Input.{run_word}
use Rattle.listing_input.proofs.begins_run.Goals as goal

-- Two words are the same where the library's test of two slices says so.
same_slices : (u w : List ℕ) → pointwise nat_eq u w ≡ same_word u w
unfolding same_word
same_slices [] [] = refl
same_slices [] (y ∷ w) = refl
same_slices (x ∷ u) [] = refl
same_slices (x ∷ u) (y ∷ w) = ap (λ b. nat_eq x y && b) (same_slices u w)

pub returns-then-begins : goal.returns-then-begins
returns-then-begins c =
    rw (c.eq.ensures, c.first_line.ensures, c.as_slice.ensures, c.if-begins.true) (same_slices _ run_word)
