-- The input of the listing program: document 01, 'A listing, whole'.
use Rattle.std.specs.Prelude.{Bool, true, cond, not, ◌&&◌, List, [], ◌∷◌, ℕ, zero, suc, ◌+◌, ◌/◌, ◌%◌, min, eqb, leb, length, take, Option, Some, None}
use Rattle.listing_input.specs.Kinds.{Word, Split, Pair}
use Rattle.text_words.specs.Words.{run, same_word, word_at, no_kind, number_kind}

-- "the job text up to a line `run`". A line begins at the input's start or behind a newline, and ends ahead of a newline or at
-- the input's end.
abbrev pub in_line : ℕ → Bool
in_line b = not (eqb b 10)

abbrev pub first_line : List ℕ → List ℕ
first_line l = take (run in_line l) l

abbrev pub run_word : List ℕ
run_word = 114 ∷ 117 ∷ 110 ∷ []

abbrev pub is_run : List ℕ → Bool
is_run l = same_word (first_line l) run_word

-- How many bytes stand ahead of the first line `run`: all where there is none. The mark says whether a line begins at the first
-- byte.
unfoldable pub text_length : Bool → List ℕ → ℕ
text_length begins [] = 0
text_length begins (b ∷ l) = cond (begins && is_run (b ∷ l)) 0 (suc (text_length (eqb b 10) l))

-- The text ends there, and the schedule begins four bytes on, behind `run` and its newline; at the input's end where that newline
-- or the line is missing: "No such line means no turns."
unfoldable pub split_of : List ℕ → Split
split_of input = record { text = text_length true input; rest = min (length input) (text_length true input + 4) }

-- "then numbers 0 to 255 in pairs, task and choice"
abbrev pub is_byte : Word → Bool
is_byte w = eqb w.kind number_kind && leb w.value 255

-- The words of a text from a place on, at most so many.
unfoldable pub words_from : ℕ → List ℕ → ℕ → List Word
words_from zero text at = []
words_from (suc k) text at = cond (eqb (word_at text at).kind no_kind) [] (word_at text at ∷ words_from k text (word_at text at).next)

-- Every word has a byte, so that these are all of them.
unfoldable pub words_of : List ℕ → List Word
words_of text = words_from (length text) text 0

-- "a bad or odd schedule" has no pairs: how many the words ws make behind n numbers.
abbrev pub ended : ℕ → Option ℕ
ended n = cond (eqb (n % 2) 0) (Some (n / 2)) None

unfoldable pub judged : ℕ → List Word → Option ℕ
judged n [] = ended n
judged n (w ∷ ws) = cond (is_byte w) (judged (n + 1) ws) None

unfoldable pub schedule_of : List ℕ → Option ℕ
schedule_of text = judged 0 (words_of text)

-- The pairs that a list of words makes.
unfoldable pub pairs_in : List Word → List (ℕ × ℕ)
pairs_in [] = []
pairs_in (v ∷ []) = []
pairs_in (v ∷ w ∷ ws) = (v.value, w.value) ∷ pairs_in ws

-- The pair that begins at a place.
unfoldable pub pair_at : List ℕ → ℕ → Pair
pair_at text at = record { task = (word_at text at).value % 256; choice = (word_at text (word_at text at).next).value % 256; next = (word_at text (word_at text at).next).next }
