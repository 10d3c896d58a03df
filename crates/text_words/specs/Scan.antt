-- How a word is told with one look at each of its bytes: what the private functions ensure. Nothing here has to be believed: that it
-- tells the word of `Words` is proved.
use Rattle.std.specs.Prelude.{Bool, cond, not, ◌&&◌, List, [], ◌∷◌, ℕ, ◌+◌, ◌-◌, ◌*◌, ◌%◌, ◌^◌, min, eqb, ltb, length, get_or, drop}
use Rattle.text_keys.specs.Keys.{gathered, key_of, searched}
use Rattle.text_words.specs.Kinds.{Word, Letters, Digits}
use Rattle.text_words.specs.Words.{is_digit, in_word, run, reserved, decimal, number_cap, other_kind, kind_of, value_of}

-- The elements at a list's front that pass: as many as the run has.
unfoldable pub front : {A : Type 0} → (A → Bool) → List A → List A
front p [] = []
front p (x ∷ xs) = cond (p x) (x ∷ front p xs) []

-- A word's bytes from a place on.
abbrev pub bytes_from : List ℕ → ℕ → List ℕ
bytes_from text at = front in_word (drop at text)

-- The key of a word's bytes from a place on, behind bytes of a key, and the place behind them.
unfoldable pub letters_from : List ℕ → ℕ → ℕ → Letters
letters_from text key at = record { key = gathered key (bytes_from text at); next = at + run in_word (drop at text) }

-- The kind that a key and a length tell, by the keys and lengths of the reserved words.
abbrev pub word_key : ℕ → ℕ
word_key k = key_of (get_or reserved k [])

abbrev pub word_size : ℕ → ℕ
word_size k = length (get_or reserved k [])

unfoldable pub kind_by : ℕ → ℕ → ℕ
kind_by key n = cond (ltb (searched word_key word_size key n) 16) (searched word_key word_size key n + 1) other_kind

-- One digit more, modulo 2 ^ 32.
abbrev pub value_more : ℕ → ℕ → ℕ
value_more v b = (10 * v + (b - 48)) % 2 ^ 32

-- Digits behind digits of value v: their value modulo 2 ^ 32, and the place behind them.
unfoldable pub digits_from : List ℕ → ℕ → ℕ → Digits
digits_from text v at = record { value = decimal v (front is_digit (drop at text)) % 2 ^ 32; next = at + run is_digit (drop at text) }

-- Whether n digits, of which this is the first, are a number: they do not begin with 0 unless alone, and the word ends behind them.
abbrev pub zero_led : ℕ → ℕ → Bool
zero_led first n = ltb 1 n && eqb first 48

abbrev pub ends_at : List ℕ → ℕ → Bool
ends_at text at = eqb (run in_word (drop at text)) 0

abbrev pub number_by : List ℕ → ℕ → ℕ → ℕ → Bool
number_by text first n next = not (zero_led first n) && ends_at text next

-- The value of a number of n digits, by their value modulo 2 ^ 32.
unfoldable pub value_by : ℕ → ℕ → ℕ
value_by v n = cond (ltb n 10) (min number_cap v) number_cap

-- The word that begins at a place.
unfoldable pub word_from : List ℕ → ℕ → Word
word_from text start =
    record {
      kind = kind_of (bytes_from text start);
      value = value_of (bytes_from text start);
      start = start;
      next = start + run in_word (drop start text);
    }
