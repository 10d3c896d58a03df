-- The words compute. Texts with the word that is read from a place on, and the first byte that is not allowed: two tables, each
-- under one claim. Kinds, values and places are document 01's ('Job text'), counted by hand.
use Rattle.std.specs.Prelude.{◌≡◌, refl, List, [], ◌∷◌, map, ℕ, Option, Some, None}
use Rattle.text_words.specs.Kinds.{Word}
use Rattle.text_words.specs.Words.{is_blank, is_digit, is_letter, is_allowed, in_word, run, reserved, same_word, differs, place_of, only_digits, leading_zero, is_number, decimal, numeral, kind_of, value_of, start_at, next_at, bytes_at, word_at, first_not_allowed}

-- A text, a place, and the word from there on: its kind (0 no word, 1 to 16 the reserved words in document 01's order, 17 a number, 18
-- any other), its value, its first byte and the place behind it.
record Example : Type 0 where
  text : List ℕ
  at : ℕ
  word : Word

abbrev example : List ℕ → ℕ → ℕ → ℕ → ℕ → ℕ → Example
example text at kind value start next = record { text = text; at = at; word = record { kind = kind; value = value; start = start; next = next } }

abbrev examples : List Example
examples =
    -- `chan`
    example (99 ∷ 104 ∷ 97 ∷ 110 ∷ []) 0 1 0 0 4
    -- `task`
    ∷ example (116 ∷ 97 ∷ 115 ∷ 107 ∷ []) 0 2 0 0 4
    -- `send`
    ∷ example (115 ∷ 101 ∷ 110 ∷ 100 ∷ []) 0 3 0 0 4
    -- `forward`
    ∷ example (102 ∷ 111 ∷ 114 ∷ 119 ∷ 97 ∷ 114 ∷ 100 ∷ []) 0 4 0 0 7
    -- `recv`
    ∷ example (114 ∷ 101 ∷ 99 ∷ 118 ∷ []) 0 5 0 0 4
    -- `close`
    ∷ example (99 ∷ 108 ∷ 111 ∷ 115 ∷ 101 ∷ []) 0 6 0 0 5
    -- `range`
    ∷ example (114 ∷ 97 ∷ 110 ∷ 103 ∷ 101 ∷ []) 0 7 0 0 5
    -- `repeat`
    ∷ example (114 ∷ 101 ∷ 112 ∷ 101 ∷ 97 ∷ 116 ∷ []) 0 8 0 0 6
    -- `ifok`
    ∷ example (105 ∷ 102 ∷ 111 ∷ 107 ∷ []) 0 9 0 0 4
    -- `else`
    ∷ example (101 ∷ 108 ∷ 115 ∷ 101 ∷ []) 0 10 0 0 4
    -- `select`
    ∷ example (115 ∷ 101 ∷ 108 ∷ 101 ∷ 99 ∷ 116 ∷ []) 0 11 0 0 6
    -- `case`
    ∷ example (99 ∷ 97 ∷ 115 ∷ 101 ∷ []) 0 12 0 0 4
    -- `default`
    ∷ example (100 ∷ 101 ∷ 102 ∷ 97 ∷ 117 ∷ 108 ∷ 116 ∷ []) 0 13 0 0 7
    -- `stop`
    ∷ example (115 ∷ 116 ∷ 111 ∷ 112 ∷ []) 0 14 0 0 4
    -- `end`
    ∷ example (101 ∷ 110 ∷ 100 ∷ []) 0 15 0 0 3
    -- `nil`
    ∷ example (110 ∷ 105 ∷ 108 ∷ []) 0 16 0 0 3
    -- no word: the empty text, blanks alone, a place behind the last word
    ∷ example [] 0 0 0 0 0
    ∷ example (32 ∷ 10 ∷ []) 0 0 0 2 2
    ∷ example (101 ∷ 110 ∷ 100 ∷ 32 ∷ []) 3 0 0 4 4
    -- words parted by blanks and newlines, which may lead
    ∷ example (32 ∷ 10 ∷ 10 ∷ 32 ∷ 101 ∷ 110 ∷ 100 ∷ 32 ∷ 32 ∷ 115 ∷ 116 ∷ 111 ∷ 112 ∷ []) 0 15 0 4 7
    ∷ example (32 ∷ 10 ∷ 10 ∷ 32 ∷ 101 ∷ 110 ∷ 100 ∷ 32 ∷ 32 ∷ 115 ∷ 116 ∷ 111 ∷ 112 ∷ []) 7 14 0 9 13
    -- numbers: `0`, `9`, `10`, `65535`
    ∷ example (48 ∷ []) 0 17 0 0 1
    ∷ example (57 ∷ []) 0 17 9 0 1
    ∷ example (49 ∷ 48 ∷ []) 0 17 10 0 2
    ∷ example (54 ∷ 53 ∷ 53 ∷ 51 ∷ 53 ∷ []) 0 17 65535 0 5
    -- capped at 65,536: `65536`, `65537`, `123456789`
    ∷ example (54 ∷ 53 ∷ 53 ∷ 51 ∷ 54 ∷ []) 0 17 65536 0 5
    ∷ example (54 ∷ 53 ∷ 53 ∷ 51 ∷ 55 ∷ []) 0 17 65536 0 5
    ∷ example (49 ∷ 50 ∷ 51 ∷ 52 ∷ 53 ∷ 54 ∷ 55 ∷ 56 ∷ 57 ∷ []) 0 17 65536 0 9
    -- no number, and no reserved word: `00`, `07`, `1a`, `a1`, `en`, `ends`, `enc`
    ∷ example (48 ∷ 48 ∷ []) 0 18 0 0 2
    ∷ example (48 ∷ 55 ∷ []) 0 18 0 0 2
    ∷ example (49 ∷ 97 ∷ []) 0 18 0 0 2
    ∷ example (97 ∷ 49 ∷ []) 0 18 0 0 2
    ∷ example (101 ∷ 110 ∷ []) 0 18 0 0 2
    ∷ example (101 ∷ 110 ∷ 100 ∷ 115 ∷ []) 0 18 0 0 4
    ∷ example (101 ∷ 110 ∷ 99 ∷ []) 0 18 0 0 3
    ∷ []

-- A text, and its first byte that is not allowed.
record Allowed : Type 0 where
  bytes : List ℕ
  first : Option ℕ

abbrev allowed : List ℕ → Option ℕ → Allowed
allowed bytes first = record { bytes = bytes; first = first }

abbrev texts : List Allowed
texts =
    -- none: the empty text; blank, newline, and the first and the last of the digits and the letters
    allowed [] None
    ∷ allowed (32 ∷ 10 ∷ 48 ∷ 57 ∷ 97 ∷ 122 ∷ []) None
    -- a tab; bytes 11, 13, 31 and 33
    ∷ allowed (9 ∷ []) (Some 0)
    ∷ allowed (97 ∷ 11 ∷ []) (Some 1)
    ∷ allowed (32 ∷ 13 ∷ []) (Some 1)
    ∷ allowed (31 ∷ []) (Some 0)
    ∷ allowed (33 ∷ []) (Some 0)
    -- the bytes beside the digits, 47 and 58, and beside the letters, 96 and 123
    ∷ allowed (48 ∷ 47 ∷ 58 ∷ []) (Some 1)
    ∷ allowed (58 ∷ 58 ∷ []) (Some 0)
    ∷ allowed (97 ∷ 97 ∷ 96 ∷ []) (Some 2)
    ∷ allowed (122 ∷ 123 ∷ []) (Some 1)
    -- a capital; byte 0; byte 255
    ∷ allowed (65 ∷ []) (Some 0)
    ∷ allowed (0 ∷ []) (Some 0)
    ∷ allowed (97 ∷ 255 ∷ []) (Some 1)
    ∷ []

examples_hold : map (λ e. word_at e.text e.at) examples ≡ map (λ e. e.word) examples
unfolding is_blank is_digit is_letter is_allowed in_word run reserved same_word differs place_of only_digits leading_zero is_number decimal numeral kind_of value_of start_at next_at bytes_at word_at
examples_hold = refl

allowed_hold : map (λ e. first_not_allowed e.bytes) texts ≡ map (λ e. e.first) texts
unfolding is_blank is_digit is_letter is_allowed run first_not_allowed
allowed_hold = refl
