-- The words of a job text: document 01, 'Job text'. A text is a list of bytes, and so is a word.
use Rattle.std.specs.Prelude.{Bool, true, false, cond, not, ◌&&◌, ◌||◌, List, [], ◌∷◌, ℕ, suc, ◌+◌, ◌-◌, ◌*◌, min, eqb, leb, ltb, length, get_or, take, drop, Option, Some, None}
use Rattle.meaning.specs.Numbers.{value_limit}
use Rattle.text_words.specs.Kinds.{Word}

-- "Bytes a to z, 0 to 9, blank (32) and newline (10)". Words are parted by the last two.
unfoldable pub is_blank : ℕ → Bool
is_blank b = eqb b 32 || eqb b 10

unfoldable pub is_digit : ℕ → Bool
is_digit b = leb 48 b && leb b 57

unfoldable pub is_letter : ℕ → Bool
is_letter b = leb 97 b && leb b 122

unfoldable pub is_allowed : ℕ → Bool
is_allowed b = is_letter b || is_digit b || is_blank b

unfoldable pub in_word : ℕ → Bool
in_word b = not (is_blank b)

-- How many of a list's first elements pass.
unfoldable pub run : {A : Type 0} → (A → Bool) → List A → ℕ
run p [] = 0
run p (x ∷ xs) = cond (p x) (suc (run p xs)) 0

-- "The sixteen reserved words stand in one fixed table: chan, task, send, forward, recv, close, range, repeat, ifok, else, select,
-- case, default, stop, end, nil."
unfoldable pub reserved : List (List ℕ)
reserved =
    (99 ∷ 104 ∷ 97 ∷ 110 ∷ [])  -- chan
    ∷ (116 ∷ 97 ∷ 115 ∷ 107 ∷ [])  -- task
    ∷ (115 ∷ 101 ∷ 110 ∷ 100 ∷ [])  -- send
    ∷ (102 ∷ 111 ∷ 114 ∷ 119 ∷ 97 ∷ 114 ∷ 100 ∷ [])  -- forward
    ∷ (114 ∷ 101 ∷ 99 ∷ 118 ∷ [])  -- recv
    ∷ (99 ∷ 108 ∷ 111 ∷ 115 ∷ 101 ∷ [])  -- close
    ∷ (114 ∷ 97 ∷ 110 ∷ 103 ∷ 101 ∷ [])  -- range
    ∷ (114 ∷ 101 ∷ 112 ∷ 101 ∷ 97 ∷ 116 ∷ [])  -- repeat
    ∷ (105 ∷ 102 ∷ 111 ∷ 107 ∷ [])  -- ifok
    ∷ (101 ∷ 108 ∷ 115 ∷ 101 ∷ [])  -- else
    ∷ (115 ∷ 101 ∷ 108 ∷ 101 ∷ 99 ∷ 116 ∷ [])  -- select
    ∷ (99 ∷ 97 ∷ 115 ∷ 101 ∷ [])  -- case
    ∷ (100 ∷ 101 ∷ 102 ∷ 97 ∷ 117 ∷ 108 ∷ 116 ∷ [])  -- default
    ∷ (115 ∷ 116 ∷ 111 ∷ 112 ∷ [])  -- stop
    ∷ (101 ∷ 110 ∷ 100 ∷ [])  -- end
    ∷ (110 ∷ 105 ∷ 108 ∷ [])  -- nil
    ∷ []

unfoldable pub same_word : List ℕ → List ℕ → Bool
same_word [] [] = true
same_word [] (y ∷ ys) = false
same_word (x ∷ xs) [] = false
same_word (x ∷ xs) (y ∷ ys) = eqb x y && same_word xs ys

-- A word's place among the reserved words: how many of them differ from it ahead of it, all sixteen where it is none of them.
unfoldable pub differs : List ℕ → List ℕ → Bool
differs w r = not (same_word w r)

unfoldable pub place_of : List ℕ → ℕ
place_of w = run (differs w) reserved

-- "A number is digits only, with no leading 0 unless it is `0`." It has a digit.
unfoldable pub only_digits : List ℕ → Bool
only_digits w = eqb (run is_digit w) (length w)

unfoldable pub leading_zero : List ℕ → Bool
leading_zero w = ltb 1 (length w) && eqb (get_or w 0 0) 48

unfoldable pub is_number : List ℕ → Bool
is_number w = not (eqb (length w) 0) && not (leading_zero w) && only_digits w

-- The value of the digits w behind digits of value v.
unfoldable pub decimal : ℕ → List ℕ → ℕ
decimal v [] = v
decimal v (b ∷ w) = decimal (10 * v + (b - 48)) w

-- A number's value, capped: the cap is over every range, V's and so all others, and stands for every number that is.
abbrev pub number_cap : ℕ
number_cap = suc value_limit

unfoldable pub numeral : List ℕ → ℕ
numeral w = min number_cap (decimal 0 w)

-- The kinds of words, as numbers: 0 where the text has ended, k + 1 for reserved word k, 17 for a number, 18 for any other word.
abbrev pub no_kind : ℕ
no_kind = 0

abbrev pub chan_kind : ℕ
chan_kind = 1

abbrev pub task_kind : ℕ
task_kind = 2

abbrev pub send_kind : ℕ
send_kind = 3

abbrev pub forward_kind : ℕ
forward_kind = 4

abbrev pub recv_kind : ℕ
recv_kind = 5

abbrev pub close_kind : ℕ
close_kind = 6

abbrev pub range_kind : ℕ
range_kind = 7

abbrev pub repeat_kind : ℕ
repeat_kind = 8

abbrev pub ifok_kind : ℕ
ifok_kind = 9

abbrev pub else_kind : ℕ
else_kind = 10

abbrev pub select_kind : ℕ
select_kind = 11

abbrev pub case_kind : ℕ
case_kind = 12

abbrev pub default_kind : ℕ
default_kind = 13

abbrev pub stop_kind : ℕ
stop_kind = 14

-- The word `end`; where the text has ended, the kind is `no_kind`.
abbrev pub end_kind : ℕ
end_kind = 15

abbrev pub nil_kind : ℕ
nil_kind = 16

abbrev pub number_kind : ℕ
number_kind = 17

abbrev pub other_kind : ℕ
other_kind = 18

-- No word stands where the text has ended.
unfoldable pub kind_of : List ℕ → ℕ
kind_of w =
    cond (eqb (length w) 0) no_kind
    (cond (ltb (place_of w) 16) (place_of w + 1)
    (cond (is_number w) number_kind other_kind))

unfoldable pub value_of : List ℕ → ℕ
value_of w = cond (is_number w) (numeral w) 0

-- Where the next word from a place on begins, the place behind it, and its bytes.
unfoldable pub start_at : List ℕ → ℕ → ℕ
start_at text at = at + run is_blank (drop at text)

unfoldable pub next_at : List ℕ → ℕ → ℕ
next_at text at = start_at text at + run in_word (drop (start_at text at) text)

unfoldable pub bytes_at : List ℕ → ℕ → List ℕ
bytes_at text at = take (next_at text at - start_at text at) (drop (start_at text at) text)

-- The next word of a text from a place on.
unfoldable pub word_at : List ℕ → ℕ → Word
word_at text at = record { kind = kind_of (bytes_at text at); value = value_of (bytes_at text at); start = start_at text at; next = next_at text at }

-- The first byte of a text that is not allowed.
unfoldable pub first_not_allowed : List ℕ → Option ℕ
first_not_allowed text = cond (ltb (run is_allowed text) (length text)) (Some (run is_allowed text)) None
