-- The lines of a listing, as bytes: document 01, 'A listing, whole'.
use Rattle.std.specs.Prelude.{◌≡◌, Bool, true, false, cond, List, [], ◌∷◌, ◌++◌, ℕ, zero, suc, ◌+◌, ◌/◌, ◌%◌, ◌≤◌, ltb, length, take}
use Rattle.meaning.specs.Statuses.{status_number}
use Rattle.listing_lines.specs.Kinds.{Chan, Task, ChanState, TaskState, Line, EventNumbers}

-- A line shows its bytes, 128 at the most: a text. And one line that shows more than another, by these bytes.
abbrev pub line_size : ℕ
line_size = 128

abbrev pub text_of : Line → List ℕ
text_of l = l.bytes

abbrev pub Shows : Line → List ℕ → Type 0
Shows l text = (length (text_of l) ≤ line_size) × (text_of l ≡ text)

abbrev pub Adds : Line → List ℕ → Line → Type 0
Adds l text r = text_of r ≡ text_of l ++ text

abbrev pub Blank : Line → Type 0
Blank l = text_of l ≡ []

-- A number in decimal digits, with no leading 0 unless it is 0: the digits of a tenth of it, then its last digit. A number n has
-- at most n digits, or one.
unfoldable pub digits : ℕ → ℕ → List ℕ
digits zero n = (48 + n) ∷ []
digits (suc k) n = cond (ltb n 10) ((48 + n) ∷ []) (digits k (n / 10) ++ ((48 + n % 10) ∷ []))

abbrev pub decimal_of : ℕ → List ℕ
decimal_of n = digits n n

-- Numbers, each behind a blank, and a line of such: what stands first, the numbers, newline.
unfoldable pub spaced : List ℕ → List ℕ
spaced [] = []
spaced (n ∷ ns) = 32 ∷ decimal_of n ++ spaced ns

abbrev pub line_of : List ℕ → List ℕ → List ℕ
line_of first ns = first ++ spaced ns ++ (10 ∷ [])

abbrev pub flag : Bool → ℕ
flag false = 0
flag true = 1

-- "A refused text prints only `refused` number place"
abbrev pub refused_word : List ℕ
refused_word = 114 ∷ 101 ∷ 102 ∷ 117 ∷ 115 ∷ 101 ∷ 100 ∷ []

abbrev pub refused_line : ℕ → ℕ → List ℕ
refused_line number place = line_of refused_word (number ∷ place ∷ [])

-- "Lines: pair number, task, event, channel, value, partner."
abbrev pub turn_line : ℕ → ℕ → EventNumbers → List ℕ
turn_line pair task e = line_of (decimal_of pair) (task ∷ e.number ∷ e.channel ∷ e.value ∷ e.partner ∷ [])

-- "Then task, status .., register, ok, row.": "status (0 able to move, 1 waiting, 2 ended)" is `status_number`, meaning/specs/Statuses.
abbrev pub task_word : List ℕ
task_word = 116 ∷ 97 ∷ 115 ∷ 107 ∷ []

abbrev pub task_line : Task → TaskState → List ℕ
task_line t x = line_of task_word (t.0 ∷ status_number x.status ∷ x.register ∷ flag x.ok ∷ x.row.0 ∷ [])

-- "Then channel, closed, length, values oldest first."
abbrev pub chan_word : List ℕ
chan_word = 99 ∷ 104 ∷ 97 ∷ 110 ∷ []

abbrev pub chan_line : Chan → ChanState → List ℕ → List ℕ
chan_line c x values = line_of chan_word (c.0 ∷ flag x.closed ∷ x.len ∷ take x.len values)

-- "Then stamp and fault (0 none)."
abbrev pub stamp_word : List ℕ
stamp_word = 115 ∷ 116 ∷ 97 ∷ 109 ∷ 112 ∷ []

abbrev pub stamp_line : ℕ → ℕ → List ℕ
stamp_line stamp fault = line_of stamp_word (stamp ∷ fault ∷ [])

-- "the line `input too long`"; "a bad or odd schedule prints only `bad schedule`"
abbrev pub bad_schedule_line : List ℕ
bad_schedule_line = 98 ∷ 97 ∷ 100 ∷ 32 ∷ 115 ∷ 99 ∷ 104 ∷ 101 ∷ 100 ∷ 117 ∷ 108 ∷ 101 ∷ 10 ∷ []

abbrev pub too_long_line : List ℕ
too_long_line = 105 ∷ 110 ∷ 112 ∷ 117 ∷ 116 ∷ 32 ∷ 116 ∷ 111 ∷ 111 ∷ 32 ∷ 108 ∷ 111 ∷ 110 ∷ 103 ∷ 10 ∷ []
