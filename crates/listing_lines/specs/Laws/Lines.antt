-- What is printed would be read back: the digits of a number are a number of document 01, with that value. The laws of lines that
-- are built up stand here too; the proofs of the code cite them. Assumes nothing.
use Rattle.std.specs.Prelude.{◌≡◌, refl, Bool, true, false, cond, ◌&&◌, List, [], ◌∷◌, ◌++◌, ℕ, zero, suc, ◌+◌, ◌-◌, ◌*◌, ◌/◌, ◌%◌, ◌≤◌, ◌<◌, min, eqb, leb, ltb, length, get_or, take}
use Rattle.std.proofs.Common.{sym, ap, ◌∙◌, append_assoc, append-nil, add-one, arith, lt-ltb, le-ltb, ltb-true, ltb-false, le-leb, leb-true, leb-false, eq-eqb, ne_eqb, length-append, take-suc, take_all}
use Rattle.std.proofs.Math.ListN.{get_or-append}
use Rattle.meaning.specs.Events.{event}
use Rattle.text_words.specs.Words.{run, is_digit, only_digits, leading_zero, is_number, decimal}
use Rattle.listing_lines.specs.Kinds.{Line}
use Rattle.listing_lines.specs.Lines.{line_size, text_of, Shows, Adds, Blank, digits, decimal_of, spaced, line_of, turn_line, chan_line}

-- DIGITS

-- A number of one digit, and one of more, at any number of steps.
digits_one : (k n : ℕ) → n < 10 → digits k n ≡ (48 + n) ∷ []
unfolding digits
digits_one zero n h = refl
digits_one (suc k) n h = rw (lt-ltb n 10 h)

digits_more : (k n : ℕ) → 10 ≤ n → digits (suc k) n ≡ digits k (n / 10) ++ ((48 + n % 10) ∷ [])
unfolding digits
digits_more k n h = rw (le-ltb n 10 h)

-- The number's own size is steps enough, and so is any larger number.
digits_same : (k j n : ℕ) → n ≤ k → n ≤ j → digits k n ≡ digits j n
digits_same zero j n h l = digits_one zero n (omega arith) ∙ sym (digits_one j n (omega arith))
digits_same (suc k) zero n h l = digits_one (suc k) n (omega arith) ∙ sym (digits_one zero n (omega arith))
digits_same (suc k) (suc j) n h l = go (ltb n 10) refl (digits_same k j (n / 10))
  where
    go : (b : Bool) → ltb n 10 ≡ b → (n / 10 ≤ k → n / 10 ≤ j → digits k (n / 10) ≡ digits j (n / 10)) → digits (suc k) n ≡ digits (suc j) n
    go true t r = let s = ltb-true n 10 t in digits_one (suc k) n s ∙ sym (digits_one (suc j) n s)
    go false t r =
        let s = ltb-false n 10 t in
        digits_more k n s ∙ ap (λ (l : List ℕ). l ++ ((48 + n % 10) ∷ [])) (r (omega arith) (omega arith)) ∙ sym (digits_more j n s)

pub decimal_one : (n : ℕ) → n < 10 → decimal_of n ≡ (48 + n) ∷ []
unfolding decimal_of
decimal_one n h = digits_one n n h

pub decimal_more : (n : ℕ) → 10 ≤ n → decimal_of n ≡ decimal_of (n / 10) ++ ((48 + n % 10) ∷ [])
unfolding decimal_of
decimal_more zero h = absurd (omega arith)
decimal_more (suc k) h = digits_more k (suc k) h ∙ ap (λ (l : List ℕ). l ++ ((48 + suc k % 10) ∷ [])) (digits_same k (suc k / 10) (suc k / 10) (omega arith) (omega arith))

pub digit_more : (n : ℕ) → 10 ≤ n → length (decimal_of n) ≡ length (decimal_of (n / 10)) + 1
digit_more n h = ap length (decimal_more n h) ∙ length-append (decimal_of (n / 10)) ((48 + n % 10) ∷ [])

-- A fact of the digits of every number: of one digit, and of more, from the digits ahead of the last.
digits_all : (P : ℕ → List ℕ → Type 0) → ((n : ℕ) → n < 10 → P n ((48 + n) ∷ [])) → ((n : ℕ) (l : List ℕ) → 10 ≤ n → P (n / 10) l → P n (l ++ ((48 + n % 10) ∷ []))) → (k n : ℕ) → n ≤ k → P n (digits k n)
digits_all P one more zero n h = rw (digits_one zero n (omega arith)) (one n (omega arith))
digits_all P one more (suc k) n h = go (ltb n 10) refl (digits_all P one more k (n / 10))
  where
    go : (b : Bool) → ltb n 10 ≡ b → (n / 10 ≤ k → P (n / 10) (digits k (n / 10))) → P n (digits (suc k) n)
    go true t r = let s = ltb-true n 10 t in rw (digits_one (suc k) n s) (one n s)
    go false t r = let s = ltb-false n 10 t in rw (digits_more k n s) (more n (digits k (n / 10)) s (r (omega arith)))

-- A number of 65,535 or less has at most five digits.
one_longer : (b c : ℕ) → ((k n : ℕ) → n < b → length (digits k n) ≤ suc c) → (k n : ℕ) → n < 10 * b → length (digits k n) ≤ suc (suc c)
unfolding digits
one_longer b c f zero n h = omega arith
one_longer b c f (suc k) n h = go (ltb n 10) refl
  where
    go : (t : Bool) → ltb n 10 ≡ t → length (digits (suc k) n) ≤ suc (suc c)
    go true t = rw (digits_one (suc k) n (ltb-true n 10 t)) (omega arith)
    go false t = rw (digits_more k n (ltb-false n 10 t)) (omega (arith, length-append (digits k (n / 10)) ((48 + n % 10) ∷ []), f k (n / 10) (omega arith)))

pub decimal-length : (n : ℕ) → n < 65536 → length (decimal_of n) ≤ 5
unfolding decimal_of
decimal-length n h =
    let one : (k n : ℕ) → n < 10 → length (digits k n) ≤ 1 = λ k n l. rw (digits_one k n l) (omega arith) in
    one_longer 10000 3 (one_longer 1000 2 (one_longer 100 1 (one_longer 10 0 one))) n n (omega arith)

-- READ BACK

decimal-append : (v : ℕ) (u w : List ℕ) → decimal v (u ++ w) ≡ decimal (decimal v u) w
unfolding decimal
decimal-append v [] w = refl
decimal-append v (b ∷ u) w = decimal-append (10 * v + (b - 48)) u w

pub decimal_back : (n : ℕ) → decimal 0 (decimal_of n) ≡ n
unfolding decimal decimal_of
decimal_back n = digits_all (λ n l. decimal 0 l ≡ n) (λ n h. omega arith) (λ n l h e. decimal-append 0 l ((48 + n % 10) ∷ []) ∙ rw e (omega arith)) n n (omega arith)

is_digit_lem : (d : ℕ) → d < 10 → is_digit (48 + d) ≡ true
unfolding is_digit
is_digit_lem d h = rw (le-leb 48 (48 + d) (omega arith), le-leb (48 + d) 57 (omega arith))

run_all : (l : List ℕ) (d : ℕ) → run is_digit l ≡ length l → d < 10 → run is_digit (l ++ ((48 + d) ∷ [])) ≡ length (l ++ ((48 + d) ∷ []))
unfolding run
run_all [] d e h = rw (is_digit_lem d h)
run_all (b ∷ l) d e h = go (is_digit b) e (run_all l d)
  where
    go : (t : Bool) → cond t (suc (run is_digit l)) 0 ≡ suc (length l) → (run is_digit l ≡ length l → d < 10 → run is_digit (l ++ ((48 + d) ∷ [])) ≡ length (l ++ ((48 + d) ∷ []))) → cond t (suc (run is_digit (l ++ ((48 + d) ∷ [])))) 0 ≡ suc (length (l ++ ((48 + d) ∷ [])))
    go true e r = ap suc (r (omega arith) h)
    go false e r = absurd (omega arith)

-- Digits with no leading 0, unless the number is 0.
abbrev Digits : ℕ → List ℕ → Type 0
Digits n l = (0 < length l) × (run is_digit l ≡ length l) × ((0 < n) → get_or l 0 0 ≡ 48 → ⊥) × ((n < 10) → length l ≡ 1)

all_digits : (n : ℕ) → Digits n (decimal_of n)
unfolding decimal_of run
all_digits n =
    digits_all Digits
    (λ n h. (omega arith, rw (is_digit_lem n h), λ p e. omega arith, λ _. refl))
    (λ n l h r. (
      omega (arith, length-append l ((48 + n % 10) ∷ [])),
      run_all l (n % 10) r.1 (omega arith),
      λ p e. r.2 (omega arith) (sym (get_or-append l ((48 + n % 10) ∷ []) 0 0 r.0) ∙ e),
      λ q. absurd (omega arith),
    )) n n (omega arith)

-- More than one digit, and the number is not 0.
not_zero : (n : ℕ) → 1 < length (decimal_of n) → 0 < n
not_zero zero h = let e = (all_digits 0).3 (omega arith) in absurd (omega arith)
not_zero (suc n) h = omega arith

pub decimal_number : (n : ℕ) → is_number (decimal_of n) ≡ true
unfolding is_number leading_zero only_digits
decimal_number n =
    let d = all_digits n in
    let z : length (decimal_of n) ≡ 0 → ⊥ = λ e. omega arith in
    rw (ne_eqb (length (decimal_of n)) 0 z, eq-eqb _ _ d.1, no_zero (ltb 1 (length (decimal_of n))) refl)
  where
    no_zero : (b : Bool) → ltb 1 (length (decimal_of n)) ≡ b → (b && eqb (get_or (decimal_of n) 0 0) 48) ≡ false
    no_zero false t = refl
    no_zero true t = ne_eqb (get_or (decimal_of n) 0 0) 48 ((all_digits n).2 (not_zero n (ltb-true 1 (length (decimal_of n)) t)))

-- LINES

-- A line that is built up: nothing added yet, and two parts one after the other.
pub adds_none : (l : Line) → Adds l [] l
adds_none l = sym (append-nil (text_of l))

pub adds_more : (l m r : Line) (u w : List ℕ) → Adds l u m → Adds m w r → Adds l (u ++ w) r
adds_more l m r u w a b = b ∙ ap (λ (t : List ℕ). t ++ w) a ∙ append_assoc (text_of l) u w

-- One byte more of a word, one number more of a list.
pub adds_byte : (l m r : Line) (w : List ℕ) (i : ℕ) → i < length w → Adds l (take i w) m → Adds m (get_or w i 0 ∷ []) r → Adds l (take (i + 1) w) r
adds_byte l m r w i h a b = rw (add-one i, take-suc w i 0 h) (adds_more l m r (take i w) (get_or w i 0 ∷ []) a b)

spaced-append : (u w : List ℕ) → spaced (u ++ w) ≡ spaced u ++ spaced w
unfolding spaced
spaced-append [] w = refl
spaced-append (n ∷ u) w = rw (spaced-append u w) (sym (append_assoc (32 ∷ decimal_of n) (spaced u) (spaced w)))

spaced_one : (n : ℕ) → spaced (n ∷ []) ≡ (32 ∷ []) ++ decimal_of n
unfolding spaced
spaced_one n = append-nil (32 ∷ decimal_of n)

pub adds_number : (l m k r : Line) (ns : List ℕ) (i : ℕ) → i < length ns → Adds l (spaced (take i ns)) m → Adds m (32 ∷ []) k → Adds k (decimal_of (get_or ns i 0)) r → Adds l (spaced (take (i + 1) ns)) r
adds_number l m k r ns i h a b c =
    rw (add-one i, take-suc ns i 0 h, spaced-append (take i ns) (get_or ns i 0 ∷ []), spaced_one (get_or ns i 0))
    (adds_more l m r (spaced (take i ns)) ((32 ∷ []) ++ decimal_of (get_or ns i 0)) a (adds_more m k r (32 ∷ []) (decimal_of (get_or ns i 0)) b c))

-- What a line shows that was built up from a blank one: a text alone, and a first part with numbers and the newline.
pub shows_all : (l r : Line) (w : List ℕ) → Blank l → Adds l w r → length (text_of r) ≤ line_size → Shows r w
shows_all l r w e a h = (h, a ∙ ap (λ (t : List ℕ). t ++ w) e)

pub shows_word : (l r : Line) (w : List ℕ) → length w ≤ line_size → Blank l → Adds l w r → Shows r w
shows_word l r w h e a = let t = a ∙ ap (λ (u : List ℕ). u ++ w) e in (omega (arith, h, ap length t), t)

pub shows_line : (l m r : Line) (first ns : List ℕ) → Blank l → Adds l first m → Adds m (spaced ns ++ (10 ∷ [])) r → length (text_of r) ≤ line_size → Shows r (line_of first ns)
shows_line l m r first ns e a b h = rw (append_assoc first (spaced ns) (10 ∷ [])) (shows_all l r (first ++ (spaced ns ++ (10 ∷ []))) e (adds_more l m r first (spaced ns ++ (10 ∷ [])) a b) h)

-- Only one line shows a text, and it has the text's length.
pub shown_length : (l : Line) (text : List ℕ) → Shows l text → length (text_of l) ≡ length text
shown_length l text s = ap length s.1

shown_bytes : (l : Line) (text : List ℕ) → Shows l text → l.bytes ≡ text
shown_bytes l text s = s.1

pub shown_once : (l r : Line) (text : List ℕ) → Shows l text → Shows r text → l ≡ r
shown_once l r text s t = ap (λ (b : List ℕ). record { bytes = b }) (shown_bytes l text s ∙ sym (shown_bytes r text t))

-- Numbers in two parts.
pub line_append : (first ns ms : List ℕ) → line_of (first ++ spaced ns) ms ≡ line_of first (ns ++ ms)
unfolding line_of
line_append first ns ms = rw (spaced-append ns ms, append_assoc first (spaced ns) (spaced ms))

-- The first n of sixteen values.
pub take_most : (n : ℕ) (l : List ℕ) → length l ≡ 16 → take (min 16 n) l ≡ take n l
take_most n l e = go (leb n 16) refl
  where
    go : (b : Bool) → leb n 16 ≡ b → take (min 16 n) l ≡ take n l
    go true t = let h = leb-true n 16 t in let q : min 16 n ≡ n = omega arith in rw q
    go false t = let h = leb-false n 16 t in take_all (min 16 n) l (omega arith) ∙ sym (take_all n l (omega arith))

-- Two lines of document 01's listing, `0 0 1 0 7 255` and `chan 0 1 0`.
listed_turn : turn_line 0 0 (event 1 0 7 255) ≡ 48 ∷ 32 ∷ 48 ∷ 32 ∷ 49 ∷ 32 ∷ 48 ∷ 32 ∷ 55 ∷ 32 ∷ 50 ∷ 53 ∷ 53 ∷ 10 ∷ []
unfolding turn_line line_of spaced decimal_of digits
listed_turn = refl

listed_chan : chan_line (record { 0 = 0 }) (record { closed = true; len = 0 }) (7 ∷ 9 ∷ []) ≡ 99 ∷ 104 ∷ 97 ∷ 110 ∷ 32 ∷ 48 ∷ 32 ∷ 49 ∷ 32 ∷ 48 ∷ 10 ∷ []
unfolding chan_line line_of spaced decimal_of digits
listed_chan = refl
