-- A word by its first byte. One that begins with a digit is a number or none of the words; one that begins with any other byte is no
-- number. Assumes nothing.
use mathlib.Core.Path.{◌≡◌, refl, sym, ap, ◌∙◌}
use mathlib.Core.Bool.{Bool, true, false, true≢false, not, ◌&&◌, and-false}
use mathlib.Core.List.{List, []}
use Prim.Native.Nat.{ℕ, ◌+◌, ◌-◌, ◌%◌, ◌^◌, ◌≤◌, ◌<◌}
use native.Mathlib.Nat.{add-sub_cancel_left}
use native.Mathlib.Omega.{arith}
use borrow.Author.Tests.{eq-eqb, ne_eqb, eqb-true, eqb-false, le-ltb, ltb-true, ltb-false, not-true}
use lib.Dec.{eqb, ltb}
use lib.ListN.{length, get_or, take, drop}
use lib.Seq.{get_or-drop, drop-drop}
use Rattle.meaning.specs.Laws.Tests.{both}
use Rattle.text_keys.specs.Keys.{key_more, key_of}
use Rattle.text_keys.specs.Laws.Keys.{Bytes}
use Rattle.text_words.specs.Kinds.{Letters, Digits}
use Rattle.text_words.specs.Words.{is_blank, is_digit, in_word, run, reserved, place_of, only_digits, leading_zero, is_number, decimal}
use Rattle.text_words.specs.Words.{number_kind, other_kind, kind_of, value_of, start_at, next_at, bytes_at, word_at}
use Rattle.text_words.specs.Scan.{front, bytes_from, letters_from, kind_by, value_more, digits_from, zero_led, ends_at, number_by, value_by, word_from}
use Rattle.text_words.specs.Laws.Words.{at_each, run_more, run_stop, digit_bounds, place_word, number_kind_lem, number_digits, number_unled}
use Rattle.text_words.proofs.Fronts.{front_take, front_length, front_get, run_on, run_front, ends_here}
use Rattle.text_words.proofs.Keys.{kind_by_key, letters_more}
use Rattle.text_words.proofs.Decimals.{digits_more, value_told}

pub word_from_lem : (text : List ℕ) (at : ℕ) → word_from text (start_at text at) ≡ word_at text at
unfolding word_at bytes_at next_at word_from
word_from_lem text at =
    let l = drop (start_at text at) text in
    rw (add-sub_cancel_left (start_at text at) (run in_word l), front_take in_word l)

digit_in_word : (b : ℕ) → is_digit b ≡ true → in_word b ≡ true
unfolding in_word is_blank
digit_in_word b e =
    let f = digit_bounds b e in
    rw (ne_eqb b 32 (λ q. omega arith), ne_eqb b 10 (λ q. omega arith))

-- No reserved word begins with a digit.
no_digit : (k : ℕ) → k < 16 → is_digit (get_or (get_or reserved k []) 0 0) ≡ false
unfolding is_digit reserved
no_digit k h =
    not-true (is_digit (get_or (get_or reserved k []) 0 0)) (at_each (λ j. not (is_digit (get_or (get_or reserved j []) 0 0))) 16 refl k h)

undigited : (w : List ℕ) → (run is_digit w ≡ length w → ⊥) → is_number w ≡ false
unfolding is_number only_digits
undigited w d = rw (ne_eqb (run is_digit w) (length w) d) (and-false (not (eqb (length w) 0) && not (leading_zero w)))

-- A word that begins with n digits, and has m bytes behind them: whether it is a number.
number_shape : (w : List ℕ) (n m : ℕ) → 0 < n → length w ≡ n + m → run is_digit w ≡ n → is_number w ≡ (not (zero_led (get_or w 0 0) n) && eqb m 0)
unfolding is_number leading_zero only_digits
number_shape w n m p q r = go (eqb m 0) refl
  where
    go : (b : Bool) → eqb m 0 ≡ b → is_number w ≡ (not (zero_led (get_or w 0 0) n) && b)
    go true t =
        let z = eqb-true m 0 t in
        let l : length w ≡ n = omega arith in
        rw (r, l, ne_eqb n 0 (λ o. omega arith), eq-eqb n n refl)
    go false t =
        let z : m ≡ 0 → ⊥ = eqb-false m 0 t in
        rw (undigited w (λ o. z (omega arith))) (sym (and-false (not (zero_led (get_or w 0 0) n))))

module _ (text : List ℕ) (start : ℕ) (within : start < length text) where
  abbrev here : List ℕ
  here = drop start text

  abbrev word : List ℕ
  word = bytes_from text start

  abbrev first : ℕ
  first = get_or text start 0

  some_word : in_word first ≡ true → 0 < length word
  some_word e = omega (arith, front_length in_word here, run_more in_word text start 0 within e)

  first_byte_lem : in_word first ≡ true → get_or word 0 0 ≡ first
  first_byte_lem e =
      let z : start + 0 ≡ start = omega arith in
      front_get in_word here 0 0 (some_word e) ∙ get_or-drop start text 0 0 ∙ ap (λ (i : ℕ). get_or text i 0) z

  -- A word that begins with a digit, and its digits as they are read.
  module _ (e : is_digit first ≡ true) where
    unplaced : 16 ≤ place_of word
    unplaced = go (ltb (place_of word) 16) refl
      where
        go : (b : Bool) → ltb (place_of word) 16 ≡ b → 16 ≤ place_of word
        go true t =
            let h = ltb-true (place_of word) 16 t in
            let q = ap (λ (w : List ℕ). is_digit (get_or w 0 0)) (place_word word h) ∙ no_digit (place_of word) h in
            absurd (true≢false (sym e ∙ ap is_digit (sym (first_byte_lem (digit_in_word first e))) ∙ q))
        go false t = ltb-false (place_of word) 16 t

    module _ {v : ℕ} (begun : v ≡ value_more 0 first) {d : Digits} (read : d ≡ digits_from text v (start + 1)) where
      digits_all : d ≡ digits_from text 0 start
      digits_all = read ∙ rw (← begun) at (digits_more text 0 start within e)

      value_is : d.value ≡ decimal 0 (front is_digit here) % 2 ^ 32
      unfolding digits_from
      value_is = ap (λ (x : Digits). x.value) digits_all

      pub next_is : d.next ≡ start + run is_digit here
      unfolding digits_from
      next_is = ap (λ (x : Digits). x.next) digits_all

      count_is : d.next - start ≡ run is_digit here
      count_is = omega (arith, next_is)

      -- The word goes on behind its digits, or ends there.
      word_run : run in_word here ≡ d.next - start + run in_word (drop d.next text)
      word_run =
          let r = run_on is_digit in_word digit_in_word here in
          rw (count_is, next_is) (r ∙ ap (λ (l : List ℕ). run is_digit here + run in_word l) (drop-drop (run is_digit here) start text))

      number_is : is_number word ≡ number_by text first (d.next - start) d.next
      number_is =
          rw (← first_byte_lem (digit_in_word first e))
          (number_shape word (d.next - start) (run in_word (drop d.next text))
          (omega (arith, count_is, run_more is_digit text start 0 within e))
          (front_length in_word here ∙ word_run)
          (run_front is_digit in_word digit_in_word here ∙ sym count_is))

      only_digits_lem : run in_word (drop d.next text) ≡ 0 → word ≡ front is_digit here
      only_digits_lem z =
          let r : run in_word here ≡ run is_digit here = omega (arith, word_run, count_is) in
          sym (front_take in_word here) ∙ ap (λ (n : ℕ). take n here) r ∙ front_take is_digit here

      pub number_word : number_by text first (d.next - start) d.next ≡ true
          → record { kind = number_kind; value = value_by d.value (d.next - start); start = start; next = d.next } ≡ word_from text start
      unfolding word_from value_of
      number_word t =
          let i : is_number word ≡ true = number_is ∙ t in
          let z = eqb-true (run in_word (drop d.next text)) 0 (both (not (zero_led first (d.next - start))) (ends_at text d.next) t).1 in
          let n : d.next ≡ start + run in_word here = omega (arith, word_run, next_is) in
          let l : d.next - start ≡ length word = omega (arith, n, front_length in_word here) in
          let o = value_told word (number_digits word i) (number_unled word i) in
          rw (value_is, ← only_digits_lem z, l, o, i, number_kind_lem word i, n)

      pub other_word : number_by text first (d.next - start) d.next ≡ false
          → record { kind = other_kind; value = 0; start = start; next = d.next + run in_word (drop d.next text) } ≡ word_from text start
      unfolding word_from value_of kind_of
      other_word t =
          let i : is_number word ≡ false = number_is ∙ t in
          let n : d.next + run in_word (drop d.next text) ≡ start + run in_word here = omega (arith, word_run, next_is) in
          let s = some_word (digit_in_word first e) in
          rw (n, ne_eqb (length word) 0 (λ q. omega arith), le-ltb (place_of word) 16 unplaced, i)

  -- A word that begins with any other byte, and its bytes as they are gathered.
  module _ (e : is_blank first ≡ false) (f : is_digit first ≡ false) where
    byte_in_word : in_word first ≡ true
    unfolding in_word
    byte_in_word = rw e

    no_number : is_number word ≡ false
    no_number =
        let s = some_word byte_in_word in
        undigited word (λ q. omega (arith, run_front is_digit in_word digit_in_word here, run_stop is_digit text start 0 within f))

    module _ {key : ℕ} (begun : key ≡ key_more 0 first) {l : Letters} (read : l ≡ letters_from text key (start + 1)) where
      letters_all : l ≡ letters_from text 0 start
      letters_all = read ∙ rw (← begun) at (letters_more text 0 start (sym (ends_here text start within) ∙ e))

      key_is : l.key ≡ key_of word
      unfolding letters_from
      key_is = ap (λ (x : Letters). x.key) letters_all

      pub end_is : l.next ≡ start + run in_word here
      unfolding letters_from
      end_is = ap (λ (x : Letters). x.next) letters_all

      pub letters_word : ((i : ℕ) → get_or text i 0 < 256)
          → record { kind = kind_by l.key (l.next - start); value = 0; start = start; next = l.next } ≡ word_from text start
      unfolding word_from value_of
      letters_word bytes =
          let n : l.next - start ≡ length word = omega (arith, end_is, front_length in_word here) in
          let b : Bytes word = λ i h. rw (front_get in_word here i 0 h, get_or-drop start text i 0) (bytes (start + i)) in
          let k = kind_by_key word b (some_word byte_in_word) no_number in
          rw (key_is, n, ← k, no_number, end_is)
