-- Digits: their value modulo 2 ^ 32 and their number tell the number's value. Assumes nothing.
use mathlib.Core.Path.{◌≡◌, sym, ap, ◌∙◌}
use mathlib.Core.Bool.{true, false}
use mathlib.Core.List.{List, [], ◌∷◌}
use Prim.Native.Nat.{ℕ, suc, ◌+◌, ◌-◌, ◌*◌, ◌/◌, ◌^◌, ◌%◌, ◌≤◌, ◌<◌, min}
use native.Mathlib.Nat.{pow-succ', pow-le-pow_right, mul-le-mul_right, mul_assoc, add-mul-mod_self_left}
use native.Mathlib.Omega.{arith}
use borrow.Author.Tests.{lt-ltb, ltb-true, ltb-false, eqb-false}
use lib.Dec.{ltb}
use lib.ListN.{length, get_or, drop}
use Rattle.meaning.specs.Laws.Tests.{cond_all}
use Rattle.text_words.specs.Words.{is_digit, only_digits, leading_zero, decimal, number_cap, numeral}
use Rattle.text_words.specs.Scan.{front, value_more, digits_from, value_by}
use Rattle.text_words.specs.Laws.Words.{run_more, run_stop, run_end, digit_bounds, digit_at}
use Rattle.text_words.proofs.Fronts.{front_more, front_stop, front_end}

-- A value may be taken modulo 2 ^ 32 at each digit.
decimal_mod : (v : ℕ) (w : List ℕ) → decimal (v % 2 ^ 32) w % 2 ^ 32 ≡ decimal v w % 2 ^ 32
unfolding decimal
decimal_mod v [] = omega arith
decimal_mod v (b ∷ w) =
    let u = 10 * (v % 2 ^ 32) + (b - 48) in
    let e : u + 2 ^ 32 * (10 * (v / 2 ^ 32)) ≡ 10 * v + (b - 48) = omega arith in
    let m : u % 2 ^ 32 ≡ (10 * v + (b - 48)) % 2 ^ 32 = rw (← e) (sym (add-mul-mod_self_left u (2 ^ 32) (10 * (v / 2 ^ 32)))) in
    sym (decimal_mod u w) ∙ ap (λ (n : ℕ). decimal n w % 2 ^ 32) m ∙ decimal_mod (10 * v + (b - 48)) w

-- The digits of a text from a place on: one digit further, at the byte that is none, and at the text's end.
module _ (text : List ℕ) (v i : ℕ) where
  pub digits_more : i < length text → is_digit (get_or text i 0) ≡ true
      → digits_from text (value_more v (get_or text i 0)) (i + 1) ≡ digits_from text v i
  unfolding digits_from decimal
  digits_more h e =
      let w = front is_digit (drop (i + 1) text) in
      rw (front_more is_digit text i 0 h e, run_more is_digit text i 0 h e, decimal_mod (10 * v + (get_or text i 0 - 48)) w)

  pub digits_stop : v < 2 ^ 32 → i < length text → is_digit (get_or text i 0) ≡ false → record { value = v; next = i } ≡ digits_from text v i
  unfolding digits_from decimal
  digits_stop f h e =
      let m : v % 2 ^ 32 ≡ v = omega arith in
      rw (front_stop is_digit text i 0 h e, m, ← run_stop is_digit text i 0 h e)

  pub digits_end : v < 2 ^ 32 → length text ≤ i → record { value = v; next = i } ≡ digits_from text v i
  unfolding digits_from decimal
  digits_end f h =
      let m : v % 2 ^ 32 ≡ v = omega arith in
      rw (front_end is_digit text i h, m, ← run_end is_digit text i h)

-- Digits w behind value v: less than v + 1 with as many zeros, and no less than v with as many.
decimal_below : (v : ℕ) (w : List ℕ) → ((i : ℕ) → i < length w → is_digit (get_or w i 0) ≡ true) → decimal v w < suc v * 10 ^ length w
unfolding decimal
decimal_below v [] d = omega arith
decimal_below v (b ∷ w) d =
    let f = digit_bounds b (d 0 (omega arith)) in
    let r = decimal_below (10 * v + (b - 48)) w (λ i h. d (suc i) (omega arith)) in
    let m : suc (10 * v + (b - 48)) ≤ suc v * 10 = omega arith in
    rw (pow-succ' 10 (length w), ← mul_assoc (suc v) 10 (10 ^ length w)) (omega (arith, mul-le-mul_right (10 ^ length w) m))

decimal_above : (v : ℕ) (w : List ℕ) → v * 10 ^ length w ≤ decimal v w
unfolding decimal
decimal_above v [] = omega arith
decimal_above v (b ∷ w) =
    let r = decimal_above (10 * v + (b - 48)) w in
    let m : v * 10 ≤ 10 * v + (b - 48) = omega arith in
    rw (pow-succ' 10 (length w), ← mul_assoc v 10 (10 ^ length w)) (omega (arith, mul-le-mul_right (10 ^ length w) m))

-- Up to nine digits nothing is lost; ten without a leading 0 are over the cap.
few_digits : (w : List ℕ) → only_digits w ≡ true → length w < 10 → decimal 0 w % 2 ^ 32 ≡ decimal 0 w
few_digits w d n =
    let l = decimal_below 0 w (λ i. digit_at w i d) in
    let t : 10 ^ length w ≤ 10 ^ 9 = pow-le-pow_right {n = 10} (omega arith) {i = length w} {j = 9} (omega arith) in
    omega arith

many_digits : (w : List ℕ) → only_digits w ≡ true → leading_zero w ≡ false → 10 ≤ length w → number_cap ≤ decimal 0 w
unfolding leading_zero decimal
many_digits [] d z n = absurd (omega arith)
many_digits (b ∷ w) d z n =
    let f = digit_bounds b (digit_at (b ∷ w) 0 d (omega arith)) in
    let l : ltb 1 (length (b ∷ w)) ≡ true = lt-ltb 1 (length (b ∷ w)) (omega arith) in
    let o : b ≡ 48 → ⊥ = eqb-false b 48 (rw l at z) in
    let t : 10 ^ 9 ≤ 10 ^ length w = pow-le-pow_right {n = 10} (omega arith) {i = 9} {j = length w} (omega arith) in
    let m : 1 ≤ 10 * 0 + (b - 48) = omega arith in
    omega (arith, mul-le-mul_right (10 ^ length w) m, decimal_above (10 * 0 + (b - 48)) w)

pub value_told : (w : List ℕ) → only_digits w ≡ true → leading_zero w ≡ false → value_by (decimal 0 w % 2 ^ 32) (length w) ≡ numeral w
unfolding value_by numeral
value_told w d z =
    cond_all (λ n. n ≡ min number_cap (decimal 0 w)) (ltb (length w) 10)
    (λ t. rw (few_digits w d (ltb-true _ _ t)))
    (λ t. let l = many_digits w d z (ltb-false _ _ t) in omega arith)
