-- What the reader above relies on: where a word stands, when none is left, and what its kind says of it. The laws of runs come
-- first; the proofs of the scanning loops cite them too. Assumes nothing.
use Rattle.std.proofs.Math.Path.{◌≡◌, refl, sym}
use Rattle.std.proofs.Common.{ap, ◌∙◌, true≢false, add-one, drop_of_length-le, drop-cons}
use Rattle.std.specs.Prelude.{Some, None, Bool, not, ◌&&◌, eqb, leb, get_or, drop}
use Rattle.std.proofs.Math.Bool.{true, false, cond}
use Rattle.std.proofs.lemmas.Bool.{false≢true}
use mathlib.Core.List.{List, [], ◌∷◌}
use Prim.Native.Nat.{ℕ, zero, suc, ◌+◌, ◌-◌, ◌≤◌, ◌<◌}
use native.Mathlib.Omega.{arith}
use borrow.Author.Tests.{eq-eqb, eqb-true, eqb-false, leb-true, ltb-true, ltb-false, not-true, not-false}
use Rattle.std.proofs.Math.Dec.{ltb}
use Rattle.std.proofs.Math.ListN.{length, length-take, length-drop}
use Rattle.std.proofs.Math.Seq.{get_or-drop}
use Rattle.meaning.specs.Numbers.{value_limit}
use Rattle.meaning.specs.Laws.Tests.{both, cond_all}
use Rattle.text_words.specs.Words.{is_blank, is_digit, is_allowed, in_word, run, reserved, same_word, differs, place_of, only_digits, leading_zero, is_number, decimal, numeral, no_kind, number_kind, other_kind, kind_of, value_of, start_at, next_at, bytes_at, word_at, first_not_allowed}

-- RUNS

module _ {A : Type 0} (p : A → Bool) where
  run_cons : (l : List A) (i : ℕ) (d : A) → i < length l → run p (drop i l) ≡ cond (p (get_or l i d)) (suc (run p (drop (suc i) l))) 0
  unfolding run
  run_cons l i d h = rw (drop-cons l i d)

  -- The end of a run, told from a place in it: one step further, at the element that stops it, and at the list's end.
  pub run_more : (l : List A) (i : ℕ) (d : A) → i < length l → p (get_or l i d) ≡ true → i + 1 + run p (drop (i + 1) l) ≡ i + run p (drop i l)
  run_more l i d h e =
      let z : run p (drop i l) ≡ suc (run p (drop (suc i) l)) = run_cons l i d h ∙ rw e in
      rw add-one (omega arith)

  pub run_stop : (l : List A) (i : ℕ) (d : A) → i < length l → p (get_or l i d) ≡ false → i ≡ i + run p (drop i l)
  run_stop l i d h e = let z : run p (drop i l) ≡ 0 = run_cons l i d h ∙ rw e in omega arith

  pub run_end : (l : List A) (i : ℕ) → length l ≤ i → i ≡ i + run p (drop i l)
  unfolding run
  run_end l i h = let z : run p (drop i l) ≡ 0 = rw (drop_of_length-le l h) in omega arith

  -- A run ends within its list; all of its elements pass, and the one behind it does not.
  pub run_within : (l : List A) → run p l ≤ length l
  unfolding run
  run_within [] = omega arith
  run_within (x ∷ l) = go (p x) (run_within l)
    where
      go : (b : Bool) → run p l ≤ length l → cond b (suc (run p l)) 0 ≤ suc (length l)
      go true h = omega arith
      go false h = omega arith

  pub run_bound : (l : List A) (i : ℕ) → i ≤ length l → i + run p (drop i l) ≤ length l
  run_bound l i h = omega (arith, run_within (drop i l), length-drop i l)

  pub run_passes : (l : List A) (i : ℕ) (d : A) → i < run p l → p (get_or l i d) ≡ true
  unfolding run
  run_passes [] i d h = absurd (omega arith)
  run_passes (x ∷ l) i d h = go (p x) refl i (λ j. run_passes l j d) h
    where
      go : (b : Bool) → p x ≡ b → (i : ℕ) → ((j : ℕ) → j < run p l → p (get_or l j d) ≡ true) → i < cond b (suc (run p l)) 0 → p (get_or (x ∷ l) i d) ≡ true
      go true e zero r h = e
      go true e (suc i) r h = r i (omega arith)
      go false e i r h = absurd (omega arith)

  pub run_stops : (l : List A) (d : A) → run p l < length l → p (get_or l (run p l) d) ≡ false
  unfolding run
  run_stops [] d h = absurd (omega arith)
  run_stops (x ∷ l) d h = go (p x) refl (run_stops l d) h
    where
      go : (b : Bool) → p x ≡ b → (run p l < length l → p (get_or l (run p l) d) ≡ false) → cond b (suc (run p l)) 0 < suc (length l) → p (get_or (x ∷ l) (cond b (suc (run p l)) 0) d) ≡ false
      go true e r h = r (omega arith)
      go false e r h = e

-- TESTS

-- A rule of a table is one test, computed at each of its first n places.
abbrev pub below : (ℕ → Bool) → ℕ → Bool
below f zero = true
below f (suc n) = below f n && f n

pub at_each : (f : ℕ → Bool) (n : ℕ) → below f n ≡ true → (k : ℕ) → k < n → f k ≡ true
at_each f zero t k h = absurd (omega arith)
at_each f (suc n) t k h = go (eqb k n) refl (λ l. at_each f n (both (below f n) (f n) t).0 k l)
  where
    go : (b : Bool) → eqb k n ≡ b → (k < n → f k ≡ true) → f k ≡ true
    go true e r = ap f (eqb-true k n e) ∙ (both (below f n) (f n) t).1
    go false e r = let d : k ≡ n → ⊥ = eqb-false k n e in r (omega arith)

-- BYTES

pub digit_bounds : (b : ℕ) → is_digit b ≡ true → (48 ≤ b) × (b ≤ 57)
unfolding is_digit
digit_bounds b e = let t = both (leb 48 b) (leb b 57) e in (leb-true _ _ t.0, leb-true _ _ t.1)

pub digit_at : (w : List ℕ) (i : ℕ) → only_digits w ≡ true → i < length w → is_digit (get_or w i 0) ≡ true
unfolding only_digits
digit_at w i e h = let n : run is_digit w ≡ length w = eqb-true _ _ e in run_passes is_digit w i 0 (omega arith)

-- WORDS

pub same_eq : (u w : List ℕ) → same_word u w ≡ true → u ≡ w
unfolding same_word
same_eq [] [] e = refl
same_eq [] (y ∷ w) e = absurd (false≢true e)
same_eq (x ∷ u) [] e = absurd (false≢true e)
same_eq (x ∷ u) (y ∷ w) e =
    let t = both (eqb x y) (same_word u w) e in
    let f : x ≡ y = eqb-true x y t.0 in
    let r = same_eq u w t.1 in
    cc

-- A reserved word is the one at its place.
pub place_word : (w : List ℕ) → place_of w < 16 → w ≡ get_or reserved (place_of w) []
unfolding place_of differs reserved
place_word w h = same_eq w (get_or reserved (place_of w) []) (not-false (same_word w (get_or reserved (place_of w) [])) (run_stops (differs w) reserved [] h))

-- The four ways to a kind.
pub kind_ways : (P : ℕ → Type 0) (w : List ℕ) → (length w ≡ 0 → P no_kind) → (place_of w < 16 → P (place_of w + 1)) → (16 ≤ place_of w → is_number w ≡ true → P number_kind) → (16 ≤ place_of w → is_number w ≡ false → P other_kind) → P (kind_of w)
unfolding kind_of
kind_ways P w a b c d =
    cond_all P (eqb (length w) 0)
    (λ e. a (eqb-true (length w) 0 e))
    (λ _. cond_all P (ltb (place_of w) 16)
    (λ e. b (ltb-true (place_of w) 16 e))
    (λ e. cond_all P (is_number w) (c (ltb-false (place_of w) 16 e)) (d (ltb-false (place_of w) 16 e))))

-- The table's rule: reserved word k has kind k + 1, and no other word has that kind.
pub reserved_kind : (k : ℕ) → k < 16 → kind_of (get_or reserved k []) ≡ k + 1
unfolding kind_of place_of run differs reserved same_word
reserved_kind k h = eqb-true (kind_of (get_or reserved k [])) (k + 1) (at_each (λ j. eqb (kind_of (get_or reserved j [])) (j + 1)) 16 refl k h)

pub kind_reserved : (w : List ℕ) (k : ℕ) → k < 16 → kind_of w ≡ k + 1 → w ≡ get_or reserved k []
kind_reserved w k l =
    kind_ways (λ n. n ≡ k + 1 → w ≡ get_or reserved k []) w
    (λ _ q. absurd (omega arith))
    (λ h q. let e : place_of w ≡ k = omega arith in place_word w h ∙ ap (λ (j : ℕ). get_or reserved j []) e)
    (λ _ _ q. absurd (omega arith))
    (λ _ _ q. absurd (omega arith))

-- Number words are those of the number kind: no reserved word is a number, and neither is the empty one.
no_numeral : (k : ℕ) → k < 16 → is_number (get_or reserved k []) ≡ false
unfolding is_number leading_zero only_digits is_digit run reserved
no_numeral k h = not-true (is_number (get_or reserved k [])) (at_each (λ j. not (is_number (get_or reserved j []))) 16 refl k h)

empty_no_number : (w : List ℕ) → length w ≡ 0 → is_number w ≡ false
unfolding is_number
empty_no_number w e = rw (eq-eqb _ _ e)

pub kind_number : (w : List ℕ) → kind_of w ≡ number_kind → is_number w ≡ true
kind_number w =
    kind_ways (λ n. n ≡ number_kind → is_number w ≡ true) w
    (λ _ q. absurd (omega arith))
    (λ h q. absurd (omega arith))
    (λ _ e q. e)
    (λ _ _ q. absurd (omega arith))

pub number_kind_lem : (w : List ℕ) → is_number w ≡ true → kind_of w ≡ number_kind
number_kind_lem w t =
    kind_ways (λ n. n ≡ number_kind) w
    (λ e. absurd (differ (empty_no_number w e)))
    (λ h. absurd (differ (ap is_number (place_word w h) ∙ no_numeral (place_of w) h)))
    (λ _ _. refl)
    (λ _ e. absurd (differ e))
  where
    differ : is_number w ≡ false → ⊥
    differ f = true≢false (sym t ∙ f)

pub number_digits : (w : List ℕ) → is_number w ≡ true → only_digits w ≡ true
unfolding is_number
number_digits w e = (both (not (eqb (length w) 0) && not (leading_zero w)) (only_digits w) e).1

pub number_unled : (w : List ℕ) → is_number w ≡ true → leading_zero w ≡ false
unfolding is_number
number_unled w e =
    let t = both (not (eqb (length w) 0) && not (leading_zero w)) (only_digits w) e in
    not-true _ (both (not (eqb (length w) 0)) (not (leading_zero w)) t.0).1

pub valued : (w : List ℕ) → kind_of w ≡ number_kind → value_of w ≡ numeral w
unfolding value_of
valued w e = rw (kind_number w e)

pub valueless : (w : List ℕ) → (kind_of w ≡ number_kind → ⊥) → value_of w ≡ 0
unfolding value_of
valueless w n = cond_all (λ v. v ≡ 0) (is_number w) (λ e. absurd (n (number_kind_lem w e))) (λ _. refl)

-- The cap hides nothing: within a range a number's value is exact, and what is over the range with the cap is over it without.
pub numeral_within : (w : List ℕ) (limit : ℕ) → limit ≤ value_limit → numeral w ≤ limit → numeral w ≡ decimal 0 w
unfolding numeral
numeral_within w limit h l = omega arith

pub numeral_over : (w : List ℕ) (limit : ℕ) → limit ≤ value_limit → limit < numeral w → limit < decimal 0 w
unfolding numeral
numeral_over w limit h l = omega arith

-- The empty word, and it alone, is of the end's kind.
pub empty_kind : (w : List ℕ) → length w ≡ 0 → kind_of w ≡ no_kind
unfolding kind_of
empty_kind w e = rw (eq-eqb _ _ e)

pub kind_empty : (w : List ℕ) → kind_of w ≡ no_kind → length w ≡ 0
kind_empty w =
    kind_ways (λ n. n ≡ no_kind → length w ≡ 0) w
    (λ e q. e)
    (λ h q. absurd (omega arith))
    (λ _ _ q. absurd (omega arith))
    (λ _ _ q. absurd (omega arith))

empty_value : (w : List ℕ) → length w ≡ 0 → value_of w ≡ 0
unfolding value_of
empty_value w e = rw (empty_no_number w e)

-- PLACES

module _ (text : List ℕ) (at : ℕ) where
  -- Only blanks are left from the place on.
  abbrev pub OnlyBlanks : Type 0
  OnlyBlanks = (i : ℕ) → at ≤ i → i < length text → is_blank (get_or text i 0) ≡ true

  -- Where the text has ended: past its last word, and past its last byte.
  empty_bytes : length text ≤ start_at text at → length (bytes_at text at) ≡ 0
  unfolding bytes_at
  empty_bytes h = simp (length-take, length-drop) (omega arith)

  empty_next : length text ≤ start_at text at → next_at text at ≡ start_at text at
  unfolding next_at
  empty_next h = sym (run_end in_word text (start_at text at) h)

  pub ended_word : length text ≤ start_at text at → word_at text at ≡ record { kind = no_kind; value = 0; start = start_at text at; next = start_at text at }
  unfolding word_at
  ended_word h = rw (empty_kind (bytes_at text at) (empty_bytes h), empty_value (bytes_at text at) (empty_bytes h), empty_next h)

  -- Where it has not: a byte that is no blank begins a word, and the word ends within the text.
  pub start_no_blank : start_at text at < length text → is_blank (get_or text (start_at text at) 0) ≡ false
  unfolding start_at
  start_no_blank h =
      let l : run is_blank (drop at text) < length (drop at text) = omega (arith, length-drop at text) in
      rw (← get_or-drop at text (run is_blank (drop at text)) 0) (run_stops is_blank (drop at text) 0 l)

  word_span : start_at text at < length text → (at ≤ start_at text at) × (start_at text at < next_at text at) × (next_at text at ≤ length text)
  unfolding start_at next_at in_word
  word_span h =
      let r : run in_word (drop (start_at text at) text) ≡ suc (run in_word (drop (suc (start_at text at)) text)) = run_cons in_word text (start_at text at) 0 h ∙ rw (start_no_blank h) in
      let b = run_bound in_word text (start_at text at) (omega arith) in
      (omega arith, omega arith, omega arith)

  some_bytes : start_at text at < length text → kind_of (bytes_at text at) ≡ no_kind → ⊥
  unfolding bytes_at
  some_bytes h e =
      let w = word_span h in
      let z = kind_empty (bytes_at text at) e in
      omega (arith, length-take (next_at text at - start_at text at) (drop (start_at text at) text), length-drop (start_at text at) text)

  pub ended_start : (word_at text at).kind ≡ no_kind → length text ≤ start_at text at
  unfolding word_at
  ended_start e = go (ltb (start_at text at) (length text)) refl
    where
      go : (b : Bool) → ltb (start_at text at) (length text) ≡ b → length text ≤ start_at text at
      go true t = absurd (some_bytes (ltb-true _ _ t) e)
      go false t = ltb-false _ _ t

  -- A word that is not of the end's kind begins at the place or behind it, has a byte, and ends within the text.
  pub word_place : ((word_at text at).kind ≡ no_kind → ⊥) → (at ≤ (word_at text at).start) × ((word_at text at).start < (word_at text at).next) × ((word_at text at).next ≤ length text)
  unfolding word_at
  word_place n = go (ltb (start_at text at) (length text)) refl
    where
      go : (b : Bool) → ltb (start_at text at) (length text) ≡ b → (at ≤ start_at text at) × (start_at text at < next_at text at) × (next_at text at ≤ length text)
      go true t = word_span (ltb-true _ _ t)
      go false t = absurd (n (empty_kind (bytes_at text at) (empty_bytes (ltb-false _ _ t))))

  -- The end's kind comes back exactly where only blanks are left. Its place is then the text's end, and past the end the place
  -- itself.
  pub ended_blanks : (word_at text at).kind ≡ no_kind → OnlyBlanks
  unfolding start_at
  ended_blanks e i h l =
      let s = ended_start e in
      let q : at + (i - at) ≡ i = omega arith in
      let t : is_blank (get_or (drop at text) (i - at) 0) ≡ true = run_passes is_blank (drop at text) (i - at) 0 (omega arith) in
      rw (get_or-drop at text (i - at) 0, q) at t

  pub blanks_ended : OnlyBlanks → (word_at text at).kind ≡ no_kind
  unfolding word_at
  blanks_ended f = go (ltb (start_at text at) (length text)) refl
    where
      go : (b : Bool) → ltb (start_at text at) (length text) ≡ b → kind_of (bytes_at text at) ≡ no_kind
      go true t = let h = ltb-true _ _ t in absurd (true≢false (sym (f (start_at text at) (word_span h).0 h) ∙ start_no_blank h))
      go false t = empty_kind (bytes_at text at) (empty_bytes (ltb-false _ _ t))

  pub ended_place : (word_at text at).kind ≡ no_kind → at ≤ length text → ((word_at text at).start ≡ length text) × ((word_at text at).next ≡ length text)
  unfolding word_at start_at
  ended_place e h =
      let s = ended_start e in
      let b = run_bound is_blank text at h in
      let n = empty_next s in
      (omega arith, omega arith)

  pub past_end : length text ≤ at → word_at text at ≡ record { kind = no_kind; value = 0; start = at; next = at }
  unfolding start_at
  past_end h = let e = at_itself h in rw e at (ended_word (omega arith))
    where
      at_itself : length text ≤ at → start_at text at ≡ at
      at_itself h = sym (run_end is_blank text at h)

-- The first byte that is not allowed: none where all are allowed; otherwise it is not, and all ahead of it are.
module _ (text : List ℕ) where
  pub all_allowed : first_not_allowed text ≡ None → (i : ℕ) → i < length text → is_allowed (get_or text i 0) ≡ true
  unfolding first_not_allowed
  all_allowed =
      cond_all (λ p. p ≡ None → (i : ℕ) → i < length text → is_allowed (get_or text i 0) ≡ true) (ltb (run is_allowed text) (length text))
      (λ _ q. absurd (let z : ◌≡◌ {A = ℕ} 0 1 = cc in omega arith))
      (λ e _ i h. let n = ltb-false (run is_allowed text) (length text) e in run_passes is_allowed text i 0 (omega arith))

  pub first_bad : (n : ℕ) → first_not_allowed text ≡ Some n → (n < length text) × (is_allowed (get_or text n 0) ≡ false) × ((i : ℕ) → i < n → is_allowed (get_or text i 0) ≡ true)
  unfolding first_not_allowed
  first_bad n =
      cond_all (λ p. p ≡ Some n → (n < length text) × (is_allowed (get_or text n 0) ≡ false) × ((i : ℕ) → i < n → is_allowed (get_or text i 0) ≡ true)) (ltb (run is_allowed text) (length text))
      (λ e q.
      let r : n ≡ run is_allowed text = cc in
      let h = ltb-true (run is_allowed text) (length text) e in
      rw r (h, run_stops is_allowed text 0 h, λ i l. run_passes is_allowed text i 0 l))
      (λ _ q. absurd (let z : ◌≡◌ {A = ℕ} 0 1 = cc in omega arith))
