-- What the program relies on: where the two parts of the input lie, and that walking a schedule pair by pair gives exactly the
-- pairs that were counted. The steps of the definitions come first; the proofs of the loops cite them. Assumes nothing.
use Rattle.std.specs.Prelude.{◌≡◌, Bool, cond, ◌&&◌, eqb, leb, get_or, drop, Some, None}
use Rattle.std.proofs.Math.Path.{refl}
use Rattle.std.proofs.Common.{sym, ap, ◌∙◌, add-one, drop_of_length-le, drop-cons}
use Rattle.std.proofs.Math.Bool.{true, false}
use Rattle.std.proofs.lemmas.Bool.{false≢true}
use mathlib.Core.List.{List, [], ◌∷◌}
use Prim.Native.Nat.{ℕ, zero, suc, ◌+◌, ◌-◌, ◌/◌, ◌%◌, ◌≤◌, ◌<◌}
use native.Mathlib.Omega.{arith}
use borrow.Author.Tests.{eq-eqb, ne_eqb, eqb-true, leb-true}
use Rattle.std.proofs.Math.ListN.{length}
use Rattle.listing_input.specs.Kinds.{Word}
use Rattle.text_words.specs.Words.{same_word, word_at, no_kind, number_kind}
use Rattle.text_words.specs.Laws.Words.{same_eq, word_place}
use Rattle.listing_input.specs.Input.{run_word, is_run, text_length, split_of, is_byte, words_from, words_of, ended, judged, schedule_of, pair_at, pairs_in}

-- THE TEXT

pub run_three : (w : List ℕ) → length w ≡ 3 → same_word w run_word ≡ (eqb (get_or w 0 0) 114 && (eqb (get_or w 1 0) 117 && (eqb (get_or w 2 0) 110 && true)))
unfolding same_word
run_three [] e = absurd (omega arith)
run_three (a ∷ []) e = absurd (omega arith)
run_three (a ∷ b ∷ []) e = absurd (omega arith)
run_three (a ∷ b ∷ c ∷ []) e = refl
run_three (a ∷ b ∷ c ∷ d ∷ w) e = absurd (omega arith)

pub run_other : (w : List ℕ) → (length w ≡ 3 → ⊥) → same_word w run_word ≡ false
run_other w n = go (same_word w run_word) refl
  where
    go : (b : Bool) → same_word w run_word ≡ b → same_word w run_word ≡ false
    go true e = absurd (n (ap length (same_eq w run_word e)))
    go false e = e

module _ (input : List ℕ) (begins : Bool) (i : ℕ) where
  text_step : i < length input → text_length begins (drop i input) ≡ cond (begins && is_run (drop i input)) 0 (suc (text_length (eqb (get_or input i 0) 10) (drop (suc i) input)))
  unfolding text_length
  text_step h = rw (drop-cons input i 0 h)

  pub text_more : i < length input → (begins && is_run (drop i input)) ≡ false → i + 1 + text_length (eqb (get_or input i 0) 10) (drop (i + 1) input) ≡ i + text_length begins (drop i input)
  text_more h e =
      let z : text_length begins (drop i input) ≡ suc (text_length (eqb (get_or input i 0) 10) (drop (suc i) input)) = text_step h ∙ rw e in
      rw add-one (omega arith)

  pub text_stop : i < length input → (begins && is_run (drop i input)) ≡ true → i ≡ i + text_length begins (drop i input)
  text_stop h e = let z : text_length begins (drop i input) ≡ 0 = text_step h ∙ rw e in omega arith

  pub text_end : length input ≤ i → i ≡ i + text_length begins (drop i input)
  unfolding text_length
  text_end h = let z : text_length begins (drop i input) ≡ 0 = rw (drop_of_length-le input h) in omega arith

-- The text ends within the input, and the schedule begins behind it, within the input.
text_within : (begins : Bool) (l : List ℕ) → text_length begins l ≤ length l
unfolding text_length
text_within begins [] = omega arith
text_within begins (b ∷ l) = go (begins && is_run (b ∷ l)) (text_within (eqb b 10) l)
  where
    go : (t : Bool) → text_length (eqb b 10) l ≤ length l → cond t 0 (suc (text_length (eqb b 10) l)) ≤ suc (length l)
    go true h = omega arith
    go false h = omega arith

pub split_places : (input : List ℕ) → ((split_of input).text ≤ (split_of input).rest) × ((split_of input).rest ≤ length input)
unfolding split_of
split_places input = let h = text_within true input in (omega arith, omega arith)

-- The text ends at the first place where a line `run` begins, or at the input's end. A line begins at the start, where the mark
-- says so, and behind every newline.
abbrev pub begins_at : Bool → List ℕ → ℕ → Bool
begins_at begins l zero = begins
begins_at begins l (suc i) = eqb (get_or l i 0) 10

abbrev pub runs_at : Bool → List ℕ → ℕ → Bool
runs_at begins l i = begins_at begins l i && is_run (drop i l)

one_on : (begins : Bool) (b : ℕ) (l : List ℕ) (i : ℕ) → runs_at begins (b ∷ l) (suc i) ≡ runs_at (eqb b 10) l i
one_on begins b l zero = refl
one_on begins b l (suc i) = refl

first_run : (begins : Bool) (l : List ℕ) → ((i : ℕ) → i < text_length begins l → runs_at begins l i ≡ false) × (text_length begins l < length l → runs_at begins l (text_length begins l) ≡ true)
unfolding text_length
first_run begins [] = (λ i h. absurd (omega arith), λ h. absurd (omega arith))
first_run begins (b ∷ l) = go (begins && is_run (b ∷ l)) refl (first_run (eqb b 10) l)
  where
    n : ℕ
    n = text_length (eqb b 10) l

    ahead : (begins && is_run (b ∷ l)) ≡ false → ((i : ℕ) → i < n → runs_at (eqb b 10) l i ≡ false) → (i : ℕ) → i < suc n → runs_at begins (b ∷ l) i ≡ false
    ahead e r zero h = e
    ahead e r (suc i) h = one_on begins b l i ∙ r i (omega arith)

    go : (t : Bool) → (begins && is_run (b ∷ l)) ≡ t → ((i : ℕ) → i < n → runs_at (eqb b 10) l i ≡ false) × (n < length l → runs_at (eqb b 10) l n ≡ true) → ((i : ℕ) → i < cond t 0 (suc n) → runs_at begins (b ∷ l) i ≡ false) × (cond t 0 (suc n) < suc (length l) → runs_at begins (b ∷ l) (cond t 0 (suc n)) ≡ true)
    go true e r = (λ i h. absurd (omega arith), λ _. e)
    go false e r = (ahead e r.0, λ h. one_on begins b l n ∙ r.1 (omega arith))

pub split_first : (input : List ℕ) → ((i : ℕ) → i < (split_of input).text → runs_at true input i ≡ false) × ((split_of input).text < length input → runs_at true input (split_of input).text ≡ true)
unfolding split_of
split_first input = first_run true input

-- THE SCHEDULE

-- The word read at a place: it ends behind the place and within the text, and what it makes of the schedule behind n numbers.
module _ (text : List ℕ) (at : ℕ) {w : Word} (read : w ≡ word_at text at) where
  pub word_ends : (w.kind ≡ no_kind → ⊥) → (at < w.next) × (w.next ≤ length text)
  word_ends e = rw read (let q = word_place text at (rw read at e) in (omega arith, q.2))

  words_end : (k : ℕ) → w.kind ≡ no_kind → words_from k text at ≡ []
  unfolding words_from
  words_end zero e = refl
  words_end (suc k) e = rw (← read, eq-eqb w.kind no_kind e)

  words_more : (k : ℕ) → (w.kind ≡ no_kind → ⊥) → words_from (suc k) text at ≡ w ∷ words_from k text w.next
  unfolding words_from
  words_more k e = rw (← read, ne_eqb w.kind no_kind e)

  module _ (n : ℕ) where
    pub judged_end : (k : ℕ) → w.kind ≡ no_kind → ended n ≡ judged n (words_from k text at)
    unfolding judged
    judged_end k e = rw (words_end k e)

    judged_step : n < length text → (w.kind ≡ no_kind → ⊥) → judged n (words_from (length text - n) text at) ≡ cond (is_byte w) (judged (n + 1) (words_from (length text - (n + 1)) text w.next)) None
    unfolding judged
    judged_step h e =
        let q : length text - n ≡ suc (length text - (n + 1)) = omega arith in
        rw (q, words_more (length text - (n + 1)) e)

    pub judged_more : n < length text → (w.kind ≡ no_kind → ⊥) → is_byte w ≡ true → judged (n + 1) (words_from (length text - (n + 1)) text w.next) ≡ judged n (words_from (length text - n) text at)
    judged_more h e t = sym (judged_step h e ∙ rw t)

    pub judged_bad : n < length text → (w.kind ≡ no_kind → ⊥) → is_byte w ≡ false → None ≡ judged n (words_from (length text - n) text at)
    judged_bad h e t = sym (judged_step h e ∙ rw t)

-- A number from 0 to 255 is the remainder that a pair holds.
byte_value : (w : Word) → is_byte w ≡ true → w.value % 256 ≡ w.value
byte_value w e = go (eqb w.kind number_kind) e
  where
    go : (b : Bool) → (b && leb w.value 255) ≡ true → w.value % 256 ≡ w.value
    go true t = let h = leb-true w.value 255 t in omega arith
    go false t = absurd (false≢true t)

-- Every word of a list is a number from 0 to 255.
abbrev pub AllBytes : List Word → Type 0
AllBytes [] = Unit {0}
AllBytes (w ∷ ws) = (is_byte w ≡ true) × AllBytes ws

-- A schedule that is not bad: its words are all such numbers, two for each pair.
no_pairs : (m : ℕ) → None ≡ Some m → ⊥
no_pairs m e = let z : ◌≡◌ {A = ℕ} 0 1 = cc in omega arith

ended_pairs : (n m : ℕ) → ended n ≡ Some m → n ≡ m + m
ended_pairs n m e = go (eqb (n % 2) 0) refl e
  where
    go : (b : Bool) → eqb (n % 2) 0 ≡ b → cond b (Some (n / 2)) None ≡ Some m → n ≡ m + m
    go true t e = let h = eqb-true (n % 2) 0 t in let q : n / 2 ≡ m = cc in omega arith
    go false t e = absurd (no_pairs m e)

judged_pairs : (ws : List Word) (n m : ℕ) → judged n ws ≡ Some m → AllBytes ws × (n + length ws ≡ m + m)
unfolding judged
judged_pairs [] n m e = let q = ended_pairs n m e in (tt, omega arith)
judged_pairs (w ∷ ws) n m e = go (is_byte w) refl e (judged_pairs ws (n + 1) m)
  where
    go : (b : Bool) → is_byte w ≡ b → cond b (judged (n + 1) ws) None ≡ Some m → (judged (n + 1) ws ≡ Some m → AllBytes ws × (n + 1 + length ws ≡ m + m)) → ((is_byte w ≡ true) × AllBytes ws) × (n + suc (length ws) ≡ m + m)
    go true t e r = let q = r e in let h = q.1 in ((t, q.0), omega arith)
    go false t e r = absurd (no_pairs m e)

-- The pairs that are met from a place on, m of them, one after another.
unfoldable pub walked : ℕ → List ℕ → ℕ → List (ℕ × ℕ)
walked zero text at = []
walked (suc m) text at = ((pair_at text at).task, (pair_at text at).choice) ∷ walked m text (pair_at text at).next

module _ (text : List ℕ) where
  words_ways : (P : List Word → Type 0) (k at : ℕ) → P [] → ((j : ℕ) → suc j ≡ k → P (word_at text at ∷ words_from j text (word_at text at).next)) → P (words_from k text at)
  unfolding words_from
  words_ways P zero at a b = a
  words_ways P (suc k) at a b = go (eqb (word_at text at).kind no_kind)
    where
      go : (t : Bool) → P (cond t [] (word_at text at ∷ words_from k text (word_at text at).next))
      go true = a
      go false = b k refl

  words_within : (k at : ℕ) → length (words_from k text at) ≤ k
  unfolding words_from
  words_within zero at = omega arith
  words_within (suc k) at = go (eqb (word_at text at).kind no_kind) (words_within k (word_at text at).next)
    where
      go : (t : Bool) → length (words_from k text (word_at text at).next) ≤ k → length (cond t [] (word_at text at ∷ words_from k text (word_at text at).next)) ≤ suc k
      go true h = omega arith
      go false h = omega arith

  walk : (m k at : ℕ) → AllBytes (words_from k text at) → length (words_from k text at) ≡ m + m → walked m text at ≡ pairs_in (words_from k text at)
  unfolding walked pairs_in pair_at
  walk zero k at = words_ways (λ ws. AllBytes ws → length ws ≡ 0 → [] ≡ pairs_in ws) k at (λ _ _. refl) (λ _ _ _ e. absurd (omega arith))
  walk (suc m) k at =
      let v = word_at text at in
      let w = word_at text v.next in
      words_ways (λ ws. AllBytes ws → length ws ≡ suc m + suc m → walked (suc m) text at ≡ pairs_in ws) k at
      (λ _ e. absurd (omega arith))
      (λ j _. words_ways (λ ws. AllBytes (v ∷ ws) → length (v ∷ ws) ≡ suc m + suc m → walked (suc m) text at ≡ pairs_in (v ∷ ws)) j v.next
      (λ _ e. absurd (omega arith))
      (λ i _ g e.
      let r = walk m i w.next g.1.1 (omega arith) in
      rw (byte_value v g.0, byte_value w g.1.0, r)))

  -- Walking from the start gives exactly the pairs that were counted, and they take up every word.
  pub walk_exact : (m : ℕ) → schedule_of text ≡ Some m → (walked m text 0 ≡ pairs_in (words_of text)) × (length (words_of text) ≡ m + m)
  unfolding schedule_of words_of
  walk_exact m e =
      let q = judged_pairs (words_from (length text) text 0) 0 m e in
      let h = q.1 in
      let n : length (words_from (length text) text 0) ≡ m + m = omega arith in
      (walk m (length text) 0 q.0 n, n)

  -- A pair takes two bytes or more.
  pub pairs_within : (m : ℕ) → schedule_of text ≡ Some m → m + m ≤ length text
  unfolding words_of
  pairs_within m e = let n = (walk_exact m e).1 in omega (arith, words_within (length text) 0)
