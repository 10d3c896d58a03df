-- What a refusal says of a text: its number, and the place that the table 'given when / place' names for that number.
use Rattle.std.specs.Prelude.{◌≡◌, Bool, false, List, eqb, leb, get_or, drop, Some, None}
use Rattle.std.proofs.Math.Path.{refl, sym, ap, subst}
use Rattle.std.proofs.Common.{◌∙◌, true≢false}
use Rattle.std.proofs.Math.Bool.{true}
use Rattle.std.proofs.lemmas.Bool.{false≢true}
use Prim.Native.Nat.{ℕ, zero, suc, ◌+◌, ◌-◌, ◌≤◌, ◌<◌}
use native.Mathlib.Omega.{arith}
use borrow.Author.Tests.{eqb-true, eqb-false, leb-true, leb-false, not-false}
use Rattle.std.proofs.Math.ListN.{length, length-drop}
use Rattle.std.proofs.Math.Seq.{get_or-drop}
use Rattle.meaning.specs.Numbers.{text_limit, text_too_long, byte_not_allowed, word_out_of_place, rows_full, cut_short, no_task_given}
use Rattle.text_words.specs.Words.{no_kind, is_blank, is_allowed, in_word, run, start_at, next_at, bytes_at, word_at, first_not_allowed}
use Rattle.text_words.specs.Laws.Words.{run_stop, run_passes, run_stops, start_no_blank, word_place, first_bad}
use Rattle.text_reader.specs.Reading.{bad, reading}
use Rattle.text_laws.specs.Laws.Kept.{JobRead, names, Names, Refusal, Kept}
use Rattle.text_laws.specs.Laws.Walk.{job_kept, reading_ways}

-- WHERE WORDS BEGIN

-- No number can name the end of the text as a word.
names_some : (n k : ℕ) → names n k ≡ true → k ≡ no_kind → ⊥
names_some n k t e = false≢true (ap (names n) (sym e) ∙ t)

module _ (s : List ℕ) where
  -- A place within no word: the text's start, a blank, or behind the text.
  abbrev Edge : ℕ → Type 0
  Edge at = 0 < at → at < length s → is_blank (get_or s at 0) ≡ true

  edge_behind : (at : ℕ) → Edge (word_at s at).next
  unfolding word_at next_at in_word
  edge_behind at _ h =
      let from = start_at s at in
      let l : run in_word (drop from s) < length (drop from s) = omega (arith, length-drop from s) in
      not-false _ (rw (← get_or-drop from s (run in_word (drop from s)) 0) (run_stops in_word (drop from s) 0 l))

  -- The first byte of a word, which the number n can name.
  pub record WordRefused (n place : ℕ) : Type 0 where
    pub inside : place < length s
    pub plain : is_blank (get_or s place 0) ≡ false
    pub first : 0 < place → is_blank (get_or s (place - 1) 0) ≡ true
    pub begins : (word_at s place).start ≡ place
    pub named : names n (word_at s place).kind ≡ true

  module _ (at : ℕ) (h : start_at s at < length s) where
    -- A word read from its first byte is the word.
    start_start : start_at s (start_at s at) ≡ start_at s at
    unfolding start_at
    start_start = sym (run_stop is_blank s (start_at s at) 0 h (start_no_blank s at h))

    word_start : word_at s (start_at s at) ≡ word_at s at
    unfolding word_at next_at bytes_at
    word_start = rw start_start

    first_start : Edge at → 0 < start_at s at → is_blank (get_or s (start_at s at - 1) 0) ≡ true
    unfolding start_at
    first_start edge = go (run is_blank (drop at s)) refl
      where
        go : (m : ℕ) → run is_blank (drop at s) ≡ m → 0 < at + m → is_blank (get_or s (at + m - 1) 0) ≡ true
        go zero e l =
            let z : start_at s at ≡ at = omega arith in
            absurd (true≢false (sym (edge (omega arith) (omega arith)) ∙ ap (λ i. is_blank (get_or s i 0)) (sym z) ∙ start_no_blank s at h))
        go (suc m) e l =
            let z : at + suc m - 1 ≡ at + m = omega arith in
            rw (z, ← get_or-drop at s m 0) (run_passes is_blank (drop at s) m 0 (omega arith))

  word_refused : (n place : ℕ) → Names s Edge n place → WordRefused n place
  unfolding word_at
  word_refused n place q =
      let at = q.at in
      let w = word_place s at (names_some n (word_at s at).kind q.named) in
      let h : start_at s at < length s = omega (arith, w.1, w.2) in
      subst (WordRefused n) (sym q.first) (record {
        inside = h;
        plain = start_no_blank s at h;
        first = first_start at h q.edge;
        begins = start_start at h;
        named = ap (λ w. names n w.kind) (word_start at h) ∙ q.named;
      })

-- THE TABLE. A number above 1 is given to a text that is not too long, one above 2 to a text whose bytes are all allowed.
pub record Refused (s : List ℕ) (n place : ℕ) : Type 0 where
  pub least : text_too_long ≤ n
  pub most : n ≤ no_task_given
  pub long : n ≡ text_too_long → (place ≡ 0) × (text_limit < length s)
  pub short : text_too_long < n → length s ≤ text_limit
  pub byte : n ≡ byte_not_allowed → first_not_allowed s ≡ Some place
  pub allowed : byte_not_allowed < n → first_not_allowed s ≡ None
  pub word : word_out_of_place ≤ n → n ≤ rows_full → WordRefused s n place
  pub ended : cut_short ≤ n → place ≡ length s

pub reading_refused : (s : List ℕ) (n place : ℕ) → reading s ≡ bad n place → Refused s n place
reading_refused s n place =
    reading_ways s (λ p. p ≡ bad n place → Refused s n place)
    (λ l e.
    let a : text_too_long ≡ n = cc in
    let b : place ≡ 0 = cc in
    record {
      least = omega arith;
      most = omega arith;
      long = λ _. (b, l);
      short = λ h. absurd (omega arith);
      byte = λ h. absurd (omega arith);
      allowed = λ h. absurd (omega arith);
      word = λ h. absurd (omega arith);
      ended = λ h. absurd (omega arith);
    })
    (λ i l q e.
    let a : byte_not_allowed ≡ n = cc in
    let b : i ≡ place = cc in
    record {
      least = omega arith;
      most = omega arith;
      long = λ h. absurd (omega arith);
      short = λ _. l;
      byte = λ _. q ∙ ap Some b;
      allowed = λ h. absurd (omega arith);
      word = λ h. absurd (omega arith);
      ended = λ h. absurd (omega arith);
    })
    (λ l q e.
    let k : Refusal s (Edge s) n place = subst (Kept s (Edge s) JobRead) e (job_kept s (Edge s) (edge_behind s) (λ h. absurd (omega arith))) in
    let low = k.least in
    record {
      least = omega arith;
      most = k.most;
      long = λ h. absurd (omega arith);
      short = λ _. l;
      byte = λ h. absurd (omega arith);
      allowed = λ _. q;
      word = λ _ h. word_refused s n place (k.word h);
      ended = k.ended;
    })

module _ (s : List ℕ) (n place : ℕ) (e : reading s ≡ bad n place) where
  abbrev told : Refused s n place
  told = reading_refused s n place e

  -- 2: that byte, the first such.
  pub refused_byte : n ≡ byte_not_allowed → (place < length s) × (is_allowed (get_or s place 0) ≡ false) × ((i : ℕ) → i < place → is_allowed (get_or s i 0) ≡ true)
  refused_byte h = first_bad s place (told.byte h)

  -- No place is behind the text.
  pub refused_within : place ≤ length s
  refused_within = go (leb cut_short n) refl (leb word_out_of_place n) refl (eqb n byte_not_allowed) refl
    where
      go : (a : Bool) → leb cut_short n ≡ a → (b : Bool) → leb word_out_of_place n ≡ b → (c : Bool) → eqb n byte_not_allowed ≡ c → place ≤ length s
      go true p b q c r = omega (arith, told.ended (leb-true _ _ p))
      go false p true q c r = omega (arith, (told.word (leb-true _ _ q) (omega (arith, leb-false cut_short n p))).inside)
      go false p false q true r = omega (arith, (refused_byte (eqb-true _ _ r)).0)
      go false p false q false r = omega (arith, (told.long (omega (arith, told.least, leb-false word_out_of_place n q, eqb-false n byte_not_allowed r))).0)
