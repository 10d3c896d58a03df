-- The bytes of a word gathered on the way to its end, and the reserved words found by their keys. Assumes nothing.
use mathlib.Core.Path.{◌≡◌, refl, sym, ap, ◌∙◌}
use mathlib.Core.Bool.{Bool, true, false, true≢false, ◌&&◌}
use mathlib.Core.List.{List, []}
use Prim.Native.Nat.{ℕ, ◌+◌, ◌≤◌, ◌<◌}
use native.Mathlib.Nat.{add-zero}
use native.Mathlib.Omega.{arith}
use borrow.Author.Tests.{eqb-true, leb-true, ltb-true, ltb-false}
use lib.Dec.{eqb, leb, ltb}
use lib.ListN.{length, get_or, take, drop}
use Rattle.meaning.specs.Laws.Tests.{both, cond_all}
use Rattle.text_keys.specs.Keys.{key_more, gathered, key_of, first_from, searched, row_key, row_size, place_in}
use Rattle.text_keys.specs.Laws.Keys.{Bytes, same_key, searched_found, searched_same}
use Rattle.text_words.specs.Words.{in_word, run, reserved, place_of, is_number, other_kind, kind_of}
use Rattle.text_words.specs.Scan.{bytes_from, ends_at, letters_from, word_key, word_size, kind_by}
use Rattle.text_words.specs.Laws.Words.{below, at_each, run_more, run_passes, place_word, kind_ways, reserved_kind}
use Rattle.text_words.proofs.Fronts.{front_more, front_take, goes_on}

-- A word's bytes, one further and at its end.
module _ (text : List ℕ) (key i : ℕ) where
  pub letters_more : ends_at text i ≡ false → letters_from text (key_more key (get_or text i 0)) (i + 1) ≡ letters_from text key i
  unfolding letters_from gathered
  letters_more e =
      let g = goes_on text i e in
      rw (front_more in_word text i 0 g.0 g.1, run_more in_word text i 0 g.0 g.1)

  pub letters_end : ends_at text i ≡ true → record { key = key; next = i } ≡ letters_from text key i
  unfolding letters_from gathered
  letters_end e =
      let z = eqb-true (run in_word (drop i text)) 0 e in
      let f : bytes_from text i ≡ [] = sym (front_take in_word (drop i text)) ∙ ap (λ (n : ℕ). take n (drop i text)) z in
      rw (f, z, add-zero i)

-- THE TABLE

-- Three rules of the reserved words, each one test, computed at each of them: key and size tell its place; it has a byte, and at most
-- eight; and bytes they are.
word_found : (k : ℕ) → k < 16 → searched word_key word_size (word_key k) (word_size k) ≡ k
unfolding searched first_from reserved gathered
word_found k h =
    eqb-true (searched word_key word_size (word_key k) (word_size k)) k (at_each (λ j. eqb (searched word_key word_size (word_key j) (word_size j)) j) 16 refl k h)

fit : ℕ → Bool
fit k = leb 1 (word_size k) && leb (word_size k) 8

word_size_lem : (k : ℕ) → k < 16 → (0 < word_size k) × (word_size k ≤ 8)
unfolding reserved fit
word_size_lem k h =
    let t = both (leb 1 (word_size k)) (leb (word_size k) 8) (at_each fit 16 refl k h) in
    (leb-true 1 (word_size k) t.0, leb-true (word_size k) 8 t.1)

abbrev is_byte : ℕ → Bool
is_byte b = ltb b 256

abbrev all_bytes : ℕ → Bool
all_bytes k = eqb (run is_byte (get_or reserved k [])) (word_size k)

word_bytes : (k : ℕ) → k < 16 → Bytes (get_or reserved k [])
unfolding run reserved
word_bytes k h i l =
    let n = eqb-true (run is_byte (get_or reserved k [])) (word_size k) (at_each all_bytes 16 refl k h) in
    ltb-true (get_or (get_or reserved k []) i 0) 256 (run_passes is_byte (get_or reserved k []) i 0 (omega arith))

-- A word that is no number is of the kind that its key and its length tell.
module _ (w : List ℕ) (bytes : Bytes w) where
  abbrev place : ℕ
  place = searched word_key word_size (key_of w) (length w)

  -- A word that is found is the one at its place, and a reserved word is found.
  found : place < 16 → kind_of w ≡ place + 1
  found h =
      let f = searched_found word_key word_size (key_of w) (length w) h in
      let s : length w ≤ 8 = omega (arith, f.1, word_size_lem place h) in
      ap kind_of (same_key w (get_or reserved place []) bytes (word_bytes place h) f.1 s f.0) ∙ reserved_kind place h

  finds : place_of w < 16 → place ≡ place_of w
  finds h = ap (λ (v : List ℕ). searched word_key word_size (key_of v) (length v)) (place_word w h) ∙ word_found (place_of w) h

  pub kind_by_key : 0 < length w → is_number w ≡ false → kind_of w ≡ kind_by (key_of w) (length w)
  unfolding kind_by
  kind_by_key n f =
      cond_all (λ k. kind_of w ≡ k) (ltb place 16)
      (λ e. found (ltb-true place 16 e))
      (λ e.
      kind_ways (λ k. k ≡ other_kind) w
      (λ z. absurd (omega arith))
      (λ h. let o = ltb-false place 16 e in absurd (omega (arith, finds h)))
      (λ _ t. absurd (true≢false (sym t ∙ f)))
      (λ _ _. refl))

-- A table that holds the reserved words: row k, cut to length k, has the key of reserved word k, and its size. One test at each row,
-- computed, shows either; behind the last row no word is left.
abbrev pub good_key : List (List ℕ) → List ℕ → ℕ → Bool
good_key words lengths k = eqb (row_key words lengths k) (word_key k)

abbrev pub good_size : List ℕ → ℕ → Bool
good_size lengths k = eqb (row_size lengths k) (word_size k)

module _ (lengths : List ℕ) (sizes : below (good_size lengths) 17 ≡ true) where
  same_size : (k : ℕ) → k < 17 → row_size lengths k ≡ word_size k
  same_size k h = eqb-true (row_size lengths k) (word_size k) (at_each (good_size lengths) 17 sizes k h)

  pub table_place : (words : List (List ℕ)) → below (good_key words lengths) 16 ≡ true → (key n : ℕ)
      → place_in words lengths key n ≡ searched word_key word_size key n
  unfolding place_in
  table_place words keys key n =
      searched_same (row_key words lengths) word_key (row_size lengths) word_size key n
      (λ k h. eqb-true (row_key words lengths k) (word_key k) (at_each (good_key words lengths) 16 keys k h))
      same_size
