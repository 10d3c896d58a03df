-- The front of a list, one element at a time, and as the word that it is: the scanning loops' laws. Assumes nothing.
use mathlib.Core.Path.{◌≡◌, refl, sym, ap, ◌∙◌}
use mathlib.Core.Bool.{Bool, true, false, true≢false, cond, not, ◌||◌, or_assoc, or-false}
use mathlib.Core.List.{List, [], ◌∷◌}
use Prim.Native.Nat.{ℕ, suc, ◌+◌, ◌≤◌, ◌<◌}
use native.Mathlib.Nat.{zero-add}
use native.Mathlib.Numerals.{add-one}
use native.Mathlib.Omega.{arith}
use borrow.Author.Tests.{lt-ltb, eq-eqb, ne_eqb, ltb-true, ltb-false}
use lib.Dec.{ltb, leb-suc-suc}
use lib.ListN.{length, get_or, take, drop, drop_of_length-le}
use lib.Seq.{drop-cons, get_or-take, length-take-le}
use Rattle.std.specs.List.{position_or_len}
use Rattle.text_words.specs.Words.{is_blank, in_word, run}
use Rattle.text_words.specs.Scan.{front, ends_at}
use Rattle.text_words.specs.Laws.Words.{run_within, run_more, run_stop, run_end}

module _ {A : Type 0} (p : A → Bool) where
  -- One step further, at the element that stops it, and at the list's end.
  pub front_more : (l : List A) (i : ℕ) (d : A) → i < length l → p (get_or l i d) ≡ true → front p (drop i l) ≡ get_or l i d ∷ front p (drop (i + 1) l)
  unfolding front
  front_more l i d h e = rw (drop-cons l i d, e, add-one i)

  pub front_stop : (l : List A) (i : ℕ) (d : A) → i < length l → p (get_or l i d) ≡ false → front p (drop i l) ≡ []
  unfolding front
  front_stop l i d h e = rw (drop-cons l i d, e)

  pub front_end : (l : List A) (i : ℕ) → length l ≤ i → front p (drop i l) ≡ []
  unfolding front
  front_end l i h = rw (drop_of_length-le l h)

  -- The front is what the run counts.
  pub front_take : (l : List A) → take (run p l) l ≡ front p l
  unfolding front run
  front_take [] = refl
  front_take (x ∷ l) = go (p x) (front_take l)
    where
      go : (b : Bool) → take (run p l) l ≡ front p l → take (cond b (suc (run p l)) 0) (x ∷ l) ≡ cond b (x ∷ front p l) []
      go true r = ap (λ (t : List A). x ∷ t) r
      go false r = refl

  pub front_length : (l : List A) → length (front p l) ≡ run p l
  front_length l = rw (← front_take l) (length-take-le (run p l) l (run_within p l))

  pub front_get : (l : List A) (i : ℕ) (d : A) → i < length (front p l) → get_or (front p l) i d ≡ get_or l i d
  front_get l i d h =
      let k : i < run p l = omega (arith, front_length l) in
      rw (← front_take l, get_or-take (run p l) l i d k)

  -- Whether a run stops ahead of the list's end, asked of every element: one that does not pass is enough.
  abbrev pub Stops : List A → Bool
  Stops l = ltb (run p l) (length l)

  stops_cons : (x : A) (l : List A) → Stops (x ∷ l) ≡ (not (p x) || Stops l)
  unfolding run
  stops_cons x l = go (p x)
    where
      go : (b : Bool) → ltb (cond b (suc (run p l)) 0) (suc (length l)) ≡ (not b || ltb (run p l) (length l))
      go true = leb-suc-suc (suc (run p l)) (length l)
      go false = lt-ltb 0 (suc (length l)) (omega arith)

  pub stops_more : (l : List A) (i : ℕ) (d : A) (any : Bool) → i < length l
      → (any || not (p (get_or l i d)) || Stops (drop (i + 1) l)) ≡ (any || Stops (drop i l))
  stops_more l i d any h =
      let x = get_or l i d in
      let t = drop (suc i) l in
      rw (add-one i, drop-cons l i d, stops_cons x t) (or_assoc any (not (p x)) (Stops t))

  pub stops_end : (l : List A) (i : ℕ) (any : Bool) → length l ≤ i → any ≡ (any || Stops (drop i l))
  unfolding run
  stops_end l i any h = rw (drop_of_length-le l h) (sym (or-false any))

-- Two tests of which the first is the narrower: its run is the beginning of the other's.
module _ {A : Type 0} (p q : A → Bool) (narrower : (x : A) → p x ≡ true → q x ≡ true) where
  pub run_on : (l : List A) → run q l ≡ run p l + run q (drop (run p l) l)
  unfolding run
  run_on [] = refl
  run_on (x ∷ l) = go (p x) refl (run_on l)
    where
      go : (b : Bool) → p x ≡ b → run q l ≡ run p l + run q (drop (run p l) l)
          → cond (q x) (suc (run q l)) 0 ≡ cond b (suc (run p l)) 0 + run q (drop (cond b (suc (run p l)) 0) (x ∷ l))
      go true e r = rw (narrower x e) (omega arith)
      go false e r = sym (zero-add (run q (x ∷ l)))

  pub run_front : (l : List A) → run p (front q l) ≡ run p l
  unfolding run front
  run_front [] = refl
  run_front (x ∷ l) = go (p x) (q x) refl refl (run_front l)
    where
      go : (a b : Bool) → p x ≡ a → q x ≡ b → run p (front q l) ≡ run p l → run p (cond b (x ∷ front q l) []) ≡ cond a (suc (run p l)) 0
      go true true e f r = rw e (ap suc r)
      go true false e f r = absurd (true≢false (sym (narrower x e) ∙ f))
      go false true e f r = rw e
      go false false e f r = refl

-- A word that comes to a place ends there if a blank does; where it does not end, it has a byte there.
pub ends_here : (text : List ℕ) (i : ℕ) → i < length text → is_blank (get_or text i 0) ≡ ends_at text i
unfolding in_word
ends_here text i h = go (is_blank (get_or text i 0)) refl
  where
    go : (b : Bool) → is_blank (get_or text i 0) ≡ b → b ≡ ends_at text i
    go true e = sym (eq-eqb (run in_word (drop i text)) 0 (omega (arith, run_stop in_word text i 0 h (rw e))))
    go false e = sym (ne_eqb (run in_word (drop i text)) 0 (λ q. omega (arith, run_more in_word text i 0 h (rw e))))

pub ends_past : (text : List ℕ) (i : ℕ) → length text ≤ i → true ≡ ends_at text i
ends_past text i h = sym (eq-eqb (run in_word (drop i text)) 0 (omega (arith, run_end in_word text i h)))

pub goes_on : (text : List ℕ) (i : ℕ) → ends_at text i ≡ false → (i < length text) × (in_word (get_or text i 0) ≡ true)
unfolding in_word
goes_on text i e = go (ltb i (length text)) refl
  where
    go : (b : Bool) → ltb i (length text) ≡ b → (i < length text) × (in_word (get_or text i 0) ≡ true)
    go true t = let h = ltb-true i (length text) t in (h, rw (ends_here text i h, e))
    go false t = absurd (true≢false (ends_past text i (ltb-false i (length text) t) ∙ e))

-- The first place whose element does not pass, as the library finds it.
pub first_place : {A : Type 0} (p : A → Bool) (l : List A) → position_or_len (λ x. not (p x)) l ≡ run p l
unfolding run
first_place p [] = refl
first_place p (x ∷ l) = go (p x) (first_place p l)
  where
    go : (b : Bool) → position_or_len (λ x. not (p x)) l ≡ run p l → cond (not (not b)) (1 + position_or_len (λ x. not (p x)) l) 0 ≡ cond b (suc (run p l)) 0
    go true e = omega arith
    go false e = refl
