-- Parts in a row: what a row is by the part ahead, what is counted of it, and what holds of it. Assumes nothing.
use Rattle.std.specs.Prelude.{◌≡◌, refl, ⊤}
use Rattle.std.proofs.Common.{sym, ◌∙◌}
use Rattle.std.proofs.Math.Path.{ap}
use Prim.Native.Nat.{ℕ, zero, suc, ◌+◌, ◌-◌}
use native.Mathlib.Omega.{arith}
use Rattle.text_reader.specs.Reading.{Part, got, none, bad, bind, ahead, many}
use Rattle.text_reader.specs.Answers.{told, counted}
use Rattle.text_reader.specs.Laws.Parts.{bad_got, bind_got, told_got, told_none, told_bad, Stops, Holds, bind_holds, Sure, bind_sure}

-- A ROW THAT WAS READ

module _ {A B : Type 0} (join : A → B → B) (rest : ℕ → ℕ → Part B) (end : Part B) {b : B} {a r : ℕ} where
  -- It begins with a part, or is what ends it.
  pub ahead_ways : {Q : Type 0} (p : Part A) → ahead join rest end p ≡ got b a r → ((x : A) (a' r' : ℕ) → p ≡ got x a' r' → Q)
      → (p ≡ none → end ≡ got b a r → Q) → Q
  ahead_ways (got x a' r') e f g = f x a' r' refl
  ahead_ways none e f g = g refl e
  ahead_ways (bad n place) e f g = absurd (bad_got e)

  -- Behind a part that is there stands the rest; where none is, the end.
  pub ahead_got : (p : Part A) → ahead join rest end p ≡ got b a r → {x : A} {a' r' : ℕ} → p ≡ got x a' r' → (c : B) × (rest a' r' ≡ got c a r) × (b ≡ join x c)
  ahead_got p e {x} {a'} {r'} q = let g = bind_got (rest a' r') (λ b a r. got (join x b) a r) (rw q at e) in (g.0, cc, cc)

  pub ahead_last : (p : Part A) → ahead join rest end p ≡ got b a r → Stops (told p) → end ≡ got b a r
  unfolding told
  ahead_last p e h = ahead_ways p e (λ x a' r' q. absurd (rw q at h)) (λ _ f. f)

module _ {A B : Type 0} (join : A → B → B) (one : ℕ → ℕ → ℕ → Part A) (end : ℕ → ℕ → Part B) where
  -- With any number left it is a part ahead of others; where any are left, of a row with one fewer left.
  many_is : (left : ℕ) → (rest : ℕ → ℕ → Part B) × ((j : ℕ) → suc j ≡ left → rest ≡ many join one end j)
      × ((at rows : ℕ) → many join one end left at rows ≡ ahead join rest (end at rows) (one left at rows))
  unfolding many
  many_is zero = (end, λ j q. absurd (omega arith), λ at rows. refl)
  many_is (suc left) = (many join one end left, λ j q. let z : left ≡ j = omega arith in ap (many join one end) z, λ at rows. refl)

  module _ (left at rows : ℕ) {b : B} {a r : ℕ} (e : many join one end left at rows ≡ got b a r) where
    pub many_ways : {Q : Type 0} → ((x : A) (a' r' : ℕ) → one left at rows ≡ got x a' r' → Q)
        → (one left at rows ≡ none → end at rows ≡ got b a r → Q) → Q
    many_ways = let m = many_is left in ahead_ways join m.0 (end at rows) (one left at rows) (sym (m.2 at rows) ∙ e)

    pub many_got : {x : A} {a' r' : ℕ} → one left at rows ≡ got x a' r' → (j : ℕ) → suc j ≡ left
        → (c : B) × (many join one end j a' r' ≡ got c a r) × (b ≡ join x c)
    many_got q j z =
        let m = many_is left in
        rw (← m.1 j z) (ahead_got join m.0 (end at rows) (one left at rows) (sym (m.2 at rows) ∙ e) q)

    pub many_last : Stops (told (one left at rows)) → end at rows ≡ got b a r
    many_last = let m = many_is left in ahead_last join m.0 (end at rows) (one left at rows) (sym (m.2 at rows) ∙ e)

-- WHAT IS COUNTED, by what is told of the part ahead

counted_more : {A : Type 0} (size : A → ℕ) (n : ℕ) (p : Part A) (f : A → A) → ((x : A) → size (f x) ≡ suc (size x))
    → counted size (n + 1) p ≡ counted size n (bind p (λ x at r. got (f x) at r))
unfolding counted bind
counted_more size n (got x at r) f h = let q = h x in let e : n + 1 + size x ≡ n + size (f x) = omega arith in rw e
counted_more size n none f h = refl
counted_more size n (bad m place) f h = refl

module _ {A B : Type 0} (join : A → B → B) (one : ℕ → ℕ → ℕ → Part A) (end : ℕ → ℕ → Part B) (size : B → ℕ) (left at rows n : ℕ) {v : Part ⊤} where
  -- One more, where `size` counts a part.
  pub many_more : {a r : ℕ} → v ≡ got tt a r → v ≡ told (one left at rows) → ((x : A) (b : B) → size (join x b) ≡ suc (size b)) → (j : ℕ) → suc j ≡ left
      → counted size (n + 1) (many join one end j a r) ≡ counted size n (many join one end left at rows)
  many_more {a} {r} e h k j q =
      let m = many_is join one end left in
      let g = told_got (one left at rows) (sym e ∙ h) in
      rw (m.2 at rows, g.1, m.1 j q) (counted_more size n (many join one end j a r) (join g.0) (k g.0))

  -- The end, which counts nothing.
  pub many_end : (x : B) → size x ≡ 0 → end at rows ≡ got x at rows → v ≡ none → v ≡ told (one left at rows)
      → got n at rows ≡ counted size n (many join one end left at rows)
  unfolding counted
  many_end x z f e h =
      let q : n ≡ n + size x = omega arith in
      rw ((many_is join one end left).2 at rows, told_none (one left at rows) (sym e ∙ h), f) (ap (λ (m : ℕ). got m at rows) q)

  -- A refusal.
  pub many_bad : {m place : ℕ} → v ≡ bad m place → v ≡ told (one left at rows)
      → bad m place ≡ counted size n (many join one end left at rows)
  unfolding counted
  many_bad e h = rw ((many_is join one end left).2 at rows, told_bad (one left at rows) (sym e ∙ h))

-- What was counted is there.
pub counted_done : {A : Type 0} (size : A → ℕ) (p : Part A) {a r n : ℕ} → got n a r ≡ counted size 0 p → (x : A) × (p ≡ got x a r) × (n ≡ size x)
unfolding counted
counted_done size (got x a r) {n = n} e = (x, cc, let z : n ≡ 0 + size x = cc in omega arith)
counted_done size none e = absurd (let z : ◌≡◌ {A = ℕ} 0 1 = cc in omega arith)
counted_done size (bad m place) e = absurd (let z : ◌≡◌ {A = ℕ} 0 1 = cc in omega arith)

-- WHAT HOLDS

-- Of two rows (or of one twice), if of their ends and, where it holds of what stands behind the parts ahead, with one fewer left, of
-- the whole.
module _ {A B C D : Type 0} (join : A → B → B) (one : ℕ → ℕ → ℕ → Part A) (end : ℕ → ℕ → Part B)
    (join' : C → D → D) (one' : ℕ → ℕ → ℕ → Part C) (end' : ℕ → ℕ → Part D)
    (Q : ℕ → ℕ → ℕ → Part B → Part D → Type 0) (ends : (at rows : ℕ) → Q 0 at rows (end at rows) (end' at rows))
    (parts : (rest : ℕ → ℕ → Part B) (rest' : ℕ → ℕ → Part D) (left at rows : ℕ) → ((a r : ℕ) → Q (left - 1) a r (rest a r) (rest' a r))
    → Q left at rows (ahead join rest (end at rows) (one left at rows)) (ahead join' rest' (end' at rows) (one' left at rows))) where
  pub many_by : (left at rows : ℕ) → Q left at rows (many join one end left at rows) (many join' one' end' left at rows)
  unfolding many
  many_by zero at rows = parts end end' zero at rows ends
  many_by (suc left) at rows =
      let z : suc left - 1 ≡ left = omega arith in
      parts (many join one end left) (many join' one' end' left) (suc left) at rows (λ a r. rw z (many_by left a r))

module _ {A B : Type 0} (join : A → B → B) where
  -- A row is there or refused where what ends it is.
  pub ahead_sure : (rest : ℕ → ℕ → Part B) (end : Part B) (p : Part A) → ((a r : ℕ) → Sure (rest a r)) → Sure end → Sure (ahead join rest end p)
  ahead_sure rest end (got x a r) f h = bind_sure (rest a r) _ (f a r) (λ _ _ _. tt)
  ahead_sure rest end none f h = h
  ahead_sure rest end (bad n place) f h = tt

  pub many_sure : (one : ℕ → ℕ → ℕ → Part A) (end : ℕ → ℕ → Part B) → ((at rows : ℕ) → Sure (end at rows))
      → (left at rows : ℕ) → Sure (many join one end left at rows)
  many_sure one end h =
      many_by join one end join one end (λ left at rows p _. Sure p) h (λ rest _ left at rows f. ahead_sure rest (end at rows) (one left at rows) f (h at rows))

  -- What holds of the part ahead and of the end holds of the row, where joining keeps it.
  pub ahead_holds : (P : A → ℕ → ℕ → Type 0) (Q : ℕ → B → ℕ → ℕ → Type 0) (S : B → ℕ → ℕ → Type 0) (R : ℕ → ℕ → Type 0)
      (rest : ℕ → ℕ → Part B) (end : Part B) (p : Part A) → Holds P R p → ((x : A) (a r : ℕ) → P x a r → Holds (Q r) R (rest a r))
      → ((x : A) (a r : ℕ) (b : B) (c m : ℕ) → P x a r → Q r b c m → S (join x b) c m) → Holds S R end → Holds S R (ahead join rest end p)
  ahead_holds P Q S R rest end (got x a r) h f k e = bind_holds (Q r) S R (rest a r) _ (f x a r h) (λ b c m q. k x a r b c m h q)
  ahead_holds P Q S R rest end none h f k e = e
  ahead_holds P Q S R rest end (bad n place) h f k e = h

  -- The same where parts are read from some places, and with some rows so far, alone: `Fine`.
  module _ (one : ℕ → ℕ → ℕ → Part A) (end : ℕ → ℕ → Part B)
      (Fine : ℕ → ℕ → Type 0) (P : ℕ → ℕ → A → ℕ → ℕ → Type 0) (Q : ℕ → ℕ → B → ℕ → ℕ → Type 0) (R : ℕ → ℕ → Type 0)
      (part : (left at rows : ℕ) → Fine at rows → Holds (P left rows) R (one left at rows))
      (last : (left at rows : ℕ) → Fine at rows → Holds (Q left rows) R (end at rows))
      (next : (left at rows : ℕ) (x : A) (a r : ℕ) → Fine at rows → P left rows x a r → Fine a r)
      (joined : (left rows : ℕ) (x : A) (a r : ℕ) (b : B) (c m : ℕ) → P left rows x a r → Q (left - 1) r b c m → Q left rows (join x b) c m) where
    pub many_holds : (left at rows : ℕ) → Fine at rows → Holds (Q left rows) R (many join one end left at rows)
    many_holds =
        many_by join one end join one end (λ left at rows p _. Fine at rows → Holds (Q left rows) R p) (last 0)
        (λ rest _ left at rows f i. ahead_holds (P left rows) (Q (left - 1)) (Q left rows) R rest (end at rows) (one left at rows) (part left at rows i)
        (λ x a r h. f a r (next left at rows x a r i h)) (joined left rows) (last left at rows i))

-- Two rows are the same, if so are their ends, the parts ahead and what stands behind such parts.
module _ {A B : Type 0} (join : A → B → B) (P : A → ℕ → ℕ → Type 0) (R : ℕ → ℕ → Type 0) (rest rest' : ℕ → ℕ → Part B) (end end' : Part B) where
  pub ahead_same : (p p' : Part A) → Holds P R p → ((x : A) (a r : ℕ) → P x a r → rest a r ≡ rest' a r) → end ≡ end' → p ≡ p'
      → ahead join rest end p ≡ ahead join rest' end' p'
  ahead_same (got x a r) p' h f e q = ap (λ c. bind c (λ b a r. got (join x b) a r)) (f x a r h) ∙ ap (ahead join rest' end') q
  ahead_same none p' h f e q = e ∙ ap (ahead join rest' end') q
  ahead_same (bad n place) p' h f e q = ap (ahead join rest' end') q
