-- A part of the text: what is told of it, and what holds of it. Assumes nothing.
use Rattle.std.specs.Prelude.{◌≡◌, refl, Bool, true, false, cond, List, ℕ, ◌+◌, ◌<◌, eqb, ltb, length, ⊤}
use Rattle.std.proofs.Common.{sym, ◌∙◌, arith, ltb-true}
use Rattle.meaning.specs.Numbers.{depth_limit, row_limit, word_out_of_place, too_deep, rows_full, cut_short}
use Rattle.meaning.specs.Laws.Tests.{cond_all}
use Rattle.text_reader.specs.Kinds.{Word, Refused}
use Rattle.text_words.specs.Words.{no_kind}
use Rattle.text_reader.specs.Reading.{Part, got, none, bad, bind, misplaced, with_row, as_block}
use Rattle.text_reader.specs.Answers.{refusal, told, out_of_place}

-- A PART THAT IS THERE

pub none_got : {A : Type 0} {x : A} {a r : ℕ} → none ≡ got x a r → ⊥
none_got e = let z : ◌≡◌ {A = ℕ} 0 1 = cc in omega arith

pub bad_got : {A : Type 0} {n place : ℕ} {x : A} {a r : ℕ} → bad n place ≡ got x a r → ⊥
bad_got e = let z : ◌≡◌ {A = ℕ} 0 1 = cc in omega arith

pub same_got : {A : Type 0} {x y : A} {a b r m : ℕ} → got x a r ≡ got y b m → (x ≡ y) × (a ≡ b) × (r ≡ m)
same_got e = (cc, cc, cc)

pub bind_got : {A B : Type 0} (p : Part A) (f : A → ℕ → ℕ → Part B) {y : B} {b m : ℕ} → bind p f ≡ got y b m → (x : A) × (at : ℕ) × (r : ℕ) × (p ≡ got x at r) × (f x at r ≡ got y b m)
unfolding bind
bind_got (got x at r) f e = (x, at, r, refl, e)
bind_got none f e = absurd (none_got e)
bind_got (bad n place) f e = absurd (bad_got e)

-- WHAT IS TOLD OF A PART

pub done_told : {A : Type 0} (x : A) (at rows : ℕ) → got tt at rows ≡ told (got x at rows)
unfolding told
done_told x at rows = refl

pub nothing_told : (A : Type 0) → none ≡ told {A = A} none
unfolding told
nothing_told A = refl

pub refused_told : (A : Type 0) (n place : ℕ) → bad n place ≡ told {A = A} (bad n place)
unfolding told
refused_told A n place = refl

pub told_got : {A : Type 0} (p : Part A) {at rows : ℕ} → got tt at rows ≡ told p → (x : A) × (p ≡ got x at rows)
unfolding told
told_got (got x at' rows') e = (x, cc)
told_got none e = absurd (let z : ◌≡◌ {A = ℕ} 0 1 = cc in omega arith)
told_got (bad n place) e = absurd (let z : ◌≡◌ {A = ℕ} 0 1 = cc in omega arith)

pub told_none : {A : Type 0} (p : Part A) → none ≡ told p → p ≡ none
unfolding told
told_none (got x at rows) e = cc
told_none none e = refl
told_none (bad n place) e = cc

pub told_bad : {A : Type 0} (p : Part A) {n place : ℕ} → bad n place ≡ told p → p ≡ bad n place
unfolding told
told_bad (got x at rows) e = cc
told_bad none e = cc
told_bad (bad n place) e = cc

-- Of a part and what is read behind it: where the part is there, and where it is not.
pub bind_done : {A B : Type 0} (p : Part A) (f : A → ℕ → ℕ → Part B) {at rows : ℕ} {w : Part ⊤} (v : Part ⊤) → w ≡ got tt at rows → w ≡ told p → ((x : A) → v ≡ told (f x at rows)) → v ≡ told (bind p f)
unfolding bind
bind_done p f v d e k = let g = told_got p (sym d ∙ e) in rw g.1 (k g.0)

abbrev pub Stops : Part ⊤ → Type 0
Stops (got x at rows) = ⊥
Stops none = Unit {0}
Stops (bad n place) = Unit {0}

stop_same : {A B : Type 0} (p : Part A) (f : A → ℕ → ℕ → Part B) → Stops (told p) → told p ≡ told (bind p f)
unfolding bind told
stop_same (got x at rows) f h = absurd h
stop_same none f h = refl
stop_same (bad n place) f h = refl

pub bind_stop : {A B : Type 0} (p : Part A) (f : A → ℕ → ℕ → Part B) {w : Part ⊤} → Stops w → w ≡ told p → w ≡ told (bind p f)
bind_stop p f h e = e ∙ stop_same p f (rw e at h)

-- What is made of a part makes no difference.
pub told_with : {A B : Type 0} (p : Part A) (f : A → B) → told p ≡ told (bind p (λ x at rows. got (f x) at rows))
unfolding told bind
told_with (got x at rows) f = refl
told_with none f = refl
told_with (bad n place) f = refl

-- The refusal of a word out of place.
pub told_out : (A : Type 0) (s : List ℕ) (w : Word) → out_of_place s w ≡ told {A = A} (misplaced s w)
unfolding told
told_out A s w = go (eqb w.kind no_kind)
  where
    go : (b : Bool) → cond b (bad cut_short (length s)) (bad word_out_of_place w.start) ≡ told {A = A} (cond b (bad cut_short (length s)) (bad word_out_of_place w.start))
    go true = refl
    go false = refl

pub bad_out : (A : Type 0) (s : List ℕ) (w : Word) (e : Refused) → refusal e ≡ out_of_place s w → misplaced s w ≡ refusal {A = A} e
bad_out A s w e = go (eqb w.kind no_kind)
  where
    go : (b : Bool) → refusal {A = ⊤} e ≡ cond b (bad cut_short (length s)) (bad word_out_of_place w.start)
        → cond {A = Part A} b (bad cut_short (length s)) (bad word_out_of_place w.start) ≡ refusal e
    go true h = cc
    go false h = cc

-- WHAT A PART HOLDS, and the rows that it takes

-- P of what was read, of the place behind it and of the rows; R of a refusal's number and place; nothing of a part that is not there.
abbrev pub Holds : {A : Type 0} → (A → ℕ → ℕ → Type 0) → (ℕ → ℕ → Type 0) → Part A → Type 0
Holds P R (got x at rows) = P x at rows
Holds P R none = Unit {0}
Holds P R (bad n place) = R n place

pub bind_holds : {A B : Type 0} (P : A → ℕ → ℕ → Type 0) (Q : B → ℕ → ℕ → Type 0) (R : ℕ → ℕ → Type 0) (p : Part A) (f : A → ℕ → ℕ → Part B)
    → Holds P R p → ((x : A) (at rows : ℕ) → P x at rows → Holds Q R (f x at rows)) → Holds Q R (bind p f)
unfolding bind
bind_holds P Q R (got x at rows) f h k = k x at rows h
bind_holds P Q R none f h k = tt
bind_holds P Q R (bad n place) f h k = h

-- P of what was read and of the rows behind it; a refusal may be any.
abbrev pub All : {A : Type 0} → (A → ℕ → Type 0) → Part A → Type 0
All P = Holds (λ x at rows. P x rows) (λ n place. Unit {0})

pub bind_all : {A B : Type 0} (P : A → ℕ → Type 0) (Q : B → ℕ → Type 0) (p : Part A) (f : A → ℕ → ℕ → Part B) → All P p → ((x : A) (at rows : ℕ) → P x rows → All Q (f x at rows)) → All Q (bind p f)
bind_all P Q = bind_holds (λ x at rows. P x rows) (λ x at rows. Q x rows) (λ n place. Unit {0})

-- A choice between two ways that wait for the rows.
pub ways_all : {A : Type 0} (P : A → ℕ → Type 0) (b : Bool) (f g : ℕ → Part A) (rows : ℕ) → (b ≡ true → All P (f rows)) → (b ≡ false → All P (g rows)) → All P (cond b f g rows)
ways_all {A} P b f g rows h k = cond_all (λ (way : ℕ → Part A). All P (way rows)) b h k

pub row_all : {A : Type 0} (P : A → ℕ → Type 0) (w : Word) (f : ℕ → Part A) (rows : ℕ) → (rows < row_limit → All P (f (rows + 1))) → All P (with_row w f rows)
row_all P w f rows h = ways_all P (ltb rows row_limit) f (λ r. bad rows_full w.start) (rows + 1) (λ e. h (ltb-true rows row_limit e)) (λ _. tt)

pub block_all : {A : Type 0} (P : A → ℕ → Type 0) (depth : ℕ) (w : Word) (f : ℕ → Part A) (rows : ℕ) → (rows < row_limit → All P (f (rows + 1))) → All P (as_block depth w f rows)
block_all P depth w f rows h = ways_all P (ltb depth depth_limit) (with_row w f) (λ r. bad too_deep w.start) rows (λ _. row_all P w f rows h) (λ _. tt)

-- A PART THAT IS THERE OR REFUSED

abbrev pub Sure : {A : Type 0} → Part A → Type 0
Sure (got x at rows) = Unit {0}
Sure none = ⊥
Sure (bad n place) = Unit {0}

pub bind_sure : {A B : Type 0} (p : Part A) (f : A → ℕ → ℕ → Part B) → Sure p → ((x : A) (at r : ℕ) → Sure (f x at r)) → Sure (bind p f)
unfolding bind
bind_sure (got x at rows) f h k = k x at rows
bind_sure none f h k = h
bind_sure (bad n place) f h k = tt
