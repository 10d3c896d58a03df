-- One lap over a body and over cases that the definitions read, by what the reader answers there. Assumes nothing.
use Rattle.std.specs.Prelude.{◌≡◌, refl, Bool, true, false, cond, List, eqb, length, ⊤}
use Rattle.std.proofs.Math.Path.{sym, ap}
use Rattle.std.proofs.Common.{◌∙◌, arith, eq-eqb, ne_eqb, eqb-true}
use Prim.Native.Nat.{ℕ, zero, suc, ◌+◌, ◌-◌, ◌≤◌, ◌<◌}
use Rattle.std.proofs.lemmas.Bool.{eqb-false}
use Rattle.translate_rows.specs.Kinds.{Op, Word, Head}
use Rattle.meaning.specs.Numbers.{case_limit, row_limit, word_out_of_place, cut_short}
use Rattle.meaning.specs.Text.{Stmt, ifok, select, Body, empty, ◌▸◌, Cases, nomore, default, case}
use Rattle.meaning.specs.Layout.{case_count, size_s, size_b, size_c}
use Rattle.text_words.specs.Words.{no_kind, else_kind, default_kind, end_kind, word_at}
use Rattle.text_reader.specs.Reading.{Part, got, bad, bind, closed_by, closed, second_by, case_by, last_by, cases_from, stmt_by, body_from}
use Rattle.text_reader.specs.Answers.{told, self, count_from, StmtTold, CaseTold, CasesTold, HeadTold}
use Rattle.text_reader.specs.Laws.Parts.{bad_got, same_got, bind_got, told_got, Stops, All}
use Rattle.text_reader.specs.Laws.Many.{ahead_got, ahead_last, many_got, many_last, counted_done}
use Rattle.text_reader.specs.Laws.Heads.{stmt_of, head_told, stmt_of_lem}
use Rattle.text_reader.specs.Laws.Sizes.{SizedS, SizedB, SizedCase, SizedC, stmt_sized, body_sized, case_sized, cases_sized}
use Rattle.text_reader.specs.Laws.Selects.{behind_cases, cases_split}

-- A bind whose first part was told to be there.
pub bind_told : {A B : Type 0} (p : Part A) (f : A → ℕ → ℕ → Part B) {v : Part ⊤} {a' r' : ℕ} {y : B} {b m : ℕ} → v ≡ got tt a' r' → v ≡ told p → bind p f ≡ got y b m → (x : A) × (p ≡ got x a' r') × (f x a' r' ≡ got y b m)
unfolding bind
bind_told p f d h e = let g = told_got p (sym d ∙ h) in (g.0, g.1, rw g.1 at e)

pub closed_got : (s : List ℕ) (x : Stmt) (at rows : ℕ) {y : Stmt} {a r : ℕ} → closed s x at rows ≡ got y a r → x ≡ y
unfolding closed_by
closed_got s x at rows {y} {a} {r} e = go (eqb (word_at s at).kind end_kind) (eqb (word_at s at).kind no_kind) e
  where
    go : (b c : Bool) → cond b (got x (word_at s at).next rows) (cond c (bad cut_short (length s)) (bad word_out_of_place (word_at s at).start)) ≡ got y a r → x ≡ y
    go true c e = (same_got e).0
    go false true e = absurd (bad_got e)
    go false false e = absurd (bad_got e)

-- The way of a choice that gives a part.
pub way_first : {A : Type 0} (b : Bool) (f g : ℕ → Part A) (rows : ℕ) {y : A} {a r : ℕ} → cond b f g rows ≡ got y a r → (g rows ≡ got y a r → ⊥) → f rows ≡ got y a r
way_first true f g rows e h = e
way_first false f g rows e h = absurd (h e)

pub way_second : {A : Type 0} (b : Bool) (f g : ℕ → Part A) (rows : ℕ) {y : A} {a r : ℕ} → cond b f g rows ≡ got y a r → (f rows ≡ got y a r → ⊥) → g rows ≡ got y a r
way_second true f g rows e h = absurd (h e)
way_second false f g rows e h = e

-- BODIES

-- The first statement of a body, and the rest.
pub record Lap (s : List ℕ) (channels depth at rows a' n : ℕ) (b : Body) (a r : ℕ) : Type 0 where
  pub steps : ℕ
  pub one : Stmt
  pub rest : Body
  pub enough : row_limit ≤ steps + rows
  pub enough' : row_limit - n < steps
  pub is : stmt_by s channels (body_from steps s channels (depth + 1)) depth (word_at s at) rows ≡ got one a' n
  pub rest_is : body_from steps s channels depth a' n ≡ got rest a r
  pub whole : b ≡ one ▸ rest
  pub size : n ≡ rows + size_s one

module _ (s : List ℕ) (channels depth at rows : ℕ) where
  pub lap : {a' n : ℕ} {v : Part ⊤} → v ≡ got tt a' n → StmtTold s channels depth at rows v → (m : ℕ) → row_limit - rows < m → {b : Body} {a r : ℕ} → body_from m s channels depth at rows ≡ got b a r → Lap s channels depth at rows a' n b a r
  unfolding body_from
  lap q h zero l e = absurd (omega arith)
  lap {a'} {n} q h (suc k) l e =
      let p = stmt_by s channels (body_from k s channels (depth + 1)) depth (word_at s at) rows in
      let g = told_got p (sym q ∙ h k (omega arith)) in
      let z : All (SizedS rows) (got g.0 a' n) = rw g.1 at (stmt_sized s channels (body_from k s channels (depth + 1)) (body_sized k s channels (depth + 1)) depth (word_at s at) rows) in
      let y = ahead_got ◌▸◌ (body_from k s channels depth) (got empty at rows) p e g.1 in
      record { steps = k; one = g.0; rest = y.0; enough = omega arith; enough' = omega (arith, z.1); is = g.1; rest_is = y.1; whole = y.2; size = z.2 }

  pub no_lap : {v : Part ⊤} → Stops v → StmtTold s channels depth at rows v → (m : ℕ) → row_limit - rows < m → {b : Body} {a r : ℕ} → body_from m s channels depth at rows ≡ got b a r → b ≡ empty
  unfolding body_from
  no_lap q h zero l e = absurd (omega arith)
  no_lap q h (suc k) l e =
      let p = stmt_by s channels (body_from k s channels (depth + 1)) depth (word_at s at) rows in
      sym (same_got (ahead_last ◌▸◌ (body_from k s channels depth) (got empty at rows) p e (rw (h k (omega arith)) at q))).0

-- WHAT STANDS BEHIND CASES

module _ (s : List ℕ) (channels : ℕ) (sub : ℕ → ℕ → Part Body) (at rows : ℕ) where
  pub last_default : {w : Word} {cs : Cases} {a r : ℕ} → w ≡ word_at s at → w.kind ≡ default_kind → last_by s channels sub at (word_at s at) rows ≡ got cs a r → (b : Body) × (sub w.next rows ≡ got b a r) × (cs ≡ default b)
  unfolding last_by
  last_default {w} {cs} {a} {r} q t e =
      let e' : last_by s channels sub at w rows ≡ got cs a r = ap (λ (v : Word). last_by s channels sub at v rows) q ∙ e in
      let g = bind_got (sub w.next rows) (λ b at r. got (default b) at r) (rw (eq-eqb w.kind default_kind t) at e') in
      (g.0, cc, cc)

  pub last_nomore : {w : Word} {cs : Cases} {a r : ℕ} → w ≡ word_at s at → (w.kind ≡ default_kind → ⊥) → last_by s channels sub at (word_at s at) rows ≡ got cs a r → cs ≡ nomore
  unfolding last_by
  last_nomore {w} {cs} {a} {r} q t e =
      let e' : last_by s channels sub at w rows ≡ got cs a r = ap (λ (v : Word). last_by s channels sub at v rows) q ∙ e in
      sym (same_got (rw (ne_eqb w.kind default_kind t) at e')).0

-- CASES

-- The first of several cases, and the rest.
pub record CaseLap (k : ℕ) (s : List ℕ) (channels depth left at rows a' n : ℕ) (cs : Cases) (a r : ℕ) : Type 0 where
  pub op : Op
  pub one : Body
  pub rest : Cases
  pub fewer : ℕ
  pub left_is : left ≡ suc fewer
  pub is : case_by s channels (body_from k s channels depth) left (word_at s at) rows ≡ got (op, one) a' n
  pub rest_is : cases_from s channels (body_from k s channels depth) fewer a' n ≡ got rest a r
  pub whole : cs ≡ case op one rest
  pub size : n ≡ rows + 1 + size_b one

module _ (k : ℕ) (s : List ℕ) (channels depth left at rows : ℕ) where
  pub case_lap : {a' n : ℕ} {v : Part ⊤} {cs : Cases} {a r : ℕ} → row_limit ≤ k + rows → v ≡ got tt a' n → CaseTold s channels depth at rows left v
      → cases_from s channels (body_from k s channels depth) left at rows ≡ got cs a r → CaseLap k s channels depth left at rows a' n cs a r
  unfolding cases_from
  case_lap {a'} {n} l q h e =
      let g = told_got (case_by s channels (body_from k s channels depth) left (word_at s at) rows) (sym q ∙ h k l) in
      let b : All (SizedCase left rows) (got g.0 a' n) = rw g.1 at (case_sized s channels (body_from k s channels depth) (body_sized k s channels depth) left (word_at s at) rows) in
      let z : suc (left - 1) ≡ left = omega (arith, b.1) in
      let y = many_got _ _ _ left at rows e g.1 (left - 1) z in
      record { op = g.0.0; one = g.0.1; rest = y.0; fewer = left - 1; left_is = sym z; is = g.1; rest_is = y.1; whole = y.2; size = b.2 }

  -- Where no case stands, the default is due.
  pub no_case_lem : {v : Part ⊤} {cs : Cases} {a r : ℕ} → row_limit ≤ k + rows → Stops v → CaseTold s channels depth at rows left v → cases_from s channels (body_from k s channels depth) left at rows ≡ got cs a r
      → last_by s channels (body_from k s channels depth) at (word_at s at) rows ≡ got cs a r
  unfolding cases_from
  no_case_lem l q h e = many_last _ _ _ left at rows e (rw (h k l) at q)

-- IFOK

module _ (s : List ℕ) (channels : ℕ) (sub : ℕ → ℕ → Part Body) (b : Body) (at rows : ℕ) where
  pub if_else : {w : Word} {x : Stmt} {a r : ℕ} → w ≡ word_at s at → w.kind ≡ else_kind → second_by s channels sub b at (word_at s at) rows ≡ got x a r
      → (c : Body) × (a' : ℕ) × (r' : ℕ) × (sub w.next rows ≡ got c a' r') × (ifok b c ≡ x)
  unfolding second_by
  if_else {w} {x} {a} {r} q t e =
      let e' : second_by s channels sub b at w rows ≡ got x a r = ap (λ (v : Word). second_by s channels sub b at v rows) q ∙ e in
      let g = bind_got (sub w.next rows) (λ c at r. closed s (ifok b c) at r) (rw (eq-eqb w.kind else_kind t) at e') in
      (g.0, g.1, g.2, g.3, closed_got s (ifok b g.0) g.1 g.2 g.4)

  pub if_end : {w : Word} {x : Stmt} {a r : ℕ} → w ≡ word_at s at → (w.kind ≡ else_kind → ⊥) → second_by s channels sub b at (word_at s at) rows ≡ got x a r → ifok b empty ≡ x
  unfolding second_by
  if_end {w} {x} {a} {r} q t e =
      let e' : second_by s channels sub b at w rows ≡ got x a r = ap (λ (v : Word). second_by s channels sub b at v rows) q ∙ e in
      closed_got s (ifok b empty) at rows (rw (ne_eqb w.kind else_kind t) at e')

pub body_size : (k : ℕ) (s : List ℕ) (channels depth at rows : ℕ) {b : Body} {a r : ℕ} → body_from k s channels depth at rows ≡ got b a r → r ≡ rows + size_b b
body_size k s channels depth at rows {b} {a} {r} e = let z : All (SizedB rows) (got b a r) = rw e at (body_sized k s channels depth at rows) in z

-- SELECT

last_size : (k : ℕ) (s : List ℕ) (channels depth at rows : ℕ) {cs : Cases} {a r : ℕ} → last_by s channels (body_from k s channels depth) at (word_at s at) rows ≡ got cs a r → r ≡ rows + size_c cs
unfolding size_c last_by
last_size k s channels depth at rows {cs} {a} {r} e = go (eqb (word_at s at).kind default_kind) refl
  where
    go : (b : Bool) → eqb (word_at s at).kind default_kind ≡ b → r ≡ rows + size_c cs
    go true t =
        let z = last_default s channels (body_from k s channels depth) at rows refl (eqb-true (word_at s at).kind default_kind t) e in
        let f : size_c cs ≡ size_b z.0 = ap size_c z.2 in
        let g = body_size k s channels depth (word_at s at).next rows z.1 in
        omega arith
    go false t =
        let z = last_nomore s channels (body_from k s channels depth) at rows refl (eqb-false (word_at s at).kind default_kind t) e in
        let f : got nomore at rows ≡ got cs a r = rw t at e in
        let g : size_c cs ≡ 0 = ap size_c z in
        let h = (same_got f).2 in
        omega arith

-- A select that is there: its cases, how many, and what stands behind them at the place that was counted to.
pub record Chosen (k : ℕ) (s : List ℕ) (channels depth at rows b m n : ℕ) (x : Stmt) : Type 0 where
  pub cases : Cases
  pub end : ℕ
  pub total : ℕ
  pub is : cases_from s channels (body_from k s channels depth) case_limit at rows ≡ got cases end total
  pub whole : select cases ≡ x
  pub count : n ≡ case_count cases
  pub last_is : last_by s channels (body_from k s channels depth) b (word_at s b) m ≡ got (behind_cases cases) end total
  pub size : m + size_c (behind_cases cases) ≡ rows + case_count cases + size_c cases

pub chosen : (k : ℕ) (s : List ℕ) (channels depth at rows : ℕ) {b m n : ℕ} {v : Part ℕ} {x : Stmt} {a r : ℕ} → row_limit - rows < k → v ≡ got n b m → CasesTold s channels depth at rows v
    → bind (cases_from s channels (body_from k s channels depth) case_limit at rows) (λ cs at r. closed s (select cs) at r) ≡ got x a r → Chosen k s channels depth at rows b m n x
chosen k s channels depth at rows {b} {m} {n} l q h e =
    let sub = body_from k s channels depth in
    let g = bind_got (cases_from s channels sub case_limit at rows) (λ cs at r. closed s (select cs) at r) e in
    let t = cases_split s channels sub (body_sized k s channels depth) case_limit at rows g.0 g.1 g.2 g.3 in
    let d = counted_done self (count_from s channels sub case_limit at rows) (sym q ∙ h k l) in
    let i = same_got (sym d.1 ∙ t.2) in
    let z : All (SizedC rows) (got g.0 g.1 g.2) = rw g.3 at (cases_sized s channels sub (body_sized k s channels depth) case_limit at rows) in
    let f : last_by s channels sub b (word_at s b) m ≡ got (behind_cases g.0) g.1 g.2 = rw (i.1, i.2) t.3 in
    let y = last_size k s channels depth b m f in
    let w = closed_got s (select g.0) g.1 g.2 g.4 in
    record { cases = g.0; end = g.1; total = g.2; is = g.3; whole = w; count = d.2 ∙ i.0; last_is = f; size = omega arith }

-- What a head begins, as the definitions read it.
pub head_as : (s : List ℕ) (channels depth at rows : ℕ) {v i : Part Head} → v ≡ i → HeadTold s channels depth at rows v → (sub : ℕ → ℕ → Part Body) {p : Part Stmt}
    → stmt_by s channels sub depth (word_at s at) rows ≡ p → stmt_of s channels sub rows i ≡ p
head_as s channels depth at rows {v} {i} e h sub f = stmt_of_lem s channels depth at rows sub i (head_told s channels depth at rows e h) ∙ f
