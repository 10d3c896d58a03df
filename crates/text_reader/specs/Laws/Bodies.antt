-- One lap of each loop over statements and cases, and what the calls between the readers hand on. Assumes nothing.
use Rattle.std.specs.Prelude.{◌≡◌, List, ⊤}
use Rattle.std.proofs.Math.Path.{refl, sym}
use Rattle.std.proofs.Common.{ap, ◌∙◌, arith}
use Prim.Native.Nat.{ℕ, zero, suc, ◌+◌, ◌-◌, ◌≤◌, ◌<◌}
use borrow.Author.Tests.{eq-eqb, ne_eqb}
use Rattle.text_reader.specs.Kinds.{Op, Word}
use Rattle.meaning.specs.Numbers.{case_limit, row_limit}
use Rattle.meaning.specs.Text.{ifok, Body, empty, ◌▸◌, Cases, default, case}
use Rattle.meaning.specs.Layout.{size_b}
use Rattle.text_words.specs.Words.{else_kind, default_kind, word_at}
use Rattle.text_reader.specs.Reading.{Part, got, none, bad, bind, ahead, closed, second_by, case_by, last_by, cases_from, stmt_by, body_from}
use Rattle.text_reader.specs.Answers.{told, self, counted, CaseHeadTold, BodyTold, StmtTold, CaseTold, CasesTold, count_from}
use Rattle.text_reader.specs.Laws.Parts.{same_got, bind_got, told_got, told_none, told_bad, told_with, All, Sure}
use Rattle.text_reader.specs.Laws.Many.{many_more, many_end, many_bad, counted_done, many_sure, many_holds, many_by}
use Rattle.text_reader.specs.Laws.Sizes.{SizedB, SizedS, SizedCase, case_sized, stmt_sized, body_sized}

-- What is told of a statement or a body that was read: how its rows grow.
module _ (s : List ℕ) (channels depth at rows : ℕ) {a r : ℕ} {v : Part ⊤} (e : v ≡ got tt a r) where
  pub stmt_grows : StmtTold s channels depth at rows v → (rows < row_limit) × (rows < r)
  stmt_grows h =
      let p = stmt_by s channels (body_from row_limit s channels (depth + 1)) depth (word_at s at) rows in
      let g = told_got p (sym e ∙ h row_limit (omega arith)) in
      let z : All (SizedS rows) (got g.0 a r) = rw g.1 at (stmt_sized s channels (body_from row_limit s channels (depth + 1)) (body_sized row_limit s channels (depth + 1)) depth (word_at s at) rows) in
      (z.0, z.1)

  pub body_grows : BodyTold s channels depth at rows v → rows ≤ r
  body_grows h =
      let g = told_got (body_from (suc row_limit) s channels depth at rows) (sym e ∙ h (suc row_limit) (omega arith)) in
      let z : All (SizedB rows) (got g.0 a r) = rw g.1 at (body_sized (suc row_limit) s channels depth at rows) in
      omega arith

-- ONE LAP OF THE LOOP OVER STATEMENTS

module _ (s : List ℕ) (channels depth at rows : ℕ) where
  body_more : (k : ℕ) {a r : ℕ} → got tt a r ≡ told (stmt_by s channels (body_from k s channels (depth + 1)) depth (word_at s at) rows) → told (body_from k s channels depth a r) ≡ told (body_from (suc k) s channels depth at rows)
  unfolding body_from
  body_more k {a} {r} e =
      let g = told_got (stmt_by s channels (body_from k s channels (depth + 1)) depth (word_at s at) rows) e in
      rw g.1 (told_with (body_from k s channels depth a r) (g.0 ▸◌))

  pub body_step : {v : Part ⊤} (m : ℕ) → row_limit - rows < m → StmtTold s channels depth at rows v → {a r : ℕ} → v ≡ got tt a r
      → (j : ℕ) × (row_limit - r < j) × (told (body_from j s channels depth a r) ≡ told (body_from m s channels depth at rows))
  body_step zero h f e = absurd (omega arith)
  body_step (suc j) h f e = let g = stmt_grows s channels depth at rows e f in (j, omega arith, body_more j (sym e ∙ f j (omega arith)))

  pub body_end : {v : Part ⊤} (m : ℕ) → row_limit - rows < m → StmtTold s channels depth at rows v → v ≡ none
      → got tt at rows ≡ told (body_from m s channels depth at rows)
  unfolding body_from told
  body_end zero h f e = absurd (omega arith)
  body_end (suc j) h f e = rw (told_none (stmt_by s channels (body_from j s channels (depth + 1)) depth (word_at s at) rows) (sym e ∙ f j (omega arith)))

  pub body_refused : {v : Part ⊤} (m : ℕ) → row_limit - rows < m → StmtTold s channels depth at rows v → {n place : ℕ} → v ≡ bad n place
      → bad n place ≡ told (body_from m s channels depth at rows)
  unfolding body_from told
  body_refused zero h f e = absurd (omega arith)
  body_refused (suc j) h f e = rw (told_bad (stmt_by s channels (body_from j s channels (depth + 1)) depth (word_at s at) rows) (sym e ∙ f j (omega arith)))

-- ONE LAP OF THE LOOP OVER CASES

module _ (s : List ℕ) (channels : ℕ) (sub : ℕ → ℕ → Part Body) where
  pub count_step : (left at rows n : ℕ) {a r : ℕ} {v : Part ⊤} → v ≡ got tt a r → v ≡ told (case_by s channels sub left (word_at s at) rows)
      → (j : ℕ) → suc j ≡ left → counted self (n + 1) (count_from s channels sub j a r) ≡ counted self n (count_from s channels sub left at rows)
  unfolding count_from
  count_step left at rows n e h = many_more _ _ _ self left at rows n e h (λ k n. refl)

  pub count_end : (left at rows n : ℕ) {v : Part ⊤} → v ≡ none → v ≡ told (case_by s channels sub left (word_at s at) rows) → got n at rows ≡ counted self n (count_from s channels sub left at rows)
  unfolding count_from
  count_end left at rows n e h = many_end _ _ _ self left at rows n 0 refl refl e h

  pub count_refused : (left at rows n : ℕ) {v : Part ⊤} {m place : ℕ} → v ≡ bad m place → v ≡ told (case_by s channels sub left (word_at s at) rows) → bad m place ≡ counted self n (count_from s channels sub left at rows)
  unfolding count_from
  count_refused left at rows n e h = many_bad _ _ _ self left at rows n e h

-- The cases that were counted, and what is told of them with the default behind them.
module _ (s : List ℕ) (channels : ℕ) (sub : ℕ → ℕ → Part Body) (counts : (at rows : ℕ) → All (SizedB rows) (sub at rows)) where
  abbrev last_of : ℕ → ℕ → ℕ → Part Cases
  last_of n at rows = last_by s channels sub at (word_at s at) rows

  bind_suc : (p : Part ℕ) → told (bind p last_of) ≡ told (bind (bind p (λ n a r. got (suc n) a r)) last_of)
  unfolding bind
  bind_suc (got n at rows) = refl
  bind_suc none = refl
  bind_suc (bad n place) = refl

  last_by_lem : (rest : ℕ → ℕ → Part Cases) (restc : ℕ → ℕ → Part ℕ) (at rows : ℕ) (p : Part (Op × Body))
      → ((a r : ℕ) → told (rest a r) ≡ told (bind (restc a r) last_of))
      → told (ahead (λ k cs. case k.0 k.1 cs) rest (last_of 0 at rows) p) ≡ told (bind (ahead (λ k n. suc n) restc (got 0 at rows) p) last_of)
  unfolding bind
  last_by_lem rest restc at rows (got k a r) h = sym (told_with (rest a r) (case k.0 k.1)) ∙ h a r ∙ bind_suc (restc a r)
  last_by_lem rest restc at rows none h = refl
  last_by_lem rest restc at rows (bad n place) h = refl

  cases_last : (left at rows : ℕ) → told (cases_from s channels sub left at rows) ≡ told (bind (count_from s channels sub left at rows) last_of)
  unfolding cases_from count_from bind
  cases_last =
      many_by _ _ _ _ _ _ (λ left at rows p q. told p ≡ told (bind q last_of)) (λ at rows. refl)
      (λ rest restc left at rows h. last_by_lem rest restc at rows (case_by s channels sub left (word_at s at) rows) h)

  count_sure : (left at rows : ℕ) → Sure (count_from s channels sub left at rows)
  unfolding count_from
  count_sure = many_sure _ _ _ (λ at rows. tt)

  -- The rows don't fall.
  count_rows : (left at rows : ℕ) → All (λ n r. rows ≤ r) (count_from s channels sub left at rows)
  unfolding count_from
  count_rows left at rows =
      many_holds _ _ _ (λ at rows. Unit {0}) (λ left rows k a r. SizedCase left rows k r) (λ left rows n a r. rows ≤ r) _
      (λ left at rows _. case_sized s channels sub counts left (word_at s at) rows) (λ left at rows _. omega arith) (λ _ _ _ _ _ _ _ _. tt)
      (λ left rows k a r n c m e z. omega arith) left at rows tt

  module _ {w : Part ℕ} (left at rows : ℕ) (e : w ≡ counted self 0 (count_from s channels sub left at rows)) where
    count_grows : {a r n : ℕ} → w ≡ got n a r → rows ≤ r
    count_grows {a} {r} d =
        let g = counted_done self (count_from s channels sub left at rows) (sym d ∙ e) in
        let z : All (λ n r. rows ≤ r) (got g.0 a r) = rw g.1 at (count_rows left at rows) in
        z

    last_told : {a r n : ℕ} {v : Part ⊤} → w ≡ got n a r → v ≡ told (last_by s channels sub a (word_at s a) r) → v ≡ told (cases_from s channels sub left at rows)
    unfolding bind
    last_told d h = let g = counted_done self (count_from s channels sub left at rows) (sym d ∙ e) in rw (cases_last left at rows, g.1) h

    count_bad : {n place : ℕ} → w ≡ bad n place → bad n place ≡ told (cases_from s channels sub left at rows)
    unfolding bind counted told
    count_bad {n} {place} d = rw (cases_last left at rows) (go (count_from s channels sub left at rows) (count_sure left at rows) (sym d ∙ e))
      where
        go : (p : Part ℕ) → Sure p → bad n place ≡ counted self 0 p → bad n place ≡ told (bind p last_of)
        go (got m a r) f e = cc
        go none f e = absurd f
        go (bad m place') f e = cc

-- WHAT THE CALLS HAND ON

module _ (s : List ℕ) (channels depth at rows : ℕ) where
  pub case_grows : (left : ℕ) {a r : ℕ} {v : Part ⊤} → v ≡ got tt a r → CaseTold s channels depth at rows left v → (rows < row_limit) × (rows < r) × (left ≡ 0 → ⊥)
  case_grows left {a} {r} e h =
      let sub = body_from row_limit s channels depth in
      let g = told_got (case_by s channels sub left (word_at s at) rows) (sym e ∙ h row_limit (omega arith)) in
      let z : All (SizedCase left rows) (got g.0 a r) = rw g.1 at (case_sized s channels sub (body_sized row_limit s channels depth) left (word_at s at) rows) in
      (z.0, omega arith, z.1)

  pub cases_grow : {a r n : ℕ} {w : Part ℕ} → w ≡ got n a r → CasesTold s channels depth at rows w → rows ≤ r
  cases_grow e h = count_grows s channels (body_from (suc row_limit) s channels depth) (body_sized (suc row_limit) s channels depth) case_limit at rows (h (suc row_limit) (omega arith)) e

  pub cases_told : (k : ℕ) {a r n : ℕ} {w : Part ℕ} {v : Part ⊤} → w ≡ counted self 0 (count_from s channels (body_from k s channels depth) case_limit at rows) → w ≡ got n a r → v ≡ told (last_by s channels (body_from k s channels depth) a (word_at s a) r) → v ≡ told (cases_from s channels (body_from k s channels depth) case_limit at rows)
  cases_told k e d h = last_told s channels (body_from k s channels depth) (body_sized k s channels depth) case_limit at rows e d h

  pub cases_refused : (k : ℕ) {n place : ℕ} {w : Part ℕ} → w ≡ counted self 0 (count_from s channels (body_from k s channels depth) case_limit at rows) → w ≡ bad n place → bad n place ≡ told (cases_from s channels (body_from k s channels depth) case_limit at rows)
  cases_refused k e d = count_bad s channels (body_from k s channels depth) (body_sized k s channels depth) case_limit at rows e d

-- What the word w at a place decides: behind a first body, and behind the cases.
module _ (s : List ℕ) (channels : ℕ) (sub : ℕ → ℕ → Part Body) (at rows : ℕ) {w : Word} (e : w ≡ word_at s at) where
  pub second_else : (b : Body) {v : Part ⊤} → w.kind ≡ else_kind → v ≡ told (bind (sub w.next rows) (λ c at r. closed s (ifok b c) at r)) → v ≡ told (second_by s channels sub b at (word_at s at) rows)
  unfolding second_by
  second_else b q h = rw (← e, eq-eqb _ _ q) h

  pub second_end : (b : Body) {v : Part ⊤} → (w.kind ≡ else_kind → ⊥) → v ≡ told (closed s (ifok b empty) at rows) → v ≡ told (second_by s channels sub b at (word_at s at) rows)
  unfolding second_by
  second_end b n h = rw (ne_eqb _ _ (rw e at n)) h

  pub last_default : {v : Part ⊤} → w.kind ≡ default_kind → v ≡ told (sub w.next rows) → v ≡ told (last_by s channels sub at (word_at s at) rows)
  unfolding last_by
  last_default q h = rw (← e, eq-eqb _ _ q) (h ∙ told_with (sub w.next rows) default)

  pub last_none : (w.kind ≡ default_kind → ⊥) → got tt at rows ≡ told (last_by s channels sub at (word_at s at) rows)
  unfolding last_by told
  last_none n = rw (← e, ne_eqb _ _ n)

-- A case by its head.
module _ (s : List ℕ) (channels at rows left : ℕ) {v : Part Op} (h : CaseHeadTold s channels at rows left v) where
  pub case_none : v ≡ none → (sub : ℕ → ℕ → Part Body) → none ≡ told (case_by s channels sub left (word_at s at) rows)
  unfolding bind told
  case_none e sub = rw (h sub, e)

  pub case_refused : {m place : ℕ} → v ≡ bad m place → (sub : ℕ → ℕ → Part Body) → bad m place ≡ told (case_by s channels sub left (word_at s at) rows)
  unfolding bind told
  case_refused e sub = rw (h sub, e)

  module _ {o : Op} {next n : ℕ} (e : v ≡ got o next n) where
    case_read : (sub : ℕ → ℕ → Part Body) → case_by s channels sub left (word_at s at) rows ≡ bind (sub next n) (λ b at r. got (o, b) at r)
    unfolding bind
    case_read sub = h sub ∙ rw e

    pub case_got : (sub : ℕ → ℕ → Part Body) {u : Part ⊤} → u ≡ told (sub next n) → u ≡ told (case_by s channels sub left (word_at s at) rows)
    case_got sub g = rw (case_read sub) (g ∙ told_with (sub next n) (λ b. (o, b)))

    pub case_parts : (sub : ℕ → ℕ → Part Body) {c : Op} {b : Body} {a r : ℕ} → case_by s channels sub left (word_at s at) rows ≡ got (c, b) a r → (sub next n ≡ got b a r) × (o ≡ c)
    case_parts sub q =
        let g = bind_got (sub next n) (λ b at r. got (o, b) at r) (sym (case_read sub) ∙ q) in
        let z = same_got g.4 in
        let y = ap (λ (x : Op × Body). x.1) z.0 in
        (g.3 ∙ rw (y, z.1, z.2), ap (λ (x : Op × Body). x.0) z.0)

    -- A row was left for it, and is counted.
    pub case_begun : (rows < row_limit) × (n ≡ rows + 1)
    unfolding bind size_b
    case_begun =
        let none : ℕ → ℕ → Part Body = λ at rows. got empty at rows in
        let z : All (SizedCase left rows) (got (o, empty) next n) = rw (case_read none) at (case_sized s channels none (λ at rows. omega arith) left (word_at s at) rows) in
        (z.0, omega arith)
