-- A part that is read takes as many rows as its size says. Assumes nothing.
use Rattle.std.specs.Prelude.{◌≡◌, refl, List, ℕ, zero, suc, ◌+◌, ◌<◌, eqb}
use Rattle.std.proofs.Math.Path.{ap}
use Rattle.std.proofs.Common.{◌∙◌}
use native.Mathlib.Omega.{arith}
use borrow.Author.Tests.{eqb-false}
use Rattle.text_reader.specs.Kinds.{Op, Word}
use Rattle.meaning.specs.Numbers.{case_limit, lap_limit, row_limit}
use Rattle.meaning.specs.Text.{Stmt, range, repeat, ifok, select, Body, empty, Cases}
use Rattle.meaning.specs.Layout.{case_count, size_s, size_b, size_c}
use Rattle.meaning.specs.Laws.Tests.{cond_all}
use Rattle.text_words.specs.Words.{no_kind, else_kind, case_kind, default_kind, end_kind, close_kind, range_kind, repeat_kind, ifok_kind, select_kind, stop_kind, word_at}
use Rattle.text_reader.specs.Reading.{Part, got, none, bad, misplaced, number, closed_by, closed, port, op_by, second_by, or_misplaced, case_op, case_by, last_by, cases_from, stmt_by, body_from}
use Rattle.text_reader.specs.Answers.{is_op}
use Rattle.text_reader.specs.Laws.Parts.{All, bind_all, ways_all, row_all, block_all}
use Rattle.text_reader.specs.Laws.Many.{ahead_holds, many_holds}
use Rattle.text_reader.specs.Laws.Heads.{Kept, number_kept, port_kept, op_kept}

-- A statement takes as many rows as its size says, and so does a body. `sub` reads bodies, and counts right.
abbrev pub SizedB : ℕ → Body → ℕ → Type 0
SizedB rows b r = r ≡ rows + size_b b

abbrev pub SizedS : ℕ → Stmt → ℕ → Type 0
SizedS rows x r = (rows < row_limit) × (rows < r) × (r ≡ rows + size_s x)

abbrev pub SizedCase : ℕ → ℕ → (Op × Body) → ℕ → Type 0
SizedCase left rows k r = (rows < row_limit) × (left ≡ 0 → ⊥) × (r ≡ rows + 1 + size_b k.1)

abbrev pub SizedC : ℕ → Cases → ℕ → Type 0
SizedC rows cs r = r ≡ rows + case_count cs + size_c cs

closed_sized : (s : List ℕ) (before : ℕ) (x : Stmt) (at rows : ℕ) → SizedS before x rows → All (SizedS before) (closed s x at rows)
unfolding closed_by
closed_sized s before x at rows h = cond_all (All (SizedS before)) (eqb (word_at s at).kind end_kind) (λ _. h) (λ _. cond_all (All (SizedS before)) (eqb (word_at s at).kind no_kind) (λ _. tt) (λ _. tt))

module _ (s : List ℕ) (channels : ℕ) (sub : ℕ → ℕ → Part Body) (counts : (at rows : ℕ) → All (SizedB rows) (sub at rows)) where
  misplaced_all : {A : Type 0} (P : A → ℕ → Type 0) (w : Word) → All P (misplaced s w)
  misplaced_all P w = cond_all (All P) (eqb w.kind no_kind) (λ _. tt) (λ _. tt)

  pub case_op_lem : (w : Word) (rows : ℕ) → All (Kept rows) (case_op s channels sub w rows)
  unfolding case_op
  case_op_lem w rows = go (op_by s channels rows w) (op_kept s channels rows w)
    where
      go : (p : Part Op) → All (Kept rows) p → All (Kept rows) (or_misplaced s channels sub w p)
      go (got o at r) e = e
      go none e = misplaced_all (Kept rows) w
      go (bad n place) e = tt

  pub case_sized : (left : ℕ) (w : Word) (rows : ℕ) → All (SizedCase left rows) (case_by s channels sub left w rows)
  unfolding case_by
  case_sized left w rows =
      ways_all (SizedCase left rows) (eqb w.kind case_kind) _ _ rows
      (λ _. ways_all (SizedCase left rows) (eqb left 0) _ _ rows (λ _. tt)
      (λ n. row_all (SizedCase left rows) w _ rows
      (λ h. bind_all (Kept (rows + 1)) (SizedCase left rows) (case_op s channels sub (word_at s w.next) (rows + 1)) _ (case_op_lem (word_at s w.next) (rows + 1))
      (λ o at r e. bind_all (SizedB r) (SizedCase left rows) (sub at r) _ (counts at r) (λ b at' r' e'. (h, eqb-false left 0 n, e' ∙ ap (◌+ size_b b) e))))))
      (λ _. tt)

  last_sized : (at : ℕ) (w : Word) (rows : ℕ) → All (SizedC rows) (last_by s channels sub at w rows)
  unfolding last_by case_count size_c
  last_sized at w rows =
      ways_all (SizedC rows) (eqb w.kind default_kind) _ _ rows
      (λ _. bind_all (SizedB rows) (SizedC rows) (sub w.next rows) _ (counts w.next rows) (λ b at' r' e. omega arith))
      (λ _. omega arith)

  pub cases_sized : (left at rows : ℕ) → All (SizedC rows) (cases_from s channels sub left at rows)
  unfolding cases_from case_count size_c
  cases_sized left at rows =
      many_holds _ _ _ (λ at rows. Unit {0}) (λ left rows k a r. SizedCase left rows k r) (λ left rows cs a r. SizedC rows cs r) _
      (λ left at rows _. case_sized left (word_at s at) rows) (λ left at rows _. last_sized at (word_at s at) rows) (λ _ _ _ _ _ _ _ _. tt)
      (λ left rows k a r cs c m e z. omega arith) left at rows tt

  second_sized : (b : Body) (at : ℕ) (w : Word) (rows r : ℕ) → rows < row_limit → r ≡ rows + 1 + size_b b → All (SizedS rows) (second_by s channels sub b at w r)
  unfolding second_by size_s size_b
  second_sized b at w rows r h e =
      ways_all (SizedS rows) (eqb w.kind else_kind) _ _ r
      (λ _. bind_all (SizedB r) (SizedS rows) (sub w.next r) _ (counts w.next r) (λ c at' r' e'. closed_sized s rows (ifok b c) at' r' (h, omega arith, omega arith)))
      (λ _. closed_sized s rows (ifok b empty) at r (h, omega arith, omega arith))

  pub stmt_sized : (depth : ℕ) (w : Word) (rows : ℕ) → All (SizedS rows) (stmt_by s channels sub depth w rows)
  unfolding stmt_by size_s
  stmt_sized depth w rows =
      ways_all (SizedS rows) (is_op w.kind) _ _ rows
      (λ _. row_all (SizedS rows) w _ rows (λ h. bind_all (Kept (rows + 1)) (SizedS rows) (op_by s channels (rows + 1) w) _ (op_kept s channels (rows + 1) w) (λ o at r e. (h, omega arith, e)))) λ _.
      ways_all (SizedS rows) (eqb w.kind close_kind) _ _ rows
      (λ _. row_all (SizedS rows) w _ rows (λ h. bind_all (Kept (rows + 1)) (SizedS rows) (port s channels w.next (rows + 1)) _ (port_kept s channels (rows + 1) (word_at s w.next)) (λ p at r e. (h, omega arith, e)))) λ _.
      ways_all (SizedS rows) (eqb w.kind stop_kind) _ _ rows
      (λ _. row_all (SizedS rows) w _ rows (λ h. (h, omega arith, refl))) λ _.
      ways_all (SizedS rows) (eqb w.kind range_kind) _ _ rows
      (λ _. block_all (SizedS rows) depth w _ rows (λ h. bind_all (Kept (rows + 1)) (SizedS rows) (port s channels w.next (rows + 1)) _ (port_kept s channels (rows + 1) (word_at s w.next))
      (λ p at r e. bind_all (SizedB r) (SizedS rows) (sub at r) _ (counts at r) (λ b at' r' e'. closed_sized s rows (range p b) at' r' (h, omega arith, omega arith))))) λ _.
      ways_all (SizedS rows) (eqb w.kind repeat_kind) _ _ rows
      (λ _. block_all (SizedS rows) depth w _ rows (λ h. bind_all (Kept (rows + 1)) (SizedS rows) (number s lap_limit w.next (rows + 1)) _ (number_kept s lap_limit (rows + 1) (word_at s w.next))
      (λ n at r e. bind_all (SizedB r) (SizedS rows) (sub at r) _ (counts at r) (λ b at' r' e'. closed_sized s rows (repeat n b) at' r' (h, omega arith, omega arith))))) λ _.
      ways_all (SizedS rows) (eqb w.kind ifok_kind) _ _ rows
      (λ _. block_all (SizedS rows) depth w _ rows (λ h. bind_all (SizedB (rows + 1)) (SizedS rows) (sub w.next (rows + 1)) _ (counts w.next (rows + 1)) (λ b at r e. second_sized b at (word_at s at) rows r h e))) λ _.
      ways_all (SizedS rows) (eqb w.kind select_kind) _ _ rows
      (λ _. block_all (SizedS rows) depth w _ rows (λ h. bind_all (SizedC (rows + 1)) (SizedS rows) (cases_from s channels sub case_limit w.next (rows + 1)) _ (cases_sized case_limit w.next (rows + 1))
      (λ cs at r e. closed_sized s rows (select cs) at r (h, omega arith, omega arith)))) (λ _. tt)

pub body_sized : (k : ℕ) (s : List ℕ) (channels depth at rows : ℕ) → All (SizedB rows) (body_from k s channels depth at rows)
unfolding body_from size_b
body_sized zero s channels depth at rows = tt
body_sized (suc k) s channels depth at rows =
    let deeper = body_from k s channels (depth + 1) in
    ahead_holds _ (λ x a r. SizedS rows x r) (λ r b c m. SizedB r b m) (λ b c m. SizedB rows b m) _ (body_from k s channels depth) _
    (stmt_by s channels deeper depth (word_at s at) rows) (stmt_sized s channels deeper (body_sized k s channels (depth + 1)) depth (word_at s at) rows)
    (λ x a r e. body_sized k s channels depth a r) (λ x a r b c m e z. omega arith) (omega arith)
