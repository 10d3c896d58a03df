-- The number of steps in which bodies are read: one more than rows are left is enough, and any more give the same.
use Rattle.std.specs.Prelude.{◌≡◌, Bool, true, false, cond, List, eqb, ltb}
use Rattle.std.proofs.Math.Path.{refl}
use Rattle.std.proofs.Common.{ap, subst, ◌∙◌, arith, ltb-true}
use Prim.Native.Nat.{ℕ, zero, suc, ◌+◌, ◌-◌, ◌≤◌, ◌<◌}
use Rattle.text_laws.specs.Kinds.{Word}
use Rattle.meaning.specs.Numbers.{case_limit, lap_limit, depth_limit, row_limit}
use Rattle.meaning.specs.Text.{Stmt, Body}
use Rattle.image_laws.proofs.Rows.{positive}
use Rattle.text_words.specs.Words.{else_kind, case_kind, default_kind, close_kind, stop_kind, range_kind, repeat_kind, ifok_kind, select_kind, word_at}
use Rattle.text_reader.specs.Reading.{Part, got, none, bad, bind, number, port, with_row, as_block, second_by, case_op, case_by, last_by, cases_from, is_op_word, stmt_by, body_from, reading}
use Rattle.text_reader.specs.Laws.Many.{ahead_same, many_by}
use Rattle.text_laws.specs.Laws.Kept.{NumberRead, PortRead, OpRead, StmtRead, BodyRead, CaseRead, Kept, Anywhere}
use Rattle.text_laws.specs.Laws.Walk.{number_kept, port_kept, case_op_kept, case_kept, body_kept, deeper_kept, statement_kept}
use Rattle.text_laws.specs.Laws.Places.{reading_refused}

-- The same choice between ways that are the same.
choice : {A : Type 0} (b : Bool) (rows : ℕ) (f f' g g' : ℕ → Part A) → (b ≡ true → f rows ≡ f' rows) → (b ≡ false → g rows ≡ g' rows) → cond b f g rows ≡ cond b f' g' rows
choice true rows f f' g g' p q = p refl
choice false rows f f' g g' p q = q refl

row_same : {A : Type 0} (w : Word) (rows : ℕ) (f f' : ℕ → Part A) → (rows < row_limit → f (rows + 1) ≡ f' (rows + 1)) → with_row w f rows ≡ with_row w f' rows
row_same w rows f f' h = choice (ltb rows row_limit) (rows + 1) _ _ _ _ (λ t. h (ltb-true _ _ t)) (λ _. refl)

block_same : {A : Type 0} (depth : ℕ) (w : Word) (rows : ℕ) (f f' : ℕ → Part A) → (rows < row_limit → f (rows + 1) ≡ f' (rows + 1)) → as_block depth w f rows ≡ as_block depth w f' rows
block_same depth w rows f f' h = choice (ltb depth depth_limit) rows _ _ _ _ (λ _. row_same w rows f f' h) (λ _. refl)

bind_first : {A B : Type 0} (p q : Part A) (f : A → ℕ → ℕ → Part B) → p ≡ q → bind p f ≡ bind q f
bind_first p q f e = ap (λ z. bind z f) e

module _ (s : List ℕ) where
  -- What follows a part need only be the same behind what the part can be.
  bind_behind : {A B : Type 0} (P : A → ℕ → Type 0) (p : Part A) (f g : A → ℕ → ℕ → Part B) → Kept s Anywhere P p → ((x : A) (at r : ℕ) → P x r → f x at r ≡ g x at r) → bind p f ≡ bind p g
  unfolding bind
  bind_behind P (got x at rows) f g h k = k x at rows h.1
  bind_behind P none f g h k = refl
  bind_behind P (bad n place) f g h k = refl

  module _ (channels depth rows : ℕ) (sub sub' : ℕ → ℕ → Part Body) (good : (at r : ℕ) → Anywhere at → rows < r → r ≤ row_limit → Kept s Anywhere (BodyRead channels (suc depth) r) (sub at r))
      (same : (at r : ℕ) → rows < r → r ≤ row_limit → sub at r ≡ sub' at r) where
    sub_same : {A : Type 0} (at r : ℕ) (f : Body → ℕ → ℕ → Part A) → rows < r → r ≤ row_limit → bind (sub at r) f ≡ bind (sub' at r) f
    sub_same at r f l m = bind_first (sub at r) (sub' at r) f (same at r l m)

    second_same : (b : Body) (at r : ℕ) → rows < r → r ≤ row_limit → second_by s channels sub b at (word_at s at) r ≡ second_by s channels sub' b at (word_at s at) r
    unfolding second_by
    second_same b at r l m = choice (eqb (word_at s at).kind else_kind) r _ _ _ _ (λ _. sub_same (word_at s at).next r _ l m) (λ _. refl)

    case_same : (left at r : ℕ) → rows < r → case_by s channels sub left (word_at s at) r ≡ case_by s channels sub' left (word_at s at) r
    unfolding case_by case_op
    case_same left at r l =
        let next = (word_at s at).next in
        choice (eqb (word_at s at).kind case_kind) r _ _ _ _
        (λ _. choice (eqb left 0) r _ _ _ _
        (λ _. refl)
        (λ _. row_same (word_at s at) r _ _
        (λ h. bind_behind (OpRead (r + 1) channels) (case_op s channels sub (word_at s next) (r + 1)) _ _ (case_op_kept s Anywhere (λ _. tt) channels depth rows sub good next (r + 1) tt)
        (λ o a t q. sub_same a t _ (omega (arith, q.same)) (omega (arith, q.same))))))
        (λ _. refl)

    last_same : (at r : ℕ) → rows < r → r ≤ row_limit → last_by s channels sub at (word_at s at) r ≡ last_by s channels sub' at (word_at s at) r
    unfolding last_by
    last_same at r l m = choice (eqb (word_at s at).kind default_kind) r _ _ _ _ (λ _. sub_same (word_at s at).next r _ l m) (λ _. refl)

    cases_same : (left at r : ℕ) → rows < r → r ≤ row_limit → cases_from s channels sub left at r ≡ cases_from s channels sub' left at r
    unfolding cases_from
    cases_same =
        many_by _ _ _ _ _ _ (λ left at r p q. rows < r → r ≤ row_limit → p ≡ q) last_same
        (λ rest rest' left at r f l m.
        ahead_same _ (λ k a t. Anywhere a × CaseRead channels (suc depth) r left k t) _ rest rest' _ _ (case_by s channels sub left (word_at s at) r) _
        (case_kept s Anywhere (λ _. tt) channels depth rows sub good left at r tt l)
        (λ k a t (_, h). f a t (omega (arith, h.sized)) h.room) (last_same at r l m) (case_same left at r l))

    stmt_same : (at : ℕ) → stmt_by s channels sub depth (word_at s at) rows ≡ stmt_by s channels sub' depth (word_at s at) rows
    unfolding stmt_by
    stmt_same at =
        let w = word_at s at in
        let next = (word_at s at).next in
        let more = rows + 1 in
        choice (is_op_word s channels sub w) rows _ _ _ _ (λ _. refl)
        (λ _. choice (eqb w.kind close_kind) rows _ _ _ _ (λ _. refl)
        (λ _. choice (eqb w.kind stop_kind) rows _ _ _ _ (λ _. refl)
        (λ _. choice (eqb w.kind range_kind) rows _ _ _ _
        (λ _. block_same depth w rows _ _
        (λ h. bind_behind (PortRead more channels) (port s channels next more) _ _ (port_kept s Anywhere (λ _. tt) channels next more tt)
        (λ p a r q. sub_same a r _ (omega (arith, q.same)) (omega (arith, q.same)))))
        (λ _. choice (eqb w.kind repeat_kind) rows _ _ _ _
        (λ _. block_same depth w rows _ _
        (λ h. bind_behind (NumberRead more lap_limit) (number s lap_limit next more) _ _ (number_kept s Anywhere (λ _. tt) lap_limit next more tt)
        (λ n a r q. sub_same a r _ (omega (arith, q.same)) (omega (arith, q.same)))))
        (λ _. choice (eqb w.kind ifok_kind) rows _ _ _ _
        (λ _. block_same depth w rows _ _
        (λ h. bind_behind (BodyRead channels (suc depth) more) (sub next more) _ _ (good next more tt (omega arith) (omega arith)) (λ b a r z. second_same b a r (omega (arith, z.sized)) z.room)
        ∙ sub_same next more _ (omega arith) (omega arith)))
        (λ _. choice (eqb w.kind select_kind) rows _ _ _ _
        (λ _. block_same depth w rows _ _ (λ h. bind_first (cases_from s channels sub case_limit next more) (cases_from s channels sub' case_limit next more) _ (cases_same case_limit next more (omega arith) (omega arith))))
        (λ _. refl)))))))

  pub steps_same : (k k' channels depth at rows : ℕ) → rows ≤ row_limit → row_limit - rows < k → row_limit - rows < k' → body_from k s channels depth at rows ≡ body_from k' s channels depth at rows
  unfolding body_from
  steps_same zero k' channels depth at rows l h h' = absurd (omega arith)
  steps_same (suc k) zero channels depth at rows l h h' = absurd (omega arith)
  steps_same (suc k) (suc k') channels depth at rows l h h' =
      let deeper = body_from k s channels (depth + 1) in
      ahead_same _ (λ x a r. Anywhere a × StmtRead channels depth rows x r) _ (body_from k s channels depth) (body_from k' s channels depth) _ _
      (stmt_by s channels deeper depth (word_at s at) rows) _
      (statement_kept s Anywhere (λ _. tt) k channels depth at rows tt h)
      (λ x a r (_, q). let m : rows < r = omega (arith, q.sized, positive x) in steps_same k k' channels depth a r q.room (omega arith) (omega arith)) refl
      (stmt_same channels depth rows deeper (body_from k' s channels (depth + 1)) (deeper_kept s Anywhere (λ _. tt) k channels depth rows h)
      (λ a r m n. steps_same k k' channels (depth + 1) a r n (omega arith) (omega arith)) at)

  -- With enough steps, what was read is within the limits and takes the rows counted.
  module _ (k channels depth at rows : ℕ) where
    pub body_read : (b : Body) (a r : ℕ) → rows ≤ row_limit → row_limit - rows < k → body_from k s channels depth at rows ≡ got b a r → BodyRead channels depth rows b r
    body_read b a r l h e = (subst (Kept s Anywhere (BodyRead channels depth rows)) e (body_kept s Anywhere (λ _. tt) k channels depth at rows tt l h)).1

    pub statement_read : (x : Stmt) (a r : ℕ) → row_limit - rows < suc k → stmt_by s channels (body_from k s channels (depth + 1)) depth (word_at s at) rows ≡ got x a r → StmtRead channels depth rows x r
    statement_read x a r h e = (subst (Kept s Anywhere (StmtRead channels depth rows)) e (statement_kept s Anywhere (λ _. tt) k channels depth at rows tt h)).1

  pub reading_number : (n place : ℕ) → reading s ≡ bad n place → (1 ≤ n) × (n ≤ 10)
  reading_number n place e = let r = reading_refused s n place e in (r.least, r.most)
