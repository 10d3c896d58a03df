-- Every text is accepted or refused: a reading is never none.
use Rattle.std.specs.Prelude.{◌≡◌, refl, Bool, true, false, cond, List, [], ◌∷◌, eqb, leb, ltb, length}
use Rattle.std.proofs.Common.{sym, subst, true≢false}
use Prim.Native.Nat.{ℕ, zero, suc, ◌+◌}
use Rattle.text_laws.specs.Kinds.{Word}
use Rattle.meaning.specs.Numbers.{channel_limit, task_limit, case_limit, value_limit, lap_limit, depth_limit, row_limit}
use Rattle.meaning.specs.Text.{range, repeat, ifok, select, Body, empty}
use Rattle.meaning.specs.Laws.Tests.{cond_all}
use Rattle.text_words.specs.Words.{no_kind, send_kind, forward_kind, recv_kind, close_kind, range_kind, repeat_kind, ifok_kind, else_kind, select_kind, default_kind, stop_kind, end_kind, nil_kind, number_kind, word_at}
use Rattle.text_reader.specs.Reading.{Part, none, misplaced, number_by, number, closed_by, closed, port_by, port, op_by, with_row, as_block, second_by, last_by, cases_from, stmt_by, body_from, chans_from, tasks_from, job_of, job, reading}
use Rattle.text_reader.specs.Answers.{is_op, is_statement}
use Rattle.text_reader.specs.Laws.Parts.{Sure, bind_sure}
use Rattle.text_reader.specs.Laws.Many.{ahead_sure, many_sure}
use Rattle.text_laws.specs.Laws.Walk.{reading_ways}

-- A choice between two ways that wait for the rows.
ways_sure : {A : Type 0} (b : Bool) (f g : ℕ → Part A) (rows : ℕ) → (b ≡ true → Sure (f rows)) → (b ≡ false → Sure (g rows)) → Sure (cond b f g rows)
ways_sure true f g rows h k = h refl
ways_sure false f g rows h k = k refl

row_sure : {A : Type 0} (w : Word) (f : ℕ → Part A) (rows : ℕ) → Sure (f (rows + 1)) → Sure (with_row w f rows)
row_sure w f rows h = ways_sure (ltb rows row_limit) f _ (rows + 1) (λ _. h) (λ _. tt)

block_sure : {A : Type 0} (depth : ℕ) (w : Word) (f : ℕ → Part A) (rows : ℕ) → Sure (f (rows + 1)) → Sure (as_block depth w f rows)
block_sure depth w f rows h = ways_sure (ltb depth depth_limit) (with_row w f) _ rows (λ _. row_sure w f rows h) (λ _. tt)

module _ (s : List ℕ) where
  misplaced_sure : (A : Type 0) (w : Word) → Sure {A = A} (misplaced s w)
  misplaced_sure A w = cond_all Sure (eqb w.kind no_kind) (λ _. tt) (λ _. tt)

  number_sure : (limit rows : ℕ) (w : Word) → Sure (number_by s limit rows w)
  unfolding number_by
  number_sure limit rows w =
      cond_all Sure (eqb w.kind no_kind) (λ _. tt) λ _.
      cond_all Sure (eqb w.kind number_kind) (λ _. cond_all Sure (leb w.value limit) (λ _. tt) (λ _. tt)) (λ _. tt)

  closed_sure : {A : Type 0} (x : A) (at rows : ℕ) → Sure (closed s x at rows)
  unfolding closed_by
  closed_sure {A} x at rows = cond_all Sure (eqb (word_at s at).kind end_kind) (λ _. tt) (λ _. misplaced_sure A (word_at s at))

  module _ (channels : ℕ) where
    port_sure : (rows : ℕ) (w : Word) → Sure (port_by s channels rows w)
    unfolding port_by
    port_sure rows w =
        cond_all Sure (eqb w.kind no_kind) (λ _. tt) λ _.
        cond_all Sure (eqb w.kind nil_kind) (λ _. tt) λ _.
        cond_all Sure (eqb w.kind number_kind) (λ _. cond_all Sure (ltb w.value channels) (λ _. tt) (λ _. tt)) (λ _. tt)

    op_sure : (rows : ℕ) (w : Word) → is_op w.kind ≡ true → Sure (op_by s channels rows w)
    unfolding op_by
    op_sure rows w e =
        cond_all Sure (eqb w.kind send_kind)
        (λ _. bind_sure (port s channels w.next rows) _ (port_sure rows (word_at s w.next)) (λ p at r. bind_sure (number s value_limit at r) _ (number_sure value_limit r (word_at s at)) (λ _ _ _. tt))) λ a.
        cond_all Sure (eqb w.kind forward_kind) (λ _. bind_sure (port s channels w.next rows) _ (port_sure rows (word_at s w.next)) (λ _ _ _. tt)) λ b.
        cond_all Sure (eqb w.kind recv_kind) (λ _. bind_sure (port s channels w.next rows) _ (port_sure rows (word_at s w.next)) (λ _ _ _. tt)) λ c.
        absurd (true≢false (sym (rw (a, b, c) at e)))

    module _ (sub : ℕ → ℕ → Part Body) (sub-sure : (at rows : ℕ) → Sure (sub at rows)) where
      second_sure : (b : Body) (at : ℕ) (w : Word) (rows : ℕ) → Sure (second_by s channels sub b at w rows)
      unfolding second_by
      second_sure b at w rows =
          ways_sure (eqb w.kind else_kind) _ _ rows
          (λ _. bind_sure (sub w.next rows) _ (sub-sure w.next rows) (λ c a r. closed_sure (ifok b c) a r))
          (λ _. closed_sure (ifok b empty) at rows)

      last_sure : (at : ℕ) (w : Word) (rows : ℕ) → Sure (last_by s channels sub at w rows)
      unfolding last_by
      last_sure at w rows = ways_sure (eqb w.kind default_kind) _ _ rows (λ _. bind_sure (sub w.next rows) _ (sub-sure w.next rows) (λ _ _ _. tt)) (λ _. tt)

      cases_sure : (left at rows : ℕ) → Sure (cases_from s channels sub left at rows)
      unfolding cases_from
      cases_sure = many_sure _ _ _ (λ at rows. last_sure at (word_at s at) rows)

      -- A word that begins a statement begins one that is there, or is refused.
      pub statement_sure : (depth : ℕ) (w : Word) (rows : ℕ) → is_statement w.kind ≡ true → Sure (stmt_by s channels sub depth w rows)
      unfolding stmt_by is_statement
      statement_sure depth w rows e =
          ways_sure (is_op w.kind) _ _ rows (λ t. row_sure w _ rows (bind_sure (op_by s channels (rows + 1) w) _ (op_sure (rows + 1) w t) (λ _ _ _. tt))) λ o.
          ways_sure (eqb w.kind close_kind) _ _ rows (λ _. row_sure w _ rows (bind_sure (port s channels w.next (rows + 1)) _ (port_sure (rows + 1) (word_at s w.next)) (λ _ _ _. tt))) λ c.
          ways_sure (eqb w.kind stop_kind) _ _ rows (λ _. row_sure w _ rows tt) λ p.
          ways_sure (eqb w.kind range_kind) _ _ rows
          (λ _. block_sure depth w _ rows (bind_sure (port s channels w.next (rows + 1)) _ (port_sure (rows + 1) (word_at s w.next)) (λ p at r. bind_sure (sub at r) _ (sub-sure at r) (λ b a t. closed_sure (range p b) a t)))) λ g.
          ways_sure (eqb w.kind repeat_kind) _ _ rows
          (λ _. block_sure depth w _ rows (bind_sure (number s lap_limit w.next (rows + 1)) _ (number_sure lap_limit (rows + 1) (word_at s w.next)) (λ n at r. bind_sure (sub at r) _ (sub-sure at r) (λ b a t. closed_sure (repeat n b) a t)))) λ r.
          ways_sure (eqb w.kind ifok_kind) _ _ rows (λ _. block_sure depth w _ rows (bind_sure (sub w.next (rows + 1)) _ (sub-sure w.next (rows + 1)) (λ b at r. second_sure b at (word_at s at) r))) λ i.
          ways_sure (eqb w.kind select_kind) _ _ rows (λ _. block_sure depth w _ rows (bind_sure (cases_from s channels sub case_limit w.next (rows + 1)) _ (cases_sure case_limit w.next (rows + 1)) (λ cs at r. closed_sure (select cs) at r))) λ l.
          absurd (true≢false (sym (rw (o, c, p, g, r, i, l) at e)))

  -- A body ends where no statement begins.
  pub body_sure : (k channels depth at rows : ℕ) → Sure (body_from k s channels depth at rows)
  unfolding body_from
  body_sure zero channels depth at rows = tt
  body_sure (suc k) channels depth at rows =
      let deeper = body_from k s channels (depth + 1) in
      ahead_sure _ (body_from k s channels depth) _ (stmt_by s channels deeper depth (word_at s at) rows) (body_sure k channels depth) tt

  chans_sure : (left at rows : ℕ) → Sure (chans_from s left at rows)
  unfolding chans_from
  chans_sure = many_sure _ _ _ (λ at rows. tt)

  tasks_sure : (channels left at rows : ℕ) → Sure (tasks_from s channels left at rows)
  unfolding tasks_from
  tasks_sure channels = many_sure _ _ _ (λ at rows. tt)

  job_of_sure : (caps : List ℕ) (bs : List Body) (at rows : ℕ) → Sure (job_of s caps bs at rows)
  job_of_sure caps [] at rows = tt
  job_of_sure caps (b ∷ bs) at rows = tt

  job_sure : Sure (job s)
  unfolding job
  job_sure =
      bind_sure (chans_from s channel_limit 0 0) _ (chans_sure channel_limit 0 0)
      (λ caps at r. bind_sure (tasks_from s (length caps) task_limit at r) _ (tasks_sure (length caps) task_limit at r) (λ bs a t. job_of_sure caps bs a t))

  pub reading_sure : Sure (reading s)
  reading_sure = reading_ways s Sure (λ _. tt) (λ _ _ _. tt) (λ _ _. job_sure)

  pub reading_decided : reading s ≡ none → ⊥
  reading_decided e = subst Sure e reading_sure
