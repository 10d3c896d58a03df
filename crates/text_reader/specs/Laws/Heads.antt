-- The head of a statement: its first word, its limits, its operands, and the statement that it begins. Assumes nothing.
use Rattle.std.specs.Prelude.{◌≡◌, Bool, true, false, cond, List, ℕ, ◌+◌, ◌≤◌, ◌<◌, eqb, leb, ltb}
use Rattle.std.proofs.Math.Path.{refl, sym}
use Rattle.std.proofs.Common.{ap, ◌∙◌, true≢false}
use Rattle.std.proofs.lemmas.Bool.{false≢true}
use borrow.Author.Tests.{lt-ltb, le-ltb, eqb-true, leb-true, leb-false, ltb-true, ltb-false}
use Rattle.text_reader.specs.Kinds.{Port, Op, Word, Head}
use Rattle.meaning.specs.Numbers.{case_limit, value_limit, lap_limit, depth_limit, row_limit, too_deep, rows_full}
use Rattle.meaning.specs.Text.{Stmt, operate, close, stop, range, repeat, select, Body}
use Rattle.meaning.specs.Laws.Tests.{cond_all}
use Rattle.text_words.specs.Words.{no_kind, send_kind, forward_kind, recv_kind, nil_kind, number_kind, close_kind, range_kind, repeat_kind, ifok_kind, select_kind, stop_kind, word_at}
use Rattle.text_reader.specs.Reading.{Part, got, none, bad, bind, number_by, number, closed, port_by, port, op_by, second_by, cases_from, stmt_by}
use Rattle.text_reader.specs.Answers.{told, is_op, is_block, is_statement, is_too_deep, head_of, operands_by, head_by, HeadTold}
use Rattle.text_reader.specs.Laws.Parts.{All, bind_all}

-- THE WAYS OF A STATEMENT'S FIRST WORD

-- Both of two tests hold.
both : (b c : Bool) → cond b c false ≡ true → (b ≡ true) × (c ≡ true)
both true c e = (refl, e)
both false c e = absurd (false≢true e)

-- One of several tests holds: this one, or one of the others.
either : {Q : Type 0} (b c : Bool) → cond b true c ≡ true → (b ≡ true → Q) → (c ≡ true → Q) → Q
either true c e f g = f refl
either false c e f g = g e

module _ {Q : Type 0} (k : ℕ) where
  block_ways : is_block k ≡ true → (k ≡ range_kind → Q) → (k ≡ repeat_kind → Q) → (k ≡ ifok_kind → Q) → (k ≡ select_kind → Q) → Q
  block_ways e a b c d =
      either (eqb k range_kind) _ e (λ h. a (eqb-true k range_kind h)) λ e.
      either (eqb k repeat_kind) _ e (λ h. b (eqb-true k repeat_kind h)) λ e.
      either (eqb k ifok_kind) _ e (λ h. c (eqb-true k ifok_kind h)) λ e.
      d (eqb-true k select_kind e)

  statement_ways : is_statement k ≡ true → (is_op k ≡ true → Q) → (k ≡ close_kind → Q) → (k ≡ stop_kind → Q) → (is_block k ≡ true → Q) → Q
  unfolding is_statement
  statement_ways e a b c d =
      either (is_op k) _ e a λ e.
      either (eqb k close_kind) _ e (λ h. b (eqb-true k close_kind h)) λ e.
      either (eqb k stop_kind) _ e (λ h. c (eqb-true k stop_kind h)) d

not_deep : (k depth : ℕ) → is_block k ≡ true → is_too_deep k depth ≡ false → depth < depth_limit
unfolding is_too_deep
not_deep k depth b e = leb-false depth_limit depth (rw b at e)

-- No test holds: what is left behind the first.
passed : {A : Type 0} (b c : Bool) (f g : ℕ → A) (rows : ℕ) (v : A) → cond b true c ≡ false → (c ≡ false → g rows ≡ v) → cond b f g rows ≡ v
passed true c f g rows v e k = absurd (true≢false e)
passed false c f g rows v e k = k e

module _ (s : List ℕ) (channels : ℕ) (sub : ℕ → ℕ → Part Body) (depth : ℕ) (w : Word) (rows : ℕ) where
  no_statement : is_statement w.kind ≡ false → stmt_by s channels sub depth w rows ≡ none
  unfolding stmt_by is_statement
  no_statement e =
      passed (is_op w.kind) _ _ _ rows none e λ e.
      passed (eqb w.kind close_kind) _ _ _ rows none e λ e.
      passed (eqb w.kind stop_kind) _ _ _ rows none e λ e.
      passed (eqb w.kind range_kind) _ _ _ rows none e λ e.
      passed (eqb w.kind repeat_kind) _ _ _ rows none e λ e.
      passed (eqb w.kind ifok_kind) _ _ _ rows none e λ e.
      rw e

  too_deep_lem : is_too_deep w.kind depth ≡ true → stmt_by s channels sub depth w rows ≡ bad too_deep w.start
  unfolding stmt_by is_too_deep
  too_deep_lem e =
      let t = both (is_block w.kind) (leb depth_limit depth) e in
      let h = leb-true depth_limit depth t.1 in
      block_ways w.kind t.0
      (λ q. rw (q, le-ltb depth depth_limit h))
      (λ q. rw (q, le-ltb depth depth_limit h))
      (λ q. rw (q, le-ltb depth depth_limit h))
      (λ q. rw (q, le-ltb depth depth_limit h))

  rows_full_lem : is_statement w.kind ≡ true → is_too_deep w.kind depth ≡ false → row_limit ≤ rows → stmt_by s channels sub depth w rows ≡ bad rows_full w.start
  unfolding stmt_by
  rows_full_lem e d h =
      statement_ways w.kind e
      (λ q. rw (q, le-ltb rows row_limit h))
      (λ q. rw (q, le-ltb rows row_limit h))
      (λ q. rw (q, le-ltb rows row_limit h))
      (λ b.
      let l = not_deep w.kind depth b d in
      block_ways w.kind b
      (λ q. rw (q, lt-ltb depth depth_limit l, le-ltb rows row_limit h))
      (λ q. rw (q, lt-ltb depth depth_limit l, le-ltb rows row_limit h))
      (λ q. rw (q, lt-ltb depth depth_limit l, le-ltb rows row_limit h))
      (λ q. rw (q, lt-ltb depth depth_limit l, le-ltb rows row_limit h)))

  -- Within the limits: what each statement is read as.
  module _ (h : rows < row_limit) where
    operate_read : is_op w.kind ≡ true → stmt_by s channels sub depth w rows ≡ bind (op_by s channels (rows + 1) w) (λ o at r. got (operate o) at r)
    unfolding stmt_by
    operate_read e = rw (e, lt-ltb rows row_limit h)

    close_read : w.kind ≡ close_kind → stmt_by s channels sub depth w rows ≡ bind (port s channels w.next (rows + 1)) (λ p at r. got (close p) at r)
    unfolding stmt_by
    close_read e = rw (e, lt-ltb rows row_limit h)

    stop_read : w.kind ≡ stop_kind → stmt_by s channels sub depth w rows ≡ got stop w.next (rows + 1)
    unfolding stmt_by
    stop_read e = rw (e, lt-ltb rows row_limit h)

    module _ (l : depth < depth_limit) where
      range_read : w.kind ≡ range_kind → stmt_by s channels sub depth w rows ≡ bind (port s channels w.next (rows + 1)) (λ p at r. bind (sub at r) (λ b at r. closed s (range p b) at r))
      unfolding stmt_by
      range_read e = rw (e, lt-ltb depth depth_limit l, lt-ltb rows row_limit h)

      repeat_read : w.kind ≡ repeat_kind → stmt_by s channels sub depth w rows ≡ bind (number s lap_limit w.next (rows + 1)) (λ n at r. bind (sub at r) (λ b at r. closed s (repeat n b) at r))
      unfolding stmt_by
      repeat_read e = rw (e, lt-ltb depth depth_limit l, lt-ltb rows row_limit h)

      ifok_read : w.kind ≡ ifok_kind → stmt_by s channels sub depth w rows ≡ bind (sub w.next (rows + 1)) (λ b at r. second_by s channels sub b at (word_at s at) r)
      unfolding stmt_by
      ifok_read e = rw (e, lt-ltb depth depth_limit l, lt-ltb rows row_limit h)

      select_read : w.kind ≡ select_kind → stmt_by s channels sub depth w rows ≡ bind (cases_from s channels sub case_limit w.next (rows + 1)) (λ cs at r. closed s (select cs) at r)
      unfolding stmt_by
      select_read e = rw (e, lt-ltb depth depth_limit l, lt-ltb rows row_limit h)

-- Operands need no row.
abbrev pub Kept : {A : Type 0} → ℕ → A → ℕ → Type 0
Kept rows x r = r ≡ rows

pub number_kept : (s : List ℕ) (limit rows : ℕ) (w : Word) → All (Kept rows) (number_by s limit rows w)
unfolding number_by
number_kept s limit rows w =
    cond_all (All (Kept rows)) (eqb w.kind no_kind) (λ _. tt) λ _.
    cond_all (All (Kept rows)) (eqb w.kind number_kind) (λ _. cond_all (All (Kept rows)) (leb w.value limit) (λ _. refl) (λ _. tt)) (λ _. tt)

module _ (s : List ℕ) (channels : ℕ) where
  pub port_kept : (rows : ℕ) (w : Word) → All (Kept rows) (port_by s channels rows w)
  unfolding port_by
  port_kept rows w =
      cond_all (All (Kept rows)) (eqb w.kind no_kind) (λ _. tt) λ _.
      cond_all (All (Kept rows)) (eqb w.kind nil_kind) (λ _. refl) λ _.
      cond_all (All (Kept rows)) (eqb w.kind number_kind) (λ _. cond_all (All (Kept rows)) (ltb w.value channels) (λ _. refl) (λ _. tt)) (λ _. tt)

  pub op_kept : (rows : ℕ) (w : Word) → All (Kept rows) (op_by s channels rows w)
  unfolding op_by
  op_kept rows w =
      cond_all (All (Kept rows)) (eqb w.kind send_kind)
      (λ _. bind_all (Kept rows) (Kept rows) (port s channels w.next rows) _ (port_kept rows (word_at s w.next))
      (λ p at r e. bind_all (Kept r) (Kept rows) (number s value_limit at r) _ (number_kept s value_limit r (word_at s at)) (λ v at' r' e'. e' ∙ e))) λ _.
      cond_all (All (Kept rows)) (eqb w.kind forward_kind)
      (λ _. bind_all (Kept rows) (Kept rows) (port s channels w.next rows) _ (port_kept rows (word_at s w.next)) (λ p at r e. e)) λ _.
      cond_all (All (Kept rows)) (eqb w.kind recv_kind)
      (λ _. bind_all (Kept rows) (Kept rows) (port s channels w.next rows) _ (port_kept rows (word_at s w.next)) (λ p at r e. e)) (λ _. tt)

-- Operands are the same, whatever the rows.
abbrev at_rows : {A : Type 0} → ℕ → Part A → Part A
at_rows rows (got x at r) = got x at rows
at_rows rows none = none
at_rows rows (bad n place) = bad n place

module _ (rows : ℕ) where
  cond_rows : {A : Type 0} (b : Bool) (x y x' y' : Part A) → x ≡ at_rows rows x' → y ≡ at_rows rows y' → cond b x y ≡ at_rows rows (cond b x' y')
  cond_rows true x y x' y' e f = e
  cond_rows false x y x' y' e f = f

  bind_rows : {A B : Type 0} (p p' : Part A) (f : A → ℕ → ℕ → Part B) → p ≡ at_rows rows p' → All (Kept 0) p' → ((x : A) (at : ℕ) → f x at rows ≡ at_rows rows (f x at 0)) → bind p f ≡ at_rows rows (bind p' f)
  unfolding bind
  bind_rows p (got x at r) f e k h = rw (e, k) (h x at)
  bind_rows p none f e k h = rw e
  bind_rows p (bad n place) f e k h = rw e

  number_rows : (s : List ℕ) (limit : ℕ) (w : Word) → number_by s limit rows w ≡ at_rows rows (number_by s limit 0 w)
  unfolding number_by
  number_rows s limit w = cond_rows (eqb w.kind no_kind) _ _ _ _ refl (cond_rows (eqb w.kind number_kind) _ _ _ _ (cond_rows (leb w.value limit) _ _ _ _ refl refl) refl)

  module _ (s : List ℕ) (channels : ℕ) where
    port_rows : (w : Word) → port_by s channels rows w ≡ at_rows rows (port_by s channels 0 w)
    unfolding port_by
    port_rows w =
        cond_rows (eqb w.kind no_kind) _ _ _ _ refl
        (cond_rows (eqb w.kind nil_kind) _ _ _ _ refl
        (cond_rows (eqb w.kind number_kind) _ _ _ _ (cond_rows (ltb w.value channels) _ _ _ _ refl refl) refl))

    op_rows : (w : Word) → op_by s channels rows w ≡ at_rows rows (op_by s channels 0 w)
    unfolding op_by
    op_rows w =
        let v = word_at s w.next in
        cond_rows (eqb w.kind send_kind) _ _ _ _
        (bind_rows (port_by s channels rows v) (port_by s channels 0 v) _ (port_rows v) (port_kept s channels 0 v) (λ p at.
        bind_rows (number s value_limit at rows) (number s value_limit at 0) _ (number_rows s value_limit (word_at s at)) (number_kept s value_limit 0 (word_at s at)) (λ n at. refl)))
        (cond_rows (eqb w.kind forward_kind) _ _ _ _
        (bind_rows (port_by s channels rows v) (port_by s channels 0 v) _ (port_rows v) (port_kept s channels 0 v) (λ p at. refl))
        (cond_rows (eqb w.kind recv_kind) _ _ _ _
        (bind_rows (port_by s channels rows v) (port_by s channels 0 v) _ (port_rows v) (port_kept s channels 0 v) (λ p at. refl)) refl))

-- HEADS, as the words that they stand for

module _ (s : List ℕ) (channels : ℕ) where
  -- The operands of a head and the place behind them, behind its first word w. No head, or a refusal, is the statement's own.
  abbrev pub Operands : Word → Part Head → Type 0
  Operands w (got (Head.Operate o) next m) = (is_op w.kind ≡ true) × ((rows : ℕ) → op_by s channels rows w ≡ got o next rows)
  Operands w (got (Head.Close p) next m) = (w.kind ≡ close_kind) × ((rows : ℕ) → port s channels w.next rows ≡ got p next rows)
  Operands w (got Head.Stop next m) = (w.kind ≡ stop_kind) × (next ≡ w.next)
  Operands w (got (Head.Range p) next m) = (w.kind ≡ range_kind) × ((rows : ℕ) → port s channels w.next rows ≡ got p next rows)
  Operands w (got (Head.Repeat n) next m) = (w.kind ≡ repeat_kind) × ((rows : ℕ) → number s lap_limit w.next rows ≡ got n next rows)
  Operands w (got Head.Ifok next m) = (w.kind ≡ ifok_kind) × (next ≡ w.next)
  Operands w (got Head.Select next m) = (w.kind ≡ select_kind) × (next ≡ w.next)
  Operands w none = (sub : ℕ → ℕ → Part Body) (depth rows : ℕ) → is_too_deep w.kind depth ≡ false → rows < row_limit → stmt_by s channels sub depth w rows ≡ none
  Operands w (bad n place) = (sub : ℕ → ℕ → Part Body) (depth rows : ℕ) → is_too_deep w.kind depth ≡ false → rows < row_limit → stmt_by s channels sub depth w rows ≡ bad n place

  -- The same with the limits: a head has a row left, and a block's head room for one block more.
  abbrev pub HeadIs : ℕ → ℕ → Word → Part Head → Type 0
  HeadIs depth rows w (got (Head.Operate o) next m) = (rows < row_limit) × Operands w (got (Head.Operate o) next m)
  HeadIs depth rows w (got (Head.Close p) next m) = (rows < row_limit) × Operands w (got (Head.Close p) next m)
  HeadIs depth rows w (got Head.Stop next m) = (rows < row_limit) × Operands w (got Head.Stop next m)
  HeadIs depth rows w (got (Head.Range p) next m) = (depth < depth_limit) × (rows < row_limit) × Operands w (got (Head.Range p) next m)
  HeadIs depth rows w (got (Head.Repeat n) next m) = (depth < depth_limit) × (rows < row_limit) × Operands w (got (Head.Repeat n) next m)
  HeadIs depth rows w (got Head.Ifok next m) = (depth < depth_limit) × (rows < row_limit) × Operands w (got Head.Ifok next m)
  HeadIs depth rows w (got Head.Select next m) = (depth < depth_limit) × (rows < row_limit) × Operands w (got Head.Select next m)
  HeadIs depth rows w none = (sub : ℕ → ℕ → Part Body) → stmt_by s channels sub depth w rows ≡ none
  HeadIs depth rows w (bad n place) = (sub : ℕ → ℕ → Part Body) → stmt_by s channels sub depth w rows ≡ bad n place

  module _ (w : Word) where
    operate_operands : is_op w.kind ≡ true → (p : Part Op) → ((rows : ℕ) → op_by s channels rows w ≡ at_rows rows p) → Operands w (head_of Head.Operate p)
    unfolding head_of bind
    operate_operands e (got o at r) h = (e, h)
    operate_operands e none h = λ sub depth rows d l. operate_read s channels sub depth w rows l e ∙ rw (h (rows + 1))
    operate_operands e (bad n place) h = λ sub depth rows d l. operate_read s channels sub depth w rows l e ∙ rw (h (rows + 1))

    close_operands : w.kind ≡ close_kind → (p : Part Port) → ((rows : ℕ) → port s channels w.next rows ≡ at_rows rows p) → Operands w (head_of Head.Close p)
    unfolding head_of bind
    close_operands e (got q at r) h = (e, h)
    close_operands e none h = λ sub depth rows d l. close_read s channels sub depth w rows l e ∙ rw (h (rows + 1))
    close_operands e (bad n place) h = λ sub depth rows d l. close_read s channels sub depth w rows l e ∙ rw (h (rows + 1))

    range_operands : w.kind ≡ range_kind → (p : Part Port) → ((rows : ℕ) → port s channels w.next rows ≡ at_rows rows p) → Operands w (head_of Head.Range p)
    unfolding head_of bind
    range_operands e (got q at r) h = (e, h)
    range_operands e none h = λ sub depth rows d l. range_read s channels sub depth w rows l (not_deep range_kind depth refl (rw e at d)) e ∙ rw (h (rows + 1))
    range_operands e (bad n place) h = λ sub depth rows d l. range_read s channels sub depth w rows l (not_deep range_kind depth refl (rw e at d)) e ∙ rw (h (rows + 1))

    repeat_operands : w.kind ≡ repeat_kind → (p : Part ℕ) → ((rows : ℕ) → number s lap_limit w.next rows ≡ at_rows rows p) → Operands w (head_of Head.Repeat p)
    unfolding head_of bind
    repeat_operands e (got n at r) h = (e, h)
    repeat_operands e none h = λ sub depth rows d l. repeat_read s channels sub depth w rows l (not_deep repeat_kind depth refl (rw e at d)) e ∙ rw (h (rows + 1))
    repeat_operands e (bad n place) h = λ sub depth rows d l. repeat_read s channels sub depth w rows l (not_deep repeat_kind depth refl (rw e at d)) e ∙ rw (h (rows + 1))

    operands_are : is_statement w.kind ≡ true → Operands w (operands_by s channels w)
    unfolding operands_by is_statement
    operands_are e =
        let v = word_at s w.next in
        cond_all (Operands w) (is_op w.kind) (λ q. operate_operands q (op_by s channels 0 w) (λ rows. op_rows rows s channels w)) λ q1.
        cond_all (Operands w) (eqb w.kind close_kind) (λ q. close_operands (eqb-true w.kind close_kind q) (port s channels w.next 0) (λ rows. port_rows rows s channels v)) λ q2.
        cond_all (Operands w) (eqb w.kind stop_kind) (λ q. (eqb-true w.kind stop_kind q, refl)) λ q3.
        cond_all (Operands w) (eqb w.kind range_kind) (λ q. range_operands (eqb-true w.kind range_kind q) (port s channels w.next 0) (λ rows. port_rows rows s channels v)) λ q4.
        cond_all (Operands w) (eqb w.kind repeat_kind) (λ q. repeat_operands (eqb-true w.kind repeat_kind q) (number s lap_limit w.next 0) (λ rows. number_rows rows s lap_limit v)) λ q5.
        cond_all (Operands w) (eqb w.kind ifok_kind) (λ q. (eqb-true w.kind ifok_kind q, refl)) λ q6.
        cond_all (Operands w) (eqb w.kind select_kind) (λ q. (eqb-true w.kind select_kind q, refl)) λ q7.
        absurd (true≢false (sym e ∙ rw (q1, q2, q3, q4, q5, q6, q7)))

    module _ (depth rows : ℕ) where
      block_depth : (k : ℕ) → is_block k ≡ true → w.kind ≡ k → is_too_deep w.kind depth ≡ false → depth < depth_limit
      block_depth k b e d = not_deep k depth b (rw e at d)

      head_within : is_too_deep w.kind depth ≡ false → rows < row_limit → (r : Part Head) → Operands w r → HeadIs depth rows w r
      head_within d h (got (Head.Operate o) next m) f = (h, f)
      head_within d h (got (Head.Close p) next m) f = (h, f)
      head_within d h (got Head.Stop next m) f = (h, f)
      head_within d h (got (Head.Range p) next m) f = (block_depth range_kind refl f.0 d, h, f)
      head_within d h (got (Head.Repeat n) next m) f = (block_depth repeat_kind refl f.0 d, h, f)
      head_within d h (got Head.Ifok next m) f = (block_depth ifok_kind refl f.0 d, h, f)
      head_within d h (got Head.Select next m) f = (block_depth select_kind refl f.0 d, h, f)
      head_within d h none f = λ sub. f sub depth rows d h
      head_within d h (bad n place) f = λ sub. f sub depth rows d h

      pub head_is : HeadIs depth rows w (head_by s channels depth rows w)
      unfolding head_by
      head_is =
          cond_all (HeadIs depth rows w) (is_statement w.kind)
          (λ e. cond_all (HeadIs depth rows w) (is_too_deep w.kind depth) (λ d sub. too_deep_lem s channels sub depth w rows d) λ d.
          cond_all (HeadIs depth rows w) (ltb rows row_limit) (λ h. head_within d (ltb-true rows row_limit h) (operands_by s channels w) (operands_are e))
          (λ h sub. rows_full_lem s channels sub depth w rows e d (ltb-false rows row_limit h)))
          (λ e sub. no_statement s channels sub depth w rows e)

-- The statement that a head begins.
abbrev pub stmt_of : List ℕ → ℕ → (ℕ → ℕ → Part Body) → ℕ → Part Head → Part Stmt
stmt_of s channels sub rows (got (Head.Operate o) next m) = got (operate o) next (rows + 1)
stmt_of s channels sub rows (got (Head.Close p) next m) = got (close p) next (rows + 1)
stmt_of s channels sub rows (got Head.Stop next m) = got stop next (rows + 1)
stmt_of s channels sub rows (got (Head.Range p) next m) = bind (sub next (rows + 1)) (λ b at r. closed s (range p b) at r)
stmt_of s channels sub rows (got (Head.Repeat n) next m) = bind (sub next (rows + 1)) (λ b at r. closed s (repeat n b) at r)
stmt_of s channels sub rows (got Head.Ifok next m) = bind (sub next (rows + 1)) (λ b at r. second_by s channels sub b at (word_at s at) r)
stmt_of s channels sub rows (got Head.Select next m) = bind (cases_from s channels sub case_limit next (rows + 1)) (λ cs at r. closed s (select cs) at r)
stmt_of s channels sub rows none = none
stmt_of s channels sub rows (bad n place) = bad n place

module _ (s : List ℕ) (channels depth at rows : ℕ) where
  pub head_told : {v i : Part Head} → v ≡ i → HeadTold s channels depth at rows v → HeadIs s channels depth rows (word_at s at) i
  head_told e h = rw (sym h ∙ e) at (head_is s channels (word_at s at) depth rows)

  pub stmt_of_lem : (sub : ℕ → ℕ → Part Body) (i : Part Head) → HeadIs s channels depth rows (word_at s at) i → stmt_of s channels sub rows i ≡ stmt_by s channels sub depth (word_at s at) rows
  unfolding bind
  stmt_of_lem sub (got (Head.Operate o) next m) (h, (e, f)) = sym (operate_read s channels sub depth (word_at s at) rows h e ∙ rw (f (rows + 1)))
  stmt_of_lem sub (got (Head.Close p) next m) (h, (e, f)) = sym (close_read s channels sub depth (word_at s at) rows h e ∙ rw (f (rows + 1)))
  stmt_of_lem sub (got Head.Stop next m) (h, (e, f)) = sym (stop_read s channels sub depth (word_at s at) rows h e ∙ rw f)
  stmt_of_lem sub (got (Head.Range p) next m) (l, h, (e, f)) = sym (range_read s channels sub depth (word_at s at) rows h l e ∙ rw (f (rows + 1)))
  stmt_of_lem sub (got (Head.Repeat n) next m) (l, h, (e, f)) = sym (repeat_read s channels sub depth (word_at s at) rows h l e ∙ rw (f (rows + 1)))
  stmt_of_lem sub (got Head.Ifok next m) (l, h, (e, f)) = sym (ifok_read s channels sub depth (word_at s at) rows h l e ∙ rw f)
  stmt_of_lem sub (got Head.Select next m) (l, h, (e, f)) = sym (select_read s channels sub depth (word_at s at) rows h l e ∙ rw f)
  stmt_of_lem sub none h = sym (h sub)
  stmt_of_lem sub (bad n place) h = sym (h sub)

  pub head_stmt : {v i : Part Head} → v ≡ i → HeadTold s channels depth at rows v → (sub : ℕ → ℕ → Part Body) → told (stmt_of s channels sub rows i) ≡ told (stmt_by s channels sub depth (word_at s at) rows)
  head_stmt {v} {i} e h sub = ap told (stmt_of_lem sub i (head_told e h))

  -- Every head has a row left.
  pub head_row : (h : Head) (next m : ℕ) → HeadIs s channels depth rows (word_at s at) (got h next m) → rows < row_limit
  head_row (Head.Operate o) next m f = f.0
  head_row (Head.Close p) next m f = f.0
  head_row Head.Stop next m f = f.0
  head_row (Head.Range p) next m f = f.1
  head_row (Head.Repeat n) next m f = f.1
  head_row Head.Ifok next m f = f.1
  head_row Head.Select next m f = f.1
