-- The reader walked once, for every text: each of its parts keeps to what is said of it. One lemma serves every choice between two ways,
-- one every part behind another.
use Rattle.std.specs.Prelude.{◌≡◌, Bool, cond, List, [], ◌∷◌, eqb, leb, ltb, Option, Some, None}
use Rattle.std.proofs.Math.Path.{refl}
use Rattle.std.proofs.Math.Bool.{true, false}
use Prim.Native.Nat.{ℕ, zero, suc, ◌+◌, ◌-◌, ◌≤◌, ◌<◌}
use Rattle.std.proofs.Math.Numerals.{add-one}
use native.Mathlib.Omega.{arith}
use borrow.Author.Tests.{eqb-true, eqb-false, leb-true, ltb-true, ltb-false}
use Rattle.std.proofs.Math.ListN.{length}
use Rattle.text_laws.specs.Kinds.{Op}
use Rattle.meaning.specs.Numbers.{text_limit, channel_limit, capacity_limit, task_limit, case_limit, value_limit, lap_limit, depth_limit, row_limit, text_too_long, byte_not_allowed, word_out_of_place, number_due, number_over_range, one_too_many, too_deep, rows_full, cut_short, no_task_given}
use Rattle.meaning.specs.Text.{Stmt, range, repeat, ifok, select, Body, empty, Cases, Job}
use Rattle.meaning.specs.Layout.{case_count, size_s, size_b, size_c, rows_t}
use Rattle.meaning.specs.Laws.Tests.{cond_all}
use Rattle.image_laws.specs.Proper.{Proper}
use Rattle.image_laws.proofs.Rows.{size_t, rows_t_size, positive}
use Rattle.text_words.specs.Words.{no_kind, chan_kind, task_kind, send_kind, forward_kind, recv_kind, close_kind, range_kind, repeat_kind, ifok_kind, else_kind, select_kind, case_kind, default_kind, stop_kind, end_kind, nil_kind, number_kind, word_at, first_not_allowed}
use Rattle.text_reader.specs.Reading.{Part, got, none, bad, bind, misplaced, number_by, number, closed_by, closed, port_by, port, op_by, with_row, as_block, second_by, or_misplaced, case_op, case_by, last_by, cases_from, is_op_word, stmt_by, body_from, body, chan_by, chans_from, task_end, task_by, tasks_from, job_of, job, allowed_by, reading}
use Rattle.text_reader.specs.Laws.Parts.{bind_holds}
use Rattle.text_reader.specs.Laws.Many.{ahead_holds, many_holds}
use Rattle.text_laws.specs.Laws.Kept.{StmtRead, BodyRead, CaseRead, CasesRead, TaskRead, TasksRead, ChanRead, ChansRead, JobRead, NumberRead, PortRead, OpRead, names, Refusal, Kept}

module _ (s : List ℕ) (Edge : ℕ → Type 0) (behind : (at : ℕ) → Edge (word_at s at).next) where
  bind_kept : {A B : Type 0} (P : A → ℕ → Type 0) (Q : B → ℕ → Type 0) (p : Part A) (f : A → ℕ → ℕ → Part B) → Kept s Edge P p → ((x : A) (at r : ℕ) → Edge at → P x r → Kept s Edge Q (f x at r)) → Kept s Edge Q (bind p f)
  bind_kept P Q p f h k = bind_holds (λ x at r. Edge at × P x r) (λ x at r. Edge at × Q x r) (Refusal s Edge) p f h (λ x at r q. k x at r q.0 q.1)

  -- WORDS

  word_refused : (n at : ℕ) → Edge at → word_out_of_place ≤ n → n ≤ rows_full → names n (word_at s at).kind ≡ true → Refusal s Edge n (word_at s at).start
  word_refused n at i l m t = record { least = l; most = omega arith; word = λ _. record { at = at; edge = i; first = refl; named = t }; ended = λ h. absurd (omega arith) }

  end_refused : (n : ℕ) → cut_short ≤ n → n ≤ no_task_given → Refusal s Edge n (length s)
  end_refused n l m = record { least = omega arith; most = m; word = λ h. absurd (omega arith); ended = λ _. refl }

  -- A word of a kind that the number can name.
  is_named : (n at k : ℕ) → names n k ≡ true → eqb (word_at s at).kind k ≡ true → names n (word_at s at).kind ≡ true
  is_named n at k t e = rw (eqb-true (word_at s at).kind k e) t

  misplaced_kept : {A : Type 0} (P : A → ℕ → Type 0) (at : ℕ) → Edge at → Kept s Edge P (misplaced s (word_at s at))
  misplaced_kept P at i =
      cond_all (Kept s Edge P) (eqb (word_at s at).kind no_kind)
      (λ _. end_refused cut_short (omega arith) (omega arith))
      (λ e. word_refused word_out_of_place at i (omega arith) (omega arith) (rw e))

  pub number_kept : (limit at rows : ℕ) → Edge at → Kept s Edge (NumberRead rows limit) (number s limit at rows)
  unfolding number_by
  number_kept limit at rows i =
      let P = Kept s Edge (NumberRead rows limit) in
      cond_all P (eqb (word_at s at).kind no_kind)
      (λ _. end_refused cut_short (omega arith) (omega arith))
      (λ e. cond_all P (eqb (word_at s at).kind number_kind)
      (λ f. cond_all P (leb (word_at s at).value limit)
      (λ t. (behind at, record { within = leb-true _ _ t; same = refl }))
      (λ _. word_refused number_over_range at i (omega arith) (omega arith) (is_named number_over_range at number_kind refl f)))
      (λ f. word_refused number_due at i (omega arith) (omega arith) (rw (e, f))))

  closed_kept : {A : Type 0} (P : A → ℕ → Type 0) (x : A) (at rows : ℕ) → Edge at → P x rows → Kept s Edge P (closed s x at rows)
  unfolding closed_by
  closed_kept P x at rows i h = cond_all (Kept s Edge P) (eqb (word_at s at).kind end_kind) (λ _. (behind at, h)) (λ _. misplaced_kept P at i)

  -- LIMITS

  row_kept : {A : Type 0} (P : A → ℕ → Type 0) (at rows : ℕ) (f : ℕ → Part A) → Edge at → names rows_full (word_at s at).kind ≡ true → (rows < row_limit → Kept s Edge P (f (rows + 1))) → Kept s Edge P (with_row (word_at s at) f rows)
  row_kept {A} P at rows f i k h =
      cond_all (λ (g : ℕ → Part A). Kept s Edge P (g (rows + 1))) (ltb rows row_limit)
      (λ t. h (ltb-true _ _ t))
      (λ _. word_refused rows_full at i (omega arith) (omega arith) k)

  block_kept : {A : Type 0} (P : A → ℕ → Type 0) (depth at rows : ℕ) (f : ℕ → Part A) → Edge at → names too_deep (word_at s at).kind ≡ true → names rows_full (word_at s at).kind ≡ true
      → (depth < depth_limit → rows < row_limit → Kept s Edge P (f (rows + 1))) → Kept s Edge P (as_block depth (word_at s at) f rows)
  block_kept {A} P depth at rows f i k m h =
      cond_all (λ (g : ℕ → Part A). Kept s Edge P (g rows)) (ltb depth depth_limit)
      (λ t. row_kept P at rows f i m (h (ltb-true _ _ t)))
      (λ _. word_refused too_deep at i (omega arith) (omega arith) k)

  -- OPERATIONS

  module _ (channels : ℕ) where
    pub port_kept : (at rows : ℕ) → Edge at → Kept s Edge (PortRead rows channels) (port s channels at rows)
    unfolding port_by
    port_kept at rows i =
        let P = Kept s Edge (PortRead rows channels) in
        cond_all P (eqb (word_at s at).kind no_kind)
        (λ _. end_refused cut_short (omega arith) (omega arith))
        (λ e. cond_all P (eqb (word_at s at).kind nil_kind)
        (λ _. (behind at, record { sound = tt; same = refl }))
        (λ _. cond_all P (eqb (word_at s at).kind number_kind)
        (λ f. cond_all P (ltb (word_at s at).value channels)
        (λ t. (behind at, record { sound = ltb-true _ _ t; same = refl }))
        (λ _. word_refused number_over_range at i (omega arith) (omega arith) (is_named number_over_range at number_kind refl f)))
        (λ f. word_refused number_due at i (omega arith) (omega arith) (rw (e, f)))))

    pub op_kept : (at rows : ℕ) → Kept s Edge (OpRead rows channels) (op_by s channels rows (word_at s at))
    unfolding op_by
    op_kept at rows =
        let O = OpRead rows channels in
        let C = PortRead rows channels in
        let next = (word_at s at).next in
        let due = port_kept next rows (behind at) in
        cond_all (Kept s Edge O) (eqb (word_at s at).kind send_kind)
        (λ _. bind_kept C O (port s channels next rows) _ due
        (λ p a r i q. bind_kept (NumberRead r value_limit) O (number s value_limit a r) _ (number_kept value_limit a r i)
        (λ v b t k n. (k, record { proper = (q.sound, n.within); same = omega (arith, q.same, n.same) }))))
        (λ _. cond_all (Kept s Edge O) (eqb (word_at s at).kind forward_kind)
        (λ _. bind_kept C O (port s channels next rows) _ due (λ p a r i q. (i, record { proper = q.sound; same = q.same })))
        (λ _. cond_all (Kept s Edge O) (eqb (word_at s at).kind recv_kind)
        (λ _. bind_kept C O (port s channels next rows) _ due (λ p a r i q. (i, record { proper = q.sound; same = q.same })))
        (λ _. tt)))

  -- STATEMENTS, where bodies one block deeper keep to it, with more rows needed.

  module _ (channels depth rows : ℕ) (sub : ℕ → ℕ → Part Body) (good : (at r : ℕ) → Edge at → rows < r → r ≤ row_limit → Kept s Edge (BodyRead channels (suc depth) r) (sub at r)) where
    second_kept : (b : Body) (at r : ℕ) → Edge at → depth < depth_limit → BodyRead channels (suc depth) (rows + 1) b r → Kept s Edge (StmtRead channels depth rows) (second_by s channels sub b at (word_at s at) r)
    unfolding second_by size_s size_b size_c
    second_kept b at r i l q =
        let P = StmtRead channels depth rows in
        let next = (word_at s at).next in
        cond_all (λ (g : ℕ → Part Stmt). Kept s Edge P (g r)) (eqb (word_at s at).kind else_kind)
        (λ _. bind_kept (BodyRead channels (suc depth) r) P (sub next r) _ (good next r (behind at) (omega (arith, q.sized)) q.room)
        (λ c a t k z. closed_kept P (ifok b c) a t k (record { proper = (l, q.proper, z.proper); sized = omega (arith, q.sized, z.sized); room = z.room })))
        (λ _. closed_kept P (ifok b empty) at r i (record { proper = (l, q.proper, tt); sized = omega (arith, q.sized); room = q.room }))

    or_kept : (at r : ℕ) (p : Part Op) → Edge at → Kept s Edge (OpRead r channels) p → Kept s Edge (OpRead r channels) (or_misplaced s channels sub (word_at s at) p)
    or_kept at r (got o a t) i h = h
    or_kept at r none i h = misplaced_kept (OpRead r channels) at i
    or_kept at r (bad n place) i h = h

    pub case_op_kept : (at r : ℕ) → Edge at → Kept s Edge (OpRead r channels) (case_op s channels sub (word_at s at) r)
    unfolding case_op
    case_op_kept at r i = or_kept at r (op_by s channels r (word_at s at)) i (op_kept channels at r)

    pub case_kept : (left at r : ℕ) → Edge at → rows < r → Kept s Edge (CaseRead channels (suc depth) r left) (case_by s channels sub left (word_at s at) r)
    unfolding case_by
    case_kept left at r i l =
        let P = CaseRead channels (suc depth) r left in
        let next = (word_at s at).next in
        cond_all (λ (g : ℕ → Part (Op × Body)). Kept s Edge P (g r)) (eqb (word_at s at).kind case_kind)
        (λ e. cond_all (λ (g : ℕ → Part (Op × Body)). Kept s Edge P (g r)) (eqb left 0)
        (λ _. word_refused one_too_many at i (omega arith) (omega arith) (is_named one_too_many at case_kind refl e))
        (λ f. row_kept P at r _ i (is_named rows_full at case_kind refl e)
        (λ h. bind_kept (OpRead (r + 1) channels) P (case_op s channels sub (word_at s next) (r + 1)) _ (case_op_kept next (r + 1) (behind at))
        (λ o a t k q. bind_kept (BodyRead channels (suc depth) t) P (sub a t) _ (good a t k (omega (arith, q.same)) (omega (arith, q.same)))
        (λ b c u m z. (m, record { some = omega (arith, eqb-false left 0 f); op = q.proper; proper = z.proper; sized = omega (arith, q.same, z.sized); room = z.room }))))))
        (λ _. tt)

    last_kept : (bound at r : ℕ) → Edge at → 0 < bound → rows < r → r ≤ row_limit → Kept s Edge (CasesRead channels (suc depth) r bound) (last_by s channels sub at (word_at s at) r)
    unfolding last_by case_count size_s size_b size_c
    last_kept bound at r i n l m =
        let P = CasesRead channels (suc depth) r bound in
        let next = (word_at s at).next in
        cond_all (λ (g : ℕ → Part Cases). Kept s Edge P (g r)) (eqb (word_at s at).kind default_kind)
        (λ _. bind_kept (BodyRead channels (suc depth) r) P (sub next r) _ (good next r (behind at) l m)
        (λ b a t k z. (k, record { fewer = n; proper = z.proper; sized = omega (arith, z.sized); room = z.room })))
        (λ _. (i, record { fewer = n; proper = tt; sized = omega arith; room = m }))

    pub cases_kept : (left at r : ℕ) → Edge at → rows < r → r ≤ row_limit → Kept s Edge (CasesRead channels (suc depth) r (suc left)) (cases_from s channels sub left at r)
    unfolding cases_from case_count size_s size_b size_c
    cases_kept left at r i l m =
        many_holds _ _ _ (λ at r. Edge at × (rows < r) × (r ≤ row_limit))
        (λ left r k a t. Edge a × CaseRead channels (suc depth) r left k t) (λ left r cs a t. Edge a × CasesRead channels (suc depth) r (suc left) cs t) _
        (λ left at r (i, l, m). case_kept left at r i l) (λ left at r (i, l, m). last_kept (suc left) at r i (omega arith) l m)
        (λ left at r k a t (_, l, _) (i, h). (i, omega (arith, h.sized), h.room))
        (λ left r k a t cs c u (_, h) (i, z).
        (i, record { fewer = omega (arith, h.some, z.fewer); proper = (h.op, h.proper, z.proper); sized = omega (arith, h.sized, z.sized); room = z.room }))
        left at r (i, l, m)

    op_word : (at : ℕ) → is_op_word s channels sub (word_at s at) ≡ true → names rows_full (word_at s at).kind ≡ true
    op_word at =
        cond_all (λ (b : Bool). b ≡ true → names rows_full (word_at s at).kind ≡ true) (eqb (word_at s at).kind send_kind)
        (λ e _. is_named rows_full at send_kind refl e)
        (λ _. cond_all (λ (b : Bool). b ≡ true → names rows_full (word_at s at).kind ≡ true) (eqb (word_at s at).kind forward_kind)
        (λ e _. is_named rows_full at forward_kind refl e)
        (λ _ e. is_named rows_full at recv_kind refl e))

    stmt_kept : (at : ℕ) → Edge at → Kept s Edge (StmtRead channels depth rows) (stmt_by s channels sub depth (word_at s at) rows)
    unfolding stmt_by size_s size_b size_c
    stmt_kept at i =
        let P = StmtRead channels depth rows in
        let w = word_at s at in
        let next = (word_at s at).next in
        let more = rows + 1 in
        way (is_op_word s channels sub w) _ _
        (λ e. row_kept P at rows _ i (op_word at e)
        (λ h. bind_kept (OpRead more channels) P (op_by s channels more w) _ (op_kept channels at more)
        (λ o a r k q. (k, record { proper = q.proper; sized = q.same; room = omega (arith, q.same) }))))
        (λ _. way (eqb w.kind close_kind) _ _
        (λ e. row_kept P at rows _ i (is_named rows_full at close_kind refl e)
        (λ h. bind_kept (PortRead more channels) P (port s channels next more) _ (port_kept channels next more (behind at))
        (λ p a r k q. (k, record { proper = q.sound; sized = q.same; room = omega (arith, q.same) }))))
        (λ _. way (eqb w.kind stop_kind) _ _
        (λ e. row_kept P at rows _ i (is_named rows_full at stop_kind refl e) (λ h. (behind at, record { proper = tt; sized = refl; room = omega arith })))
        (λ _. way (eqb w.kind range_kind) _ _
        (λ e. block_kept P depth at rows _ i (is_named too_deep at range_kind refl e) (is_named rows_full at range_kind refl e)
        (λ d h. bind_kept (PortRead more channels) P (port s channels next more) _ (port_kept channels next more (behind at))
        (λ p a r k q. bind_kept (BodyRead channels (suc depth) r) P (sub a r) _ (good a r k (omega (arith, q.same)) (omega (arith, q.same)))
        (λ b c t m z. closed_kept P (range p b) c t m (record { proper = (d, q.sound, z.proper); sized = omega (arith, q.same, z.sized); room = z.room })))))
        (λ _. way (eqb w.kind repeat_kind) _ _
        (λ e. block_kept P depth at rows _ i (is_named too_deep at repeat_kind refl e) (is_named rows_full at repeat_kind refl e)
        (λ d h. bind_kept (NumberRead more lap_limit) P (number s lap_limit next more) _ (number_kept lap_limit next more (behind at))
        (λ n a r k q. bind_kept (BodyRead channels (suc depth) r) P (sub a r) _ (good a r k (omega (arith, q.same)) (omega (arith, q.same)))
        (λ b c t m z. closed_kept P (repeat n b) c t m (record { proper = (d, q.within, z.proper); sized = omega (arith, q.same, z.sized); room = z.room })))))
        (λ _. way (eqb w.kind ifok_kind) _ _
        (λ e. block_kept P depth at rows _ i (is_named too_deep at ifok_kind refl e) (is_named rows_full at ifok_kind refl e)
        (λ d h. bind_kept (BodyRead channels (suc depth) more) P (sub next more) _ (good next more (behind at) (omega arith) (omega arith))
        (λ b a r k z. second_kept b a r k d z)))
        (λ _. way (eqb w.kind select_kind) _ _
        (λ e. block_kept P depth at rows _ i (is_named too_deep at select_kind refl e) (is_named rows_full at select_kind refl e)
        (λ d h. bind_kept (CasesRead channels (suc depth) more (suc case_limit)) P (cases_from s channels sub case_limit next more) _ (cases_kept case_limit next more (behind at) (omega arith) (omega arith))
        (λ cs a r k z. closed_kept P (select cs) a r k (record { proper = (d, omega (arith, z.fewer), z.proper); sized = omega (arith, z.sized); room = z.room }))))
        (λ _. tt)))))))
      where
        way : (b : Bool) (f g : ℕ → Part Stmt) → (b ≡ true → Kept s Edge (StmtRead channels depth rows) (f rows)) → (b ≡ false → Kept s Edge (StmtRead channels depth rows) (g rows)) → Kept s Edge (StmtRead channels depth rows) (cond b f g rows)
        way b f g = cond_all (λ (p : ℕ → Part Stmt). Kept s Edge (StmtRead channels depth rows) (p rows)) b

  -- BODIES, with one step more than rows are left

  pub body_kept : (k channels depth at rows : ℕ) → Edge at → rows ≤ row_limit → row_limit - rows < k → Kept s Edge (BodyRead channels depth rows) (body_from k s channels depth at rows)
  unfolding body_from size_s size_b size_c
  body_kept zero channels depth at rows i l h = absurd (omega arith)
  body_kept (suc k) channels depth at rows i l h =
      let deeper = body_from k s channels (depth + 1) in
      ahead_holds _ (λ x a r. Edge a × StmtRead channels depth rows x r) (λ r b c m. Edge c × BodyRead channels depth r b m)
      (λ b c m. Edge c × BodyRead channels depth rows b m) _ (body_from k s channels depth) _ (stmt_by s channels deeper depth (word_at s at) rows)
      (stmt_kept channels depth rows deeper (λ a r j m n. rw add-one (body_kept k channels (suc depth) a r j n (omega arith))) at i)
      (λ x a r (j, q). body_kept k channels depth a r j q.room (omega (arith, q.sized, positive x)))
      (λ x a r b c m (_, q) (j, z). (j, record { proper = (q.proper, z.proper); sized = omega (arith, q.sized, z.sized); room = z.room }))
      (i, record { proper = tt; sized = omega arith; room = l })

  -- So bodies one block deeper keep to it, and the statements around them.
  pub deeper_kept : (k channels depth rows : ℕ) → row_limit - rows < suc k → (at r : ℕ) → Edge at → rows < r → r ≤ row_limit → Kept s Edge (BodyRead channels (suc depth) r) (body_from k s channels (depth + 1) at r)
  deeper_kept k channels depth rows h at r i l m = rw add-one (body_kept k channels (suc depth) at r i m (omega arith))

  pub statement_kept : (k channels depth at rows : ℕ) → Edge at → row_limit - rows < suc k → Kept s Edge (StmtRead channels depth rows) (stmt_by s channels (body_from k s channels (depth + 1)) depth (word_at s at) rows)
  statement_kept k channels depth at rows i h = stmt_kept channels depth rows (body_from k s channels (depth + 1)) (deeper_kept k channels depth rows h) at i

  -- A JOB

  pub chan_kept : (left at rows : ℕ) → Edge at → rows ≡ 0 → Kept s Edge (ChanRead left) (chan_by s left (word_at s at) rows)
  unfolding chan_by
  chan_kept left at rows i l =
      let next = (word_at s at).next in
      cond_all (λ (g : ℕ → Part ℕ). Kept s Edge (ChanRead left) (g rows)) (eqb (word_at s at).kind chan_kind)
      (λ e. cond_all (λ (g : ℕ → Part ℕ). Kept s Edge (ChanRead left) (g rows)) (eqb left 0)
      (λ _. word_refused one_too_many at i (omega arith) (omega arith) (is_named one_too_many at chan_kind refl e))
      (λ f. keep (number s capacity_limit next rows) (omega (arith, eqb-false left 0 f)) (number_kept capacity_limit next rows (behind at))))
      (λ _. tt)
    where
      keep : (p : Part ℕ) → 1 ≤ left → Kept s Edge (NumberRead rows capacity_limit) p → Kept s Edge (ChanRead left) p
      keep (got n a r) m q = (q.0, record { some = m; within = q.1.within; first = omega (arith, q.1.same) })
      keep none m q = tt
      keep (bad n place) m q = q

  pub chans_kept : (left at rows : ℕ) → Edge at → rows ≡ 0 → Kept s Edge (ChansRead (suc left)) (chans_from s left at rows)
  unfolding chans_from
  chans_kept left at rows i l =
      many_holds _ _ _ (λ at rows. Edge at × (rows ≡ 0))
      (λ left rows n a r. Edge a × ChanRead left n r) (λ left rows ns a r. Edge a × ChansRead (suc left) ns r) _
      (λ left at rows (i, l). chan_kept left at rows i l) (λ left at rows (i, l). (i, record { fewer = omega arith; within = tt; first = l }))
      (λ left at rows n a r _ (i, h). (i, h.first))
      (λ left rows n a r ns c m (_, h) (i, z). (i, record { fewer = omega (arith, h.some, z.fewer); within = (h.within, z.within); first = z.first }))
      left at rows (i, l)

  module _ (channels : ℕ) where
    task_end_kept : (left at rows r : ℕ) (b : Body) → Edge at → 1 ≤ left → BodyRead channels 0 rows b r → Kept s Edge (TaskRead channels rows left) (task_end s b (word_at s at) r)
    unfolding task_end
    task_end_kept left at rows r b i l q =
        let P = TaskRead channels rows left in
        cond_all (λ (g : ℕ → Part Body). Kept s Edge P (g r)) (eqb (word_at s at).kind end_kind)
        (λ e. row_kept P at r _ i (is_named rows_full at end_kind refl e) (λ h. (behind at, record { some = l; proper = q.proper; sized = omega (arith, q.sized); room = omega arith })))
        (λ _. misplaced_kept P at i)

    pub task_kept : (left at rows : ℕ) → Edge at → rows ≤ row_limit → Kept s Edge (TaskRead channels rows left) (task_by s channels left (word_at s at) rows)
    unfolding task_by
    task_kept left at rows i l =
        let P = TaskRead channels rows left in
        let next = (word_at s at).next in
        cond_all (λ (g : ℕ → Part Body). Kept s Edge P (g rows)) (eqb (word_at s at).kind task_kind)
        (λ e. cond_all (λ (g : ℕ → Part Body). Kept s Edge P (g rows)) (eqb left 0)
        (λ _. word_refused one_too_many at i (omega arith) (omega arith) (is_named one_too_many at task_kind refl e))
        (λ f. bind_kept (BodyRead channels 0 rows) P (body s channels next rows) _ (body_kept (suc row_limit) channels 0 next rows (behind at) l (omega arith))
        (λ b a r k q. task_end_kept left a rows r b k (omega (arith, eqb-false left 0 f)) q)))
        (λ _. cond_all (Kept s Edge P) (eqb (word_at s at).kind no_kind)
        (λ _. tt)
        (λ e. word_refused word_out_of_place at i (omega arith) (omega arith) (rw e)))

    pub tasks_kept : (left at rows : ℕ) → Edge at → rows ≤ row_limit → Kept s Edge (TasksRead channels rows (suc left)) (tasks_from s channels left at rows)
    unfolding tasks_from size_t
    tasks_kept left at rows i l =
        many_holds _ _ _ (λ at rows. Edge at × (rows ≤ row_limit))
        (λ left rows b a r. Edge a × TaskRead channels rows left b r) (λ left rows bs a r. Edge a × TasksRead channels rows (suc left) bs r) _
        (λ left at rows (i, l). task_kept left at rows i l)
        (λ left at rows (i, l). (i, record { fewer = omega arith; proper = tt; sized = omega arith; room = l }))
        (λ left at rows b a r _ (i, h). (i, h.room))
        (λ left rows b a r bs c m (_, h) (i, z).
        (i, record { fewer = omega (arith, h.some, z.fewer); proper = (h.proper, z.proper); sized = omega (arith, h.sized, z.sized); room = z.room }))
        left at rows (i, l)

  job_of_kept : (caps : List ℕ) (bs : List Body) (at rows : ℕ) → Edge at → ChansRead (suc channel_limit) caps 0 → TasksRead (length caps) 0 (suc task_limit) bs rows → Kept s Edge JobRead (job_of s caps bs at rows)
  job_of_kept caps [] at rows i c t = end_refused no_task_given (omega arith) (omega arith)
  job_of_kept caps (b ∷ bs) at rows i c t =
      let size : rows ≡ length (rows_t (b ∷ bs) 0) = omega (arith, t.sized, rows_t_size (b ∷ bs) 0) in
      let right : Proper (record { capacities = caps; tasks = b ∷ bs }) = record {
        most_channels = omega (arith, c.fewer);
        capacities = c.within;
        some_tasks = omega arith;
        most_tasks = omega (arith, t.fewer);
        most_rows = omega (arith, t.room);
        bodies = t.proper;
      } in
      (i, record { proper = right; rows = size })

  pub job_kept : Edge 0 → Kept s Edge JobRead (job s)
  unfolding job
  job_kept i =
      bind_kept (ChansRead (suc channel_limit)) JobRead (chans_from s channel_limit 0 0) _ (chans_kept channel_limit 0 0 i refl)
      (λ caps at r k c. bind_kept (TasksRead (length caps) r (suc task_limit)) JobRead (tasks_from s (length caps) task_limit at r) _ (tasks_kept (length caps) task_limit at r k (omega (arith, c.first)))
      (λ bs a t m q. job_of_kept caps bs a t m (rw c.first at c) (rw c.first at q)))

module _ (s : List ℕ) where
  -- The three ways of a reading, in the order of the table: 1, then 2 over the whole text, then the words.
  pub reading_ways : (P : Part Job → Type 0) → (text_limit < length s → P (bad text_too_long 0)) → ((i : ℕ) → length s ≤ text_limit → first_not_allowed s ≡ Some i → P (bad byte_not_allowed i))
      → (length s ≤ text_limit → first_not_allowed s ≡ None → P (job s)) → P (reading s)
  unfolding reading
  reading_ways P a b c =
      cond_all (λ (g : ℕ → Part Job). P (g 0)) (ltb text_limit (length s))
      (λ t. a (ltb-true _ _ t))
      (λ t. go (first_not_allowed s) refl (ltb-false _ _ t))
    where
      go : (p : Option ℕ) → first_not_allowed s ≡ p → length s ≤ text_limit → P (allowed_by s p 0)
      go None e l = c l e
      go (Some i) e l = b i l e
