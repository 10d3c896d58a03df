use mathlib.Core.Path.{◌≡◌, refl, sym, ap, ◌∙◌}
use Prim.Native.Nat.{ℕ, ◌+◌, ◌-◌, ◌*◌, ◌<◌}
use native.Mathlib.Omega.{arith}
use Rattle.meaning.specs.Numbers.{case_limit, row_limit}
use Rattle.meaning.specs.Text.{range, repeat, ifok, select, empty}
use Rattle.text_reader.specs.Reading.{bad, body_from}
use Rattle.text_reader.specs.Answers.{due_told, told_as, count_told, counted, count_from, self}
use Rattle.text_reader.specs.Laws.Answered as is
use Rattle.text_reader.specs.Laws.Parts.{done_told, nothing_told, refused_told, bind_done, bind_stop, same_got, bind_got}
use Rattle.text_reader.specs.Laws.Heads.{head_told, head_row, head_stmt}
use Rattle.text_reader.specs.Laws.Selects.{behind_cases}
use Rattle.text_reader.specs.Laws.Bodies.{second_else, second_end, last_default, last_none, stmt_grows, body_grows, body_step, body_end, body_refused, count_step, count_end, count_refused, case_grows, cases_grow, cases_told, cases_refused, case_none, case_refused, case_got, case_parts, case_begun}
use Rattle.translate_notes.specs.Notes.{notes_s}
use Rattle.translate_rows.specs.Laws.Laps.{bind_told, closed_got, lap, no_lap, case_lap, no_case_lem, if_else, if_end, chosen, head_as}
use Rattle.translate_rows.specs.Laws.Laps as laps
use Rattle.translate_rows.specs.Laws.Noted.{stop_by, stopped_body, stopped_block, stopped_ifok, stopped_select, stopped_case, stopped_last, stopped_stmt, lap_noted, body_noted, lines_noted, lines_end, select_noted, block_as, last_as, case_as, if_noted, second_none, operate_noted, close_noted, stop_noted, range_noted, repeat_noted, row_ahead, refused_some, done_some, cases_cut, last_over}
use Rattle.translate_rows.proofs.Stops.{exit, part_as}
use Rattle.translate_rows.proofs.reading.+reading.Goals as goal

-- A BLOCK

pub read_block-read_body-requires : goal.read_block-read_body-requires
read_block-read_body-requires t c = (omega arith, tt)

pub read_block-returns-in_err-body : goal.read_block-returns-in_err-body
read_block-returns-in_err-body t c =
    let read-body = c.read_body in
    let y = is.told_bad c.in_err-body.was in
    let s = stop_by y tt in
    let z = is.told_bad (exit c.from_residual.result c.from_residual.ensures.1) ∙ sym y in
    (λ k f h. z ∙ bind_stop _ _ s (read-body.ensures.0 k h), stopped_block _ _ _ _ _ _ _ s _ _ _ read-body.ensures.0)

pub read_block-overflow_sub-size : goal.read_block-overflow_sub-size
read_block-overflow_sub-size t c =
    let args = c.args in
    let pre = c.requires in
    let g = body_grows args.text.now args.channels args.depth args.from.at args.from.rows (is.told_got c.in_ok-body.was) c.read_body.ensures.0 in omega (arith, pre)

pub read_block-returns : goal.read_block-returns
read_block-returns t c =
    let read-body = c.read_body in
    let d = is.told_got c.in_ok-body.was in
    (λ k f h. bind_done _ _ _ d (read-body.ensures.0 k h) (λ b. c.read_end.ensures (f b)), λ k b a r h e. block_as k _ _ _ _ _ _ _ _ _ d (read-body.ensures.0 k h) e (read-body.ensures.1 k b a r h e) c.note.ensures)

-- A BODY

pub read_body-loop-next-init : goal.read_body-loop-next-init
read_body-loop-next-init t c = (omega arith, λ k h. (k, h, refl), λ k b a r h e. (k, b, h, e, refl))

pub read_body-read_stmt-requires : goal.read_body-read_stmt-requires
read_body-read_stmt-requires t c = (omega arith, tt)

pub read_body-loop-next-smaller : goal.read_body-loop-next-smaller
read_body-loop-next-smaller t c =
    let loop = c.loop-next.behind in
    let g = stmt_grows _ _ _ loop.at loop.rows (is.as_some c.in_ok-next.was c.in-Some.is) c.read_stmt.ensures.0 in omega arith

pub read_body-loop-next-preserved : goal.read_body-loop-next-preserved
read_body-loop-next-preserved t c =
    let loop = c.loop-next.behind in
    let read-stmt = c.read_stmt in
    let d = is.as_some c.in_ok-next.was c.in-Some.is in
    let g = stmt_grows _ _ _ loop.at loop.rows d read-stmt.ensures.0 in (
      omega arith,
      λ k h.
          let z = c.loop-next.invariant.1 k h in
          let y = body_step _ _ _ loop.at loop.rows z.0 z.1 read-stmt.ensures.0 d in
          (y.0, y.1, y.2 ∙ z.2),
      λ k b a q h e.
          let z = c.loop-next.invariant.2 k b a q h e in
          let w = lap _ _ _ loop.at loop.rows d read-stmt.ensures.0 z.0 z.2 z.3 in
          (w.steps, w.rest, w.enough', w.rest_is, lap_noted w _ (read-stmt.ensures.1 w.steps w.one _ _ w.enough w.is) ∙ z.4),
    )

pub read_body-returns-in_err-next : goal.read_body-returns-in_err-next
read_body-returns-in_err-next t c =
    let loop = c.loop-next.behind in
    rw (is.told_bad (exit c.from_residual.result c.from_residual.ensures.1))
    (stopped_body _ _ _ _ _ _ _ tt (λ k h. let z = c.loop-next.invariant.1 k h in body_refused _ _ _ loop.at loop.rows z.0 z.1 c.read_stmt.ensures.0 (is.as_bad c.in_err-next.was) ∙ z.2))

pub read_body-returns : goal.read_body-returns
unfolding due_told
read_body-returns t c =
    let loop = c.loop-next.behind in
    let read-stmt = c.read_stmt in
    let d = is.as_none c.in_ok-next.was c.in_default.not-Some in (
      λ k h. let z = c.loop-next.invariant.1 k h in body_end _ _ _ loop.at loop.rows z.0 z.1 read-stmt.ensures.0 d ∙ z.2,
      λ k b a q h e.
          let z = c.loop-next.invariant.2 k b a q h e in
          let y = no_lap _ _ _ loop.at loop.rows (stop_by d tt) read-stmt.ensures.0 z.0 z.2 z.3 in
          read-stmt.ensures.2 d ∙ body_noted _ _ _ y ∙ z.4,
    )

-- A CASE

pub read_case-returns-in_err-case : goal.read_case-returns-in_err-case
read_case-returns-in_err-case t c =
    let args = c.args in
    rw (is.as_bad (exit c.from_residual.result c.from_residual.ensures.1))
    (stopped_case _ _ _ _ _ _ _ tt _ (λ k h. case_refused args.text.now args.channels args.from.at args.from.rows args.left c.read_case_head.ensures (is.case_bad c.in_err-case.was) _) (refused_some _ _ _ _))

pub read_case-returns-in_default : goal.read_case-returns-in_default
unfolding told_as
read_case-returns-in_default t c =
    let args = c.args in
    stopped_case _ _ _ _ _ _ _ tt _ (λ k h. case_none args.text.now args.channels args.from.at args.from.rows args.left c.read_case_head.ensures (is.case_none c.in_ok-case.was c.in_default.not-Some) _) (λ _. refl)

pub read_case-read_body-requires : goal.read_case-read_body-requires
read_case-read_body-requires t c =
    let args = c.args in
    let pre = c.requires in
    let f = case_begun _ _ args.from.at args.from.rows args.left c.read_case_head.ensures (is.case_some c.in_ok-case.was c.in-Some.is) in (omega (arith, f.0, f.1, pre), tt)

pub read_case-returns-in_err-body : goal.read_case-returns-in_err-body
read_case-returns-in_err-body t c =
    let args = c.args in
    let h = is.case_some c.in_ok-case.was c.in-Some.is in
    let f = case_begun _ _ args.from.at args.from.rows args.left c.read_case_head.ensures h in
    rw (is.as_bad (exit c.from_residual-in_err-body.result c.from_residual-in_err-body.ensures.1))
    (stopped_case _ _ _ _ _ _ _ tt _ (λ k l. case_got args.text.now args.channels args.from.at args.from.rows args.left c.read_case_head.ensures h _ (sym (is.told_bad c.in_err-body.was) ∙ c.read_body.ensures.0 k (omega (arith, f.1)))) (refused_some _ _ _ _))

pub read_case-overflow_sub-size : goal.read_case-overflow_sub-size
read_case-overflow_sub-size t c =
    let args = c.args in
    let f = case_begun _ _ args.from.at args.from.rows args.left c.read_case_head.ensures (is.case_some c.in_ok-case.was c.in-Some.is) in
    let g = body_grows args.text.now args.channels args.depth _ _ (is.told_got c.in_ok-body.was) c.read_body.ensures.0 in omega (arith, f.1)

pub read_case-returns : goal.read_case-returns
unfolding told_as
read_case-returns t c =
    let args = c.args in
    let read-body = c.read_body in
    let head = c.read_case_head.ensures in
    let h = is.case_some c.in_ok-case.was c.in-Some.is in
    let d = is.told_got c.in_ok-body.was in
    let f = case_begun _ _ args.from.at args.from.rows args.left head h in (
      λ k l. case_got args.text.now args.channels args.from.at args.from.rows args.left head h _ (sym d ∙ read-body.ensures.0 k (omega (arith, f.1))),
      λ k op b a r l e.
          let w = case_parts args.text.now args.channels args.from.at args.from.rows args.left head h _ e in
          case_as k _ _ _ _ _ _ _ _ _ d (read-body.ensures.0 k (omega (arith, f.1))) w.0 w.1 f.0 f.1 (read-body.ensures.1 k b a r (omega (arith, f.1)) w.0) c.note.ensures c.case_head-head.ensures c.op_arg-arg.ensures,
      done_some _ _ refl,
    )

-- CASES

pub read_cases-loop-case-init : goal.read_cases-loop-case-init
read_cases-loop-case-init t c = (omega arith, omega arith, λ k h. refl, λ k cs a r h e. (cs, e, refl))

pub read_cases-read_case-requires : goal.read_cases-read_case-requires
read_cases-read_case-requires t c = (omega arith, tt)

pub read_cases-loop-case-smaller : goal.read_cases-loop-case-smaller
read_cases-loop-case-smaller t c =
    let loop = c.loop-case in
    let g = case_grows _ _ _ loop.behind.at loop.behind.rows (case_limit - loop.count) (is.as_some c.in_ok-case.was c.in-Some.is) c.read_case.ensures.0 in omega arith

pub read_cases-loop-case-preserved : goal.read_cases-loop-case-preserved
read_cases-loop-case-preserved t c =
    let loop = c.loop-case in
    let at = loop.behind.at in
    let rows = loop.behind.rows in
    let read-case = c.read_case in
    let d = is.as_some c.in_ok-case.was c.in-Some.is in
    let g = case_grows _ _ _ at rows (case_limit - loop.count) d read-case.ensures.0 in (
      omega arith,
      omega arith,
      λ k h. count_step _ _ _ (case_limit - loop.count) at rows loop.count d (read-case.ensures.0 k (omega arith)) (case_limit - (loop.count + 1)) (omega arith) ∙ loop.invariant.2 k h,
      λ k cs a q h e.
          let z = loop.invariant.3 k cs a q h e in
          let w = case_lap k _ _ _ (case_limit - loop.count) at rows (omega arith) d read-case.ensures.0 z.1 in
          let f = w.left_is in
          let p : w.fewer ≡ case_limit - (loop.count + 1) = omega arith in
          (w.rest, rw (← p) w.rest_is, lines_noted w _ (read-case.ensures.1 k w.op w.one _ _ (omega arith) w.is) ∙ z.2),
    )

pub read_cases-returns-in_err-case : goal.read_cases-returns-in_err-case
read_cases-returns-in_err-case t c =
    let args = c.args in
    let loop = c.loop-case in
    let d = is.as_bad c.in_err-case.was in
    let u : (k : ℕ) → row_limit - args.from.rows < k → bad _ _ ≡ counted self 0 (count_from args.text.now args.channels (body_from k args.text.now args.channels args.depth) case_limit args.from.at args.from.rows) = λ k h. count_refused _ _ _ (case_limit - loop.count) loop.behind.at loop.behind.rows loop.count d (c.read_case.ensures.0 k (omega arith)) ∙ loop.invariant.2 k h in
    rw (is.count_bad (exit c.from_residual.result c.from_residual.ensures.1)) (u, λ k cs a q h e. absurd (cases_cut k _ _ _ _ _ (u k h) e))

pub read_cases-returns : goal.read_cases-returns
unfolding count_told
read_cases-returns t c =
    let loop = c.loop-case in
    let at = loop.behind.at in
    let rows = loop.behind.rows in
    let read-case = c.read_case in
    let d = is.as_none c.in_ok-case.was c.in_default.not-Some in (
      λ k h. count_end _ _ _ (case_limit - loop.count) at rows loop.count d (read-case.ensures.0 k (omega arith)) ∙ loop.invariant.2 k h,
      λ k cs a q h e.
          let z = loop.invariant.3 k cs a q h e in
          let y = no_case_lem k _ _ _ (case_limit - loop.count) at rows (omega arith) (stop_by d tt) read-case.ensures.0 z.1 in
          read-case.ensures.2 d ∙ lines_end k _ _ _ at rows y _ _ _ ∙ z.2,
    )

-- IFOK

pub read_ifok-read_body-requires : goal.read_ifok-read_body-requires
read_ifok-read_body-requires t c = (omega (arith, c.requires), tt)

pub read_ifok-returns-in_err-body : goal.read_ifok-returns-in_err-body
read_ifok-returns-in_err-body t c =
    let y = is.told_bad c.in_err-body.was in
    rw (is.told_bad (exit c.from_residual.result c.from_residual.ensures.1))
    (stopped_ifok _ _ _ _ _ c.args.notes.now _ tt (λ k h. sym y ∙ bind_stop _ _ (stop_by y tt) (c.read_body.ensures.0 k h)))

pub read_ifok-read_second-requires : goal.read_ifok-read_second-requires
read_ifok-read_second-requires t c =
    let args = c.args in
    let pre = c.requires in
    let g = body_grows args.text.now args.channels args.depth args.from.at args.from.rows (is.told_got c.in_ok-body.was) c.read_body.ensures.0 in (omega (arith, pre.0, pre.1), (omega (arith, pre.1), omega (arith, pre.1)))

pub read_ifok-returns : goal.read_ifok-returns
read_ifok-returns t c =
    let args = c.args in
    let read-body = c.read_body in
    let pre = c.requires in
    let u = is.told_got c.in_ok-body.was in
    let g = body_grows args.text.now args.channels args.depth args.from.at args.from.rows u read-body.ensures.0 in (
      λ k h. bind_done _ _ _ u (read-body.ensures.0 k h) (λ b. c.read_second.ensures.0 k b (omega arith)),
      λ k d x a r q h e.
          let w = bind_told _ _ u (read-body.ensures.0 k h) e in
          let y = c.read_second.ensures.1 k w.0 x a r (omega arith) w.2 in
          if_noted k _ _ _ _ _ d y.0 x _ u (read-body.ensures.0 k h) w.1 q (omega (arith, pre.1)) (omega (arith, pre.1)) y.1 (read-body.ensures.1 k w.0 _ _ h w.1) y.2,
    )

-- WHAT STANDS BEHIND CASES

pub read_last-read_body-requires : goal.read_last-read_body-requires
read_last-read_body-requires t c =
    let pre = c.requires in
    (omega (arith, pre), tt)

pub read_last-returns-in_err-body : goal.read_last-returns-in_err-body
read_last-returns-in_err-body t c =
    rw (is.told_bad (exit c.from_residual.result c.from_residual.ensures.1))
    (stopped_last _ _ _ _ _ _ _ tt _ _ (λ k h. last_default _ _ _ _ _ c.word_at-w.ensures c.if-w-eq-DEFAULT.true (sym (is.told_bad c.in_err-body.was) ∙ c.read_body.ensures.0 k h)))

pub read_last-overflow_sub-arg : goal.read_last-overflow_sub-arg
read_last-overflow_sub-arg t c =
    let args = c.args in
    let pre = c.requires in
    let g = body_grows args.text.now args.channels args.depth _ args.from.rows (is.told_got c.in_ok-body.was) c.read_body.ensures.0 in omega (arith, pre)

pub read_last-overflow_add-arg : goal.read_last-overflow_add-arg
read_last-overflow_add-arg t c =
    let args = c.args in
    let pre = c.requires in
    let g = body_grows args.text.now args.channels args.depth _ args.from.rows (is.told_got c.in_ok-body.was) c.read_body.ensures.0 in omega (arith, pre)

pub read_last-overflow_sub-size : goal.read_last-overflow_sub-size
read_last-overflow_sub-size t c =
    let args = c.args in
    let pre = c.requires in
    let g = body_grows args.text.now args.channels args.depth _ args.from.rows (is.told_got c.in_ok-body.was) c.read_body.ensures.0 in omega (arith, pre)

pub read_last-returns-then-w-eq-DEFAULT : goal.read_last-returns-then-w-eq-DEFAULT
unfolding due_told
read_last-returns-then-w-eq-DEFAULT t c =
    let word_at = c.word_at-w in
    let if1 = c.if-w-eq-DEFAULT in
    let read-body = c.read_body in
    let d = is.told_got c.in_ok-body.was in (
      λ k h. last_default _ _ _ _ _ word_at.ensures if1.true (sym d ∙ read-body.ensures.0 k h),
      λ k cs a r h e.
          let w = laps.last_default _ _ _ _ _ word_at.ensures if1.true e in
          last_as k _ _ _ _ _ _ _ _ _ d (read-body.ensures.0 k h) w.1 w.2 (read-body.ensures.1 k w.0 a r h w.1) c.head_of-head.ensures c.note.ensures,
    )

pub read_last-overflow_sub-size-2 : goal.read_last-overflow_sub-size-2
read_last-overflow_sub-size-2 t c =
    let pre = c.requires in
    omega (arith, pre)

pub read_last-returns : goal.read_last-returns
unfolding due_told
read_last-returns t c =
    let word_at = c.word_at-w in
    let if1 = c.if-w-eq-DEFAULT in
    (λ k h. last_none _ _ _ _ _ word_at.ensures if1.false, λ k cs a r h e. last_over _ _ _ _ _ _ _ _ _ word_at.ensures if1.false e c.head_of-head.ensures c.note-2.ensures)

-- BEHIND A FIRST BODY

pub read_second-overflow_sub-size : goal.read_second-overflow_sub-size
read_second-overflow_sub-size t c = omega (arith, c.requires)

pub read_second-overflow_sub-arg : goal.read_second-overflow_sub-arg
read_second-overflow_sub-arg t c = omega (arith, c.requires)

pub read_second-read_block-requires : goal.read_second-read_block-requires
read_second-read_block-requires t c =
    let pre = c.requires in
    (omega (arith, pre), (omega (arith, pre), omega (arith, pre)))

pub read_second-returns-then-w-eq-ELSE : goal.read_second-returns-then-w-eq-ELSE
read_second-returns-then-w-eq-ELSE t c =
    let word_at = c.word_at-w in
    let if1 = c.if-w-eq-ELSE in (
      λ k b h. second_else _ _ _ _ _ word_at.ensures b if1.true (c.read_block.ensures.0 k (ifok b) h),
      λ k b x a r h e. let w = if_else _ _ _ b _ _ word_at.ensures if1.true e in (w.0, w.4, c.read_block.ensures.1 k w.0 w.1 w.2 h w.3),
    )

pub read_second-returns : goal.read_second-returns
read_second-returns t c =
    let word_at = c.word_at-w in
    let if1 = c.if-w-eq-ELSE in (
      λ k b h. second_end _ _ _ _ _ word_at.ensures b if1.false (c.read_end.ensures (ifok b empty)),
      λ k b x a r h e. (empty, if_end _ _ _ b _ _ word_at.ensures if1.false e, second_none _ _ _ _ _ c.note.ensures),
    )

-- SELECT

pub read_select-read_cases-requires : goal.read_select-read_cases-requires
read_select-read_cases-requires t c = (omega (arith, c.requires), tt)

pub read_select-returns-in_err-cases : goal.read_select-returns-in_err-cases
read_select-returns-in_err-cases t c =
    let args = c.args in
    rw (is.told_bad (exit c.from_residual.result c.from_residual.ensures.1))
    (stopped_select _ _ _ _ _ args.notes.now _ tt (λ k h. bind_stop _ _ tt (cases_refused _ _ _ _ _ k (c.read_cases.ensures.0 k h) (is.count_bad c.in_err-cases.was))))

pub read_select-read_last-requires : goal.read_select-read_last-requires
read_select-read_last-requires t c =
    let args = c.args in
    let pre = c.requires in
    let g = cases_grow args.text.now args.channels args.depth args.from.at args.from.rows (is.count_got c.in_ok-cases.was) c.read_cases.ensures.0 in (omega (arith, pre.0, pre.1), (omega (arith, pre.1), omega (arith, pre.1)))

pub read_select-returns-in_err-last : goal.read_select-returns-in_err-last
read_select-returns-in_err-last t c =
    let args = c.args in
    let d = is.count_got c.in_ok-cases.was in
    let y = is.told_bad c.in_err-last.was in
    let g = cases_grow args.text.now args.channels args.depth args.from.at args.from.rows d c.read_cases.ensures.0 in
    rw (is.told_bad (exit c.from_residual-in_err-last.result c.from_residual-in_err-last.ensures.1))
    (stopped_select _ _ _ _ _ args.notes.now _ tt (λ k h. sym y ∙ bind_stop _ _ (stop_by y tt) (cases_told _ _ _ _ _ k (c.read_cases.ensures.0 k h) d (c.read_last.ensures.0 k (omega arith)))))

pub read_select-returns : goal.read_select-returns
read_select-returns t c =
    let args = c.args in
    let read-cases = c.read_cases in
    let read-last = c.read_last in
    let pre = c.requires in
    let u = is.count_got c.in_ok-cases.was in
    let v = is.told_got c.in_ok-last.was in
    let g = cases_grow args.text.now args.channels args.depth args.from.at args.from.rows u read-cases.ensures.0 in (
      λ k h. bind_done _ _ _ v (cases_told _ _ _ _ _ k (read-cases.ensures.0 k h) u (read-last.ensures.0 k (omega arith))) (λ cs. c.read_end.ensures (select cs)),
      λ k d x a r q h e.
          let w = chosen k _ _ _ _ _ h u read-cases.ensures.0 e in
          let y = read-last.ensures.1 k (behind_cases w.cases) w.end w.total (omega arith) w.last_is in
          select_noted d _ _ w _ q (omega (arith, pre.1)) (omega (arith, pre.1)) h (read-cases.ensures.1 k w.cases _ _ h w.is) y,
    )

-- A STATEMENT

pub read_stmt-returns-in_err-first : goal.read_stmt-returns-in_err-first
read_stmt-returns-in_err-first t c =
    rw (is.as_bad (exit c.from_residual.result c.from_residual.ensures.1))
    (stopped_stmt _ _ _ _ _ _ _ tt (λ k h. refused_told _ _ _ ∙ head_stmt _ _ _ _ _ (is.part_bad 0 c.in_err-first.was) c.read_head.ensures _) (refused_some _ _ _ _))

pub read_stmt-returns-in_default : goal.read_stmt-returns-in_default
unfolding told_as
read_stmt-returns-in_default t c =
    stopped_stmt _ _ _ _ _ _ _ tt (λ k h. nothing_told _ ∙ head_stmt _ _ _ _ _ (is.part_none 0 c.in_ok-first.was c.in_default.not-Some) c.read_head.ensures _) (λ _. refl)

pub read_stmt-overflow_add-inside : goal.read_stmt-overflow_add-inside
read_stmt-overflow_add-inside t c =
    let args = c.args in
    let f = head_row args.text.now args.channels args.depth args.from.at args.from.rows _ _ _ (head_told args.text.now args.channels args.depth args.from.at args.from.rows (is.part_some 0 c.in_ok-first.was c.in-Some.is) c.read_head.ensures) in omega arith

pub read_stmt-returns-in-Operate : goal.read_stmt-returns-in-Operate
unfolding told_as
read_stmt-returns-in-Operate t c =
    let args = c.args in
    let i = part_as c.in_ok-first.was c.in-Some.is c.in-Operate.is in
    let f = head_told args.text.now args.channels args.depth args.from.at args.from.rows i c.read_head.ensures in (
      λ k h. done_told _ _ _ ∙ head_stmt _ _ _ _ _ i c.read_head.ensures _,
      λ k x a r h e. operate_noted args.depth args.from.rows args.notes.now (omega arith) _ (same_got (head_as args.text.now args.channels args.depth args.from.at args.from.rows i c.read_head.ensures (body_from k args.text.now args.channels (args.depth + 1)) e)).0 c.note_one.ensures c.op_head.ensures c.op_arg.ensures,
      done_some _ _ refl,
    )

pub read_stmt-returns-in-Close : goal.read_stmt-returns-in-Close
unfolding told_as
read_stmt-returns-in-Close t c =
    let args = c.args in
    let i = part_as c.in_ok-first.was c.in-Some.is c.in-Close.is in
    let f = head_told args.text.now args.channels args.depth args.from.at args.from.rows i c.read_head.ensures in (
      λ k h. done_told _ _ _ ∙ head_stmt _ _ _ _ _ i c.read_head.ensures _,
      λ k x a r h e. close_noted args.depth args.from.rows args.notes.now (omega arith) _ (same_got (head_as args.text.now args.channels args.depth args.from.at args.from.rows i c.read_head.ensures (body_from k args.text.now args.channels (args.depth + 1)) e)).0 c.note_one-in-Close.ensures (c.head_of-head.ensures ∙ ap (λ (n : ℕ). 4 + 256 * n) c.from.ensures),
      done_some _ _ refl,
    )

pub read_stmt-returns-in-Stop : goal.read_stmt-returns-in-Stop
unfolding told_as
read_stmt-returns-in-Stop t c =
    let args = c.args in
    let i = part_as c.in_ok-first.was c.in-Some.is c.in-Stop.is in
    let f = head_told args.text.now args.channels args.depth args.from.at args.from.rows i c.read_head.ensures in (
      λ k h. done_told _ _ _ ∙ head_stmt _ _ _ _ _ i c.read_head.ensures _,
      λ k x a r h e. stop_noted args.depth args.from.rows args.notes.now (omega arith) (same_got (head_as args.text.now args.channels args.depth args.from.at args.from.rows i c.read_head.ensures (body_from k args.text.now args.channels (args.depth + 1)) e)).0 c.note_one-in-Stop.ensures,
      done_some _ _ refl,
    )

pub read_stmt-overflow_add-depth : goal.read_stmt-overflow_add-depth
read_stmt-overflow_add-depth t c =
    let args = c.args in
    let i = part_as c.in_ok-first.was c.in-Some.is c.in-Range.is in
    let f = head_told args.text.now args.channels args.depth args.from.at args.from.rows i c.read_head.ensures in omega arith

pub read_stmt-read_block-requires : goal.read_stmt-read_block-requires
read_stmt-read_block-requires t c =
    let args = c.args in
    let i = part_as c.in_ok-first.was c.in-Some.is c.in-Range.is in
    let f = head_told args.text.now args.channels args.depth args.from.at args.from.rows i c.read_head.ensures in (omega arith, (omega arith, omega arith))

pub read_stmt-overflow_add-depth-in-Repeat : goal.read_stmt-overflow_add-depth-in-Repeat
read_stmt-overflow_add-depth-in-Repeat t c =
    let args = c.args in
    let i = part_as c.in_ok-first.was c.in-Some.is c.in-Repeat.is in
    let f = head_told args.text.now args.channels args.depth args.from.at args.from.rows i c.read_head.ensures in omega arith

pub read_stmt-read_block-requires-in-Repeat : goal.read_stmt-read_block-requires-in-Repeat
read_stmt-read_block-requires-in-Repeat t c =
    let args = c.args in
    let i = part_as c.in_ok-first.was c.in-Some.is c.in-Repeat.is in
    let f = head_told args.text.now args.channels args.depth args.from.at args.from.rows i c.read_head.ensures in (omega arith, (omega arith, omega arith))

pub read_stmt-returns-in_err-end-in-Repeat : goal.read_stmt-returns-in_err-end-in-Repeat
read_stmt-returns-in_err-end-in-Repeat t c =
    let args = c.args in
    let i = part_as c.in_ok-first.was c.in-Some.is c.in-Repeat.is in
    let f = head_told args.text.now args.channels args.depth args.from.at args.from.rows i c.read_head.ensures in
    rw (is.as_bad (exit c.from_residual-in_err-end-in-Repeat.result c.from_residual-in_err-end-in-Repeat.ensures.1))
    (stopped_stmt _ _ _ _ _ _ _ tt (λ k h. sym (is.told_bad c.in_err-end-in-Repeat.was) ∙ c.read_block-in-Repeat.ensures.0 k (repeat _) (omega arith) ∙ head_stmt _ _ _ _ _ i c.read_head.ensures _) (refused_some _ _ _ _))

pub read_stmt-overflow_add-depth-in-Ifok : goal.read_stmt-overflow_add-depth-in-Ifok
read_stmt-overflow_add-depth-in-Ifok t c =
    let args = c.args in
    let i = part_as c.in_ok-first.was c.in-Some.is c.in-Ifok.is in
    let f = head_told args.text.now args.channels args.depth args.from.at args.from.rows i c.read_head.ensures in omega arith

pub read_stmt-read_ifok-requires : goal.read_stmt-read_ifok-requires
read_stmt-read_ifok-requires t c =
    let args = c.args in
    let i = part_as c.in_ok-first.was c.in-Some.is c.in-Ifok.is in
    let f = head_told args.text.now args.channels args.depth args.from.at args.from.rows i c.read_head.ensures in (omega arith, (omega arith, omega arith))

pub read_stmt-overflow_add-depth-in-Select : goal.read_stmt-overflow_add-depth-in-Select
read_stmt-overflow_add-depth-in-Select t c =
    let args = c.args in
    let i = part_as c.in_ok-first.was c.in-Some.is c.in-Select.is in
    let f = head_told args.text.now args.channels args.depth args.from.at args.from.rows i c.read_head.ensures in omega arith

pub read_stmt-read_select-requires : goal.read_stmt-read_select-requires
read_stmt-read_select-requires t c =
    let args = c.args in
    let i = part_as c.in_ok-first.was c.in-Some.is c.in-Select.is in
    let f = head_told args.text.now args.channels args.depth args.from.at args.from.rows i c.read_head.ensures in (omega arith, (omega arith, omega arith))

pub read_stmt-returns-in_err-end-in-Range : goal.read_stmt-returns-in_err-end-in-Range
read_stmt-returns-in_err-end-in-Range t c =
    let args = c.args in
    let i = part_as c.in_ok-first.was c.in-Some.is c.in-Range.is in
    let f = head_told args.text.now args.channels args.depth args.from.at args.from.rows i c.read_head.ensures in
    rw (is.as_bad (exit c.from_residual-in_err-end-in-Range.result c.from_residual-in_err-end-in-Range.ensures.1))
    (stopped_stmt _ _ _ _ _ _ _ tt (λ k h. sym (is.told_bad c.in_err-end-in-Range.was) ∙ c.read_block.ensures.0 k (range _) (omega arith) ∙ head_stmt _ _ _ _ _ i c.read_head.ensures _) (refused_some _ _ _ _))

pub read_stmt-returns-in_ok-end-in-Range : goal.read_stmt-returns-in_ok-end-in-Range
unfolding told_as
read_stmt-returns-in_ok-end-in-Range t c =
    let args = c.args in
    let i = part_as c.in_ok-first.was c.in-Some.is c.in-Range.is in
    let f = head_told args.text.now args.channels args.depth args.from.at args.from.rows i c.read_head.ensures in (
      λ k h. sym (is.told_got c.in_ok-end-in-Range.was) ∙ c.read_block.ensures.0 k (range _) (omega arith) ∙ head_stmt _ _ _ _ _ i c.read_head.ensures _,
      λ k x a r h e.
          let g = bind_got _ _ (head_as args.text.now args.channels args.depth args.from.at args.from.rows i c.read_head.ensures (body_from k args.text.now args.channels (args.depth + 1)) e) in
          range_noted args.depth args.from.rows args.notes.now (omega arith) _ g.0 (closed_got _ _ _ _ g.4) (c.read_block.ensures.1 k g.0 g.1 g.2 (omega arith) g.3) (c.head_of-head-in-Range.ensures ∙ ap (λ (n : ℕ). 5 + 256 * n) c.from-in-Range.ensures),
      done_some _ _ refl,
    )

pub read_stmt-returns-in_ok-end-in-Repeat : goal.read_stmt-returns-in_ok-end-in-Repeat
unfolding told_as
read_stmt-returns-in_ok-end-in-Repeat t c =
    let args = c.args in
    let i = part_as c.in_ok-first.was c.in-Some.is c.in-Repeat.is in
    let f = head_told args.text.now args.channels args.depth args.from.at args.from.rows i c.read_head.ensures in (
      λ k h. sym (is.told_got c.in_ok-end-in-Repeat.was) ∙ c.read_block-in-Repeat.ensures.0 k (repeat _) (omega arith) ∙ head_stmt _ _ _ _ _ i c.read_head.ensures _,
      λ k x a r h e.
          let g = bind_got _ _ (head_as args.text.now args.channels args.depth args.from.at args.from.rows i c.read_head.ensures (body_from k args.text.now args.channels (args.depth + 1)) e) in
          repeat_noted args.depth args.from.rows args.notes.now (omega arith) _ g.0 (closed_got _ _ _ _ g.4) (c.read_block-in-Repeat.ensures.1 k g.0 g.1 g.2 (omega arith) g.3) c.head_of-head-in-Repeat.ensures,
      done_some _ _ refl,
    )

pub read_stmt-returns-in_err-read_ifok-in-Ifok : goal.read_stmt-returns-in_err-read_ifok-in-Ifok
read_stmt-returns-in_err-read_ifok-in-Ifok t c =
    let args = c.args in
    let i = part_as c.in_ok-first.was c.in-Some.is c.in-Ifok.is in
    let f = head_told args.text.now args.channels args.depth args.from.at args.from.rows i c.read_head.ensures in
    rw (is.as_bad (exit c.from_residual-in_err-read_ifok-in-Ifok.result c.from_residual-in_err-read_ifok-in-Ifok.ensures.1))
    (stopped_stmt _ _ _ _ _ _ _ tt (λ k h. sym (is.told_bad c.in_err-read_ifok-in-Ifok.was) ∙ c.read_ifok.ensures.0 k (omega arith) ∙ head_stmt _ _ _ _ _ i c.read_head.ensures _) (refused_some _ _ _ _))

pub read_stmt-returns-in_ok-read_ifok-in-Ifok : goal.read_stmt-returns-in_ok-read_ifok-in-Ifok
unfolding told_as
read_stmt-returns-in_ok-read_ifok-in-Ifok t c =
    let args = c.args in
    let i = part_as c.in_ok-first.was c.in-Some.is c.in-Ifok.is in
    let f = head_told args.text.now args.channels args.depth args.from.at args.from.rows i c.read_head.ensures in (
      λ k h. sym (is.told_got c.in_ok-read_ifok-in-Ifok.was) ∙ c.read_ifok.ensures.0 k (omega arith) ∙ head_stmt _ _ _ _ _ i c.read_head.ensures _,
      λ k x a r h e. row_ahead args.from.rows args.notes.now (notes_s x args.depth) (c.read_ifok.ensures.1 k args.depth x a r (omega arith) (omega arith) (head_as args.text.now args.channels args.depth args.from.at args.from.rows i c.read_head.ensures (body_from k args.text.now args.channels (args.depth + 1)) e)),
      done_some _ _ refl,
    )

pub read_stmt-returns-in_err-read_select-in-Select : goal.read_stmt-returns-in_err-read_select-in-Select
read_stmt-returns-in_err-read_select-in-Select t c =
    let args = c.args in
    let i = part_as c.in_ok-first.was c.in-Some.is c.in-Select.is in
    let f = head_told args.text.now args.channels args.depth args.from.at args.from.rows i c.read_head.ensures in
    rw (is.as_bad (exit c.from_residual-in_err-read_select-in-Select.result c.from_residual-in_err-read_select-in-Select.ensures.1))
    (stopped_stmt _ _ _ _ _ _ _ tt (λ k h. sym (is.told_bad c.in_err-read_select-in-Select.was) ∙ c.read_select.ensures.0 k (omega arith) ∙ head_stmt _ _ _ _ _ i c.read_head.ensures _) (refused_some _ _ _ _))

pub read_stmt-returns-in_ok-read_select-in-Select : goal.read_stmt-returns-in_ok-read_select-in-Select
unfolding told_as
read_stmt-returns-in_ok-read_select-in-Select t c =
    let args = c.args in
    let i = part_as c.in_ok-first.was c.in-Some.is c.in-Select.is in
    let f = head_told args.text.now args.channels args.depth args.from.at args.from.rows i c.read_head.ensures in (
      λ k h. sym (is.told_got c.in_ok-read_select-in-Select.was) ∙ c.read_select.ensures.0 k (omega arith) ∙ head_stmt _ _ _ _ _ i c.read_head.ensures _,
      λ k x a r h e. row_ahead args.from.rows args.notes.now (notes_s x args.depth) (c.read_select.ensures.1 k args.depth x a r (omega arith) (omega arith) (head_as args.text.now args.channels args.depth args.from.at args.from.rows i c.read_head.ensures (body_from k args.text.now args.channels (args.depth + 1)) e)),
      done_some _ _ refl,
    )
