use mathlib.Core.Path.{refl, ◌∙◌}
use Prim.Native.Nat.{suc}
use native.Mathlib.Omega.{arith}
use Rattle.translate_rows.specs.Laws.Laying.{case_lap, bodies_next, bodies_room, last_of, last_stored, body_lap, body_next, body_done, body_room}
use Rattle.translate_rows.specs.Laws.Laying.{alone_stored, loop_held, loop_stored, if_held, if_stored, select_held, select_stored}
use Rattle.translate_rows.specs.Laws.Laying.{stmt_room, if_room, select_room}
use Rattle.translate_rows.proofs.laying.+laying.Goals as goal

pub lay_bodies-loop-left-init : goal.lay_bodies-loop-left-init
lay_bodies-loop-left-init t c = (omega arith, refl, c.requires, λ cs d h e. (cs, h, e, refl))

pub lay_bodies-overflow_mul-size : goal.lay_bodies-overflow_mul-size
lay_bodies-overflow_mul-size t c = omega (arith, bodies_room _ _ _ _ _ c.loop-left.invariant.2 c.loop-left-test.true)

pub lay_bodies-overflow_add-size : goal.lay_bodies-overflow_add-size
lay_bodies-overflow_add-size t c = omega (arith, bodies_room _ _ _ _ _ c.loop-left.invariant.2 c.loop-left-test.true)

pub lay_bodies-offset_bounds-notes-r : goal.lay_bodies-offset_bounds-notes-r
lay_bodies-offset_bounds-notes-r t c = omega (arith, bodies_room _ _ _ _ _ c.loop-left.invariant.2 c.loop-left-test.true)

pub lay_bodies-bounds-notes-r : goal.lay_bodies-bounds-notes-r
lay_bodies-bounds-notes-r t c = omega (arith, bodies_room _ _ _ _ _ c.loop-left.invariant.2 c.loop-left-test.true)

pub lay_bodies-overflow_add-r : goal.lay_bodies-overflow_add-r
lay_bodies-overflow_add-r t c = omega (arith, bodies_room _ _ _ _ _ c.loop-left.invariant.2 c.loop-left-test.true)

pub lay_bodies-overflow_add-r-in-loop-left : goal.lay_bodies-overflow_add-r-in-loop-left
lay_bodies-overflow_add-r-in-loop-left t c = omega (arith, bodies_room _ _ _ _ _ c.loop-left.invariant.2 c.loop-left-test.true)

pub lay_bodies-lay_body-requires : goal.lay_bodies-lay_body-requires
lay_bodies-lay_body-requires t c =
    let l = c.loop-left in
    let t = c.loop-left-test.true in
    let y = l.invariant.2 in
    let w = case_lap _ y.0 y.1 l.r l.left y.2 t in
    let n = w.n_is in
    let s = w.size in
    let f = w.counts in (omega (arith, c), (w.one, y.1, (w.body_is, omega arith), omega arith, omega arith))

pub lay_bodies-overflow_add-r-in-loop-left-2 : goal.lay_bodies-overflow_add-r-in-loop-left-2
lay_bodies-overflow_add-r-in-loop-left-2 t c =
    omega (arith, bodies_room _ _ _ _ _ c.loop-left.invariant.2 c.loop-left-test.true)

pub lay_bodies-overflow_sub-i : goal.lay_bodies-overflow_sub-i
lay_bodies-overflow_sub-i t c =
    omega (arith, bodies_room _ _ _ _ _ c.loop-left.invariant.2 c.loop-left-test.true)

pub lay_bodies-overflow_add-i : goal.lay_bodies-overflow_add-i
lay_bodies-overflow_add-i t c =
    omega (arith, bodies_room _ _ _ _ _ c.loop-left.invariant.2 c.loop-left-test.true)

pub lay_bodies-loop-left-preserved : goal.lay_bodies-loop-left-preserved
lay_bodies-loop-left-preserved t c =
    let l = c.loop-left in
    let t = c.loop-left-test.true in
    let y = l.invariant.2 in
    let w = case_lap _ y.0 y.1 l.r l.left y.2 t in
    let n = w.n_is in
    let s = w.size in
    let f = w.counts in (
      omega arith,
      c.lay_body.auto.out ∙ l.invariant.1,
      (w.rest, y.1, (w.rest_is, omega (arith, w.count)), omega arith, omega arith, omega arith),
      λ cs d h e.
          let z = l.invariant.3 cs d h e in
          let v = case_lap _ z.0 d l.r l.left z.1 t in
          let k = v.n_is in
          let o = v.size in
          let g = v.counts in
          let x = z.2 in
          let b = c.lay_body.ensures v.one d (v.body_is, omega arith) in
          (v.rest, (v.rest_is, omega (arith, v.count)), omega arith, bodies_next _ v l.out l.i _ b z.3),
    )

pub lay_bodies-lay_body-requires-2 : goal.lay_bodies-lay_body-requires-2
lay_bodies-lay_body-requires-2 t c =
    let l = c.loop-left in
    let y = l.invariant.2 in
    let w = last_of _ y.0 y.1 l.r l.left _ y.2 y.3 c.loop-left-test.false in
    let s = w.size in
    (omega (arith, c), (w.body, y.1, w.held, omega arith, omega arith))

pub lay_bodies-returns : goal.lay_bodies-returns
lay_bodies-returns t c =
    λ cs d h e.
    let l = c.loop-left in
    let z = l.invariant.3 cs d h e in
    let w = last_of _ z.0 d l.r l.left _ z.1 z.2 c.loop-left-test.false in
    last_stored _ w _ _ _ (c.lay_body-2.ensures w.body d w.held) z.3

pub lay_body-loop-r-init : goal.lay_body-loop-r-init
lay_body-loop-r-init t c = (omega arith, refl, c.requires, λ b d h. (b, h, refl))

pub lay_body-overflow_mul-size : goal.lay_body-overflow_mul-size
lay_body-overflow_mul-size t c = omega (arith, body_room _ _ _ _ c.loop-r.invariant.2 c.loop-r-test.true)

pub lay_body-overflow_add-size : goal.lay_body-overflow_add-size
lay_body-overflow_add-size t c = omega (arith, body_room _ _ _ _ c.loop-r.invariant.2 c.loop-r-test.true)

pub lay_body-offset_bounds-notes-r : goal.lay_body-offset_bounds-notes-r
lay_body-offset_bounds-notes-r t c = omega (arith, body_room _ _ _ _ c.loop-r.invariant.2 c.loop-r-test.true)

pub lay_body-bounds-notes-r : goal.lay_body-bounds-notes-r
lay_body-bounds-notes-r t c = omega (arith, body_room _ _ _ _ c.loop-r.invariant.2 c.loop-r-test.true)

pub lay_body-overflow_add-behind : goal.lay_body-overflow_add-behind
lay_body-overflow_add-behind t c = omega (arith, body_room _ _ _ _ c.loop-r.invariant.2 c.loop-r-test.true)

pub lay_body-overflow_add-next : goal.lay_body-overflow_add-next
lay_body-overflow_add-next t c = omega (arith, body_room _ _ _ _ c.loop-r.invariant.2 c.loop-r-test.true)

pub lay_body-overflow_sub-end : goal.lay_body-overflow_sub-end
lay_body-overflow_sub-end t c = omega (arith, body_room _ _ _ _ c.loop-r.invariant.2 c.loop-r-test.true)

pub lay_body-lay_stmt-requires : goal.lay_body-lay_stmt-requires
lay_body-lay_stmt-requires t c =
    let l = c.loop-r in
    let t = c.loop-r-test.true in
    let y = l.invariant.2 in
    let w = body_lap _ y.0 y.1 l.r _ y.2 t in
    let s = w.size in
    let f = w.some in
    let g = w.rest_is.1 in (omega (arith, c), (w.one, y.1, w.stmt_is, omega arith, omega arith))

pub lay_body-loop-r-smaller : goal.lay_body-loop-r-smaller
lay_body-loop-r-smaller t c =
    omega (arith, body_room _ _ _ _ c.loop-r.invariant.2 c.loop-r-test.true)

pub lay_body-loop-r-preserved : goal.lay_body-loop-r-preserved
lay_body-loop-r-preserved t c =
    let l = c.loop-r in
    let t = c.loop-r-test.true in
    let y = l.invariant.2 in
    let w = body_lap _ y.0 y.1 l.r _ y.2 t in
    let s = w.size in
    let f = w.some in
    let g = w.rest_is.1 in (
      omega arith,
      c.lay_stmt.auto.out ∙ l.invariant.1,
      (w.rest, y.1, w.rest_is, omega arith, omega arith),
      λ b d h.
          let z = l.invariant.3 b d h in
          let v = body_lap _ z.0 d l.r _ z.1 t in
          let one = c.lay_stmt.ensures v.one d v.stmt_is in
          (v.rest, v.rest_is, body_next _ v l.out l.i _ c.following-after.ensures one z.2),
    )

pub lay_body-returns : goal.lay_body-returns
lay_body-returns t c =
    λ b d h.
    let l = c.loop-r in
    let z = l.invariant.3 b d h in
    body_done _ z.0 d l.r _ z.1 c.loop-r-test.false _ _ _ z.2

pub lay_stmt-overflow_mul-at : goal.lay_stmt-overflow_mul-at
lay_stmt-overflow_mul-at t c = omega (arith, stmt_room _ _ _ _ c.requires)

pub lay_stmt-offset_bounds-notes-at : goal.lay_stmt-offset_bounds-notes-at
lay_stmt-offset_bounds-notes-at t c = omega (arith, stmt_room _ _ _ _ c.requires)

pub lay_stmt-bounds-notes-at : goal.lay_stmt-bounds-notes-at
lay_stmt-bounds-notes-at t c = omega (arith, stmt_room _ _ _ _ c.requires)

pub lay_stmt-overflow_add-arg : goal.lay_stmt-overflow_add-arg
lay_stmt-overflow_add-arg t c = omega (arith, stmt_room _ _ _ _ c.requires)

pub lay_stmt-offset_bounds-notes-at-2 : goal.lay_stmt-offset_bounds-notes-at-2
lay_stmt-offset_bounds-notes-at-2 t c = omega (arith, stmt_room _ _ _ _ c.requires)

pub lay_stmt-bounds-notes-at-2 : goal.lay_stmt-bounds-notes-at-2
lay_stmt-bounds-notes-at-2 t c = omega (arith, stmt_room _ _ _ _ c.requires)

pub lay_stmt-returns-then-size-le1 : goal.lay_stmt-returns-then-size-le1
lay_stmt-returns-then-size-le1 t c = λ x d h. alone_stored _ x d _ _ h c.if-size-le1.true _ _ _ c.put_statement.ensures

pub lay_stmt-overflow_add-first : goal.lay_stmt-overflow_add-first
lay_stmt-overflow_add-first t c = omega (arith, stmt_room _ _ _ _ c.requires)

pub lay_stmt-overflow_add-r : goal.lay_stmt-overflow_add-r
lay_stmt-overflow_add-r t c = omega (arith, stmt_room _ _ _ _ c.requires)

pub lay_stmt-overflow_add-r-then-op-lt7 : goal.lay_stmt-overflow_add-r-then-op-lt7
lay_stmt-overflow_add-r-then-op-lt7 t c = omega (arith, stmt_room _ _ _ _ c.requires)

pub lay_stmt-lay_body-requires : goal.lay_stmt-lay_body-requires
lay_stmt-lay_body-requires t c =
    let y = c.requires in
    let w = loop_held _ y.0 y.1 _ _ y.2 c.if-size-le1.false c.if-op-lt7.true in
    let s = w.size in
    (omega (arith, c.requires.0), (w.body, suc y.1, w.held, omega arith, omega arith))

pub lay_stmt-returns-then-op-lt7 : goal.lay_stmt-returns-then-op-lt7
lay_stmt-returns-then-op-lt7 t c =
    λ x d h.
    let w = loop_held _ x d _ _ h c.if-size-le1.false c.if-op-lt7.true in
    let one = c.lay_body.ensures w.body (suc d) w.held in
    loop_stored _ x d _ _ h w _ _ _ c.put_statement.ensures c.leads_to-to.ensures one

pub lay_stmt-overflow_add-mid : goal.lay_stmt-overflow_add-mid
lay_stmt-overflow_add-mid t c = omega (
  arith,
  if_room _ _ _ _
      c.requires c.if-op-eq7.true,
)

pub lay_stmt-overflow_add-mid-then-op-eq7 : goal.lay_stmt-overflow_add-mid-then-op-eq7
lay_stmt-overflow_add-mid-then-op-eq7 t c = omega (
  arith,
  if_room _ _ _ _
      c.requires c.if-op-eq7.true,
)

pub lay_stmt-overflow_add-r-then-op-eq7 : goal.lay_stmt-overflow_add-r-then-op-eq7
lay_stmt-overflow_add-r-then-op-eq7 t c = omega (
  arith,
  if_room _ _ _ _
      c.requires c.if-op-eq7.true,
)

pub lay_stmt-lay_body-requires-then-op-eq7 : goal.lay_stmt-lay_body-requires-then-op-eq7
lay_stmt-lay_body-requires-then-op-eq7 t c =
    let y = c.requires in
    let w = if_held _ y.0 y.1 _ _ y.2 c.if-op-eq7.true in
    let s = w.size in
    let q = w.arg_is in
    (omega (arith, c.requires.0), (w.one, suc y.1, w.first, omega arith, omega arith))

pub lay_stmt-overflow_add-r-then-op-eq7-2 : goal.lay_stmt-overflow_add-r-then-op-eq7-2
lay_stmt-overflow_add-r-then-op-eq7-2 t c =
    omega (
      arith,
      if_room _ _ _ _
          c.requires c.if-op-eq7.true,
    )

pub lay_stmt-overflow_add-first-then-op-eq7 : goal.lay_stmt-overflow_add-first-then-op-eq7
lay_stmt-overflow_add-first-then-op-eq7 t c =
    omega (
      arith,
      if_room _ _ _ _
          c.requires c.if-op-eq7.true,
    )

pub lay_stmt-lay_body-requires-then-op-eq7-2 : goal.lay_stmt-lay_body-requires-then-op-eq7-2
lay_stmt-lay_body-requires-then-op-eq7-2 t c =
    let y = c.requires in
    let w = if_held _ y.0 y.1 _ _ y.2 c.if-op-eq7.true in
    let s = w.size in
    let q = w.arg_is in
    (omega (arith, c.requires.0), (w.two, suc y.1, w.second, omega arith, omega arith))

pub lay_stmt-returns-then-op-eq7 : goal.lay_stmt-returns-then-op-eq7
lay_stmt-returns-then-op-eq7 t c =
    λ x d h.
    let e = c.if-op-eq7.true in
    let w = if_held _ x d _ _ h e in
    let one = c.lay_body-then-op-eq7.ensures w.one (suc d) w.first in
    let two = c.lay_body-then-op-eq7-2.ensures w.two (suc d) w.second in
    if_stored _ x d _ _ h w _ _ _ e c.put_statement.ensures c.leads_to-to.ensures one two

pub lay_stmt-overflow_add-start : goal.lay_stmt-overflow_add-start
lay_stmt-overflow_add-start t c =
    omega (
      arith,
      select_room _ _ _ _
          c.requires c.if-size-le1.false c.if-op-lt7.false c.if-op-eq7.false,
    )

pub lay_stmt-overflow_add-r-2 : goal.lay_stmt-overflow_add-r-2
lay_stmt-overflow_add-r-2 t c =
    omega (
      arith,
      select_room _ _ _ _
          c.requires c.if-size-le1.false c.if-op-lt7.false c.if-op-eq7.false,
    )

pub lay_stmt-lay_cases-requires : goal.lay_stmt-lay_cases-requires
lay_stmt-lay_cases-requires t c =
    let y = c.requires in
    let w = select_held _ y.0 y.1 _ _ y.2 c.if-size-le1.false c.if-op-lt7.false c.if-op-eq7.false in
    let s = w.size in
    let q = w.held.1 in
    (w.cases, suc y.1, w.held, omega arith, omega arith, omega arith)

pub lay_stmt-overflow_add-r-3 : goal.lay_stmt-overflow_add-r-3
lay_stmt-overflow_add-r-3 t c =
    omega (
      arith,
      select_room _ _ _ _
          c.requires c.if-size-le1.false c.if-op-lt7.false c.if-op-eq7.false,
    )

pub lay_stmt-overflow_add-r-4 : goal.lay_stmt-overflow_add-r-4
lay_stmt-overflow_add-r-4 t c =
    omega (
      arith,
      select_room _ _ _ _
          c.requires c.if-size-le1.false c.if-op-lt7.false c.if-op-eq7.false,
    )

pub lay_stmt-lay_bodies-requires : goal.lay_stmt-lay_bodies-requires
lay_stmt-lay_bodies-requires t c =
    let y = c.requires in
    let w = select_held _ y.0 y.1 _ _ y.2 c.if-size-le1.false c.if-op-lt7.false c.if-op-eq7.false in
    let s = w.size in
    let q = w.held.1 in
    (omega (arith, c.requires.0), (w.cases, suc y.1, w.held, omega arith, omega arith, omega arith))

pub lay_stmt-returns : goal.lay_stmt-returns
lay_stmt-returns t c =
    λ x d h.
    let w = select_held _ x d _ _ h c.if-size-le1.false c.if-op-lt7.false c.if-op-eq7.false in
    let z = w.size in
    let one = c.lay_cases.ensures w.cases (suc d) w.held in
    let two = c.lay_bodies.ensures w.cases (suc d) w.held (omega (arith, w.held.1)) in
    select_stored _ x d _ _ h w _ _ _ c.if-op-lt7.false c.put_statement.ensures c.leads_to-to.ensures refl one two
