use mathlib.Core.Path.{refl, ◌∙◌}
use native.Mathlib.Omega.{arith}
use Rattle.translate_rows.specs.Laws.Laying.{case_lap, cases_next, cases_done, cases_room}
use Rattle.translate_rows.proofs.laying.lay_cases.Goals as goal

pub loop-left-init : goal.loop-left-init
loop-left-init c = (refl, c.requires, λ cs d h. (cs, h, refl))

pub overflow_mul-at : goal.overflow_mul-at
overflow_mul-at c = omega (arith, cases_room _ _ _ _ _ c.loop-left.invariant.1 c.loop-left-test.true)

pub offset_bounds-notes-at : goal.offset_bounds-notes-at
offset_bounds-notes-at c = omega (arith, cases_room _ _ _ _ _ c.loop-left.invariant.1 c.loop-left-test.true)

pub bounds-notes-at : goal.bounds-notes-at
bounds-notes-at c = omega (arith, cases_room _ _ _ _ _ c.loop-left.invariant.1 c.loop-left-test.true)

pub overflow_add-arg : goal.overflow_add-arg
overflow_add-arg c = omega (arith, cases_room _ _ _ _ _ c.loop-left.invariant.1 c.loop-left-test.true)

pub offset_bounds-notes-at-in-loop-left : goal.offset_bounds-notes-at-in-loop-left
offset_bounds-notes-at-in-loop-left c = omega (arith, cases_room _ _ _ _ _ c.loop-left.invariant.1 c.loop-left-test.true)

pub bounds-notes-at-in-loop-left : goal.bounds-notes-at-in-loop-left
bounds-notes-at-in-loop-left c = omega (arith, cases_room _ _ _ _ _ c.loop-left.invariant.1 c.loop-left-test.true)

pub overflow_add-size : goal.overflow_add-size
overflow_add-size c = omega (arith, cases_room _ _ _ _ _ c.loop-left.invariant.1 c.loop-left-test.true)

pub offset_bounds-notes-at-in-loop-left-2 : goal.offset_bounds-notes-at-in-loop-left-2
offset_bounds-notes-at-in-loop-left-2 c = omega (arith, cases_room _ _ _ _ _ c.loop-left.invariant.1 c.loop-left-test.true)

pub bounds-notes-at-in-loop-left-2 : goal.bounds-notes-at-in-loop-left-2
bounds-notes-at-in-loop-left-2 c = omega (arith, cases_room _ _ _ _ _ c.loop-left.invariant.1 c.loop-left-test.true)

pub overflow_add-r : goal.overflow_add-r
overflow_add-r c =
    omega (arith, cases_room _ _ _ _ _ c.loop-left.invariant.1 c.loop-left-test.true)

pub overflow_sub-i : goal.overflow_sub-i
overflow_sub-i c =
    omega (arith, cases_room _ _ _ _ _ c.loop-left.invariant.1 c.loop-left-test.true)

pub overflow_add-i : goal.overflow_add-i
overflow_add-i c =
    omega (arith, cases_room _ _ _ _ _ c.loop-left.invariant.1 c.loop-left-test.true)

pub overflow_add-line : goal.overflow_add-line
overflow_add-line c =
    omega (arith, cases_room _ _ _ _ _ c.loop-left.invariant.1 c.loop-left-test.true)

pub loop-left-preserved : goal.loop-left-preserved
loop-left-preserved c =
    let l = c.loop-left in
    let t = c.loop-left-test.true in
    let y = l.invariant.1 in
    let w = case_lap _ y.0 y.1 l.r l.left y.2 t in
    let n = w.n_is in
    let s = w.size in
    let f = w.counts in (
      c.put_case.auto.out ∙ l.invariant.0,
      (w.rest, y.1, (w.rest_is, omega (arith, w.count)), omega arith, omega arith, omega arith),
      λ cs d h.
          let z = l.invariant.2 cs d h in
          let v = case_lap _ z.0 d l.r l.left z.1 t in
          (v.rest, (v.rest_is, omega (arith, v.count)), cases_next _ v l.out l.line l.i _ c.put_case.ensures z.2),
    )

pub returns : goal.returns
returns c = λ cs d h. let l = c.loop-left in let z = l.invariant.2 cs d h in cases_done _ z.0 d l.r l.left z.1 c.loop-left-test.false _ _ _ _ z.2
