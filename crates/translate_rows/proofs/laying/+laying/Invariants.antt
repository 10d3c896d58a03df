use mathlib.Core.Path.{◌≡◌}
use Prim.Native.Nat.{ℕ, suc, ◌+◌, ◌-◌, ◌*◌, ◌≤◌}
use lib.ListN.{length}
use Rattle.meaning.specs.Text.{Body, Cases}
use Rattle.meaning.specs.Layout.{rows_b, rows_c, case_count, size_c}
use Rattle.translate_rows.specs.RowsPut.{rows_put}
use Rattle.translate_rows.specs.Stored.{BodyHeld, CasesHeld, BodyThere, BodiesThere}
use Rattle.translate_rows.proofs.laying.+laying.Given as goal

abbrev pub decreases-lay_bodies : goal.decreases-lay_bodies
decreases-lay_bodies l = 3 * (l.end - l.from) + 2

abbrev pub decreases-lay_body : goal.decreases-lay_body
decreases-lay_body l = 3 * (l.end - l.from) + 1

abbrev pub decreases-lay_stmt : goal.decreases-lay_stmt
decreases-lay_stmt l = 3 * l.size

abbrev pub invariant-lay_bodies-loop-left : goal.invariant-lay_bodies-loop-left
invariant-lay_bodies-loop-left l =
    (l.from ≤ l.r) × (length l.out ≡ length l.initial.out) × BodiesThere l.notes l.r l.left l.end l.i
    × ((cs : Cases) (d : ℕ) → CasesHeld l.notes cs d l.from l.cases → l.end ≡ l.from + case_count cs + size_c cs
    → (ds : Cases) × CasesHeld l.notes ds d l.r l.left × (l.end ≡ l.r + case_count ds + size_c ds)
    × (rows_put l.out l.i (rows_c ds d l.i l.after.0) ≡ rows_put l.initial.out l.initial.i (rows_c cs d l.initial.i l.after.0)))

abbrev pub decreases-lay_bodies-loop-left : goal.decreases-lay_bodies-loop-left
decreases-lay_bodies-loop-left l = l.left

abbrev pub invariant-lay_body-loop-r : goal.invariant-lay_body-loop-r
invariant-lay_body-loop-r l =
    (l.from ≤ l.r) × (length l.out ≡ length l.initial.out) × BodyThere l.notes l.r l.end l.i
    × ((b : Body) (d : ℕ) → BodyHeld l.notes b d l.from l.end
    → (e : Body) × BodyHeld l.notes e d l.r l.end × (rows_put l.out l.i (rows_b e d l.i l.j.0) ≡ rows_put l.initial.out l.initial.i (rows_b b d l.initial.i l.j.0)))

abbrev pub decreases-lay_body-loop-r : goal.decreases-lay_body-loop-r
decreases-lay_body-loop-r l = suc l.end - l.r
