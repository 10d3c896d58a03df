use mathlib.Core.Path.{◌≡◌}
use Prim.Native.Nat.{ℕ}
use lib.ListN.{length}
use Rattle.meaning.specs.Text.{Cases}
use Rattle.meaning.specs.Layout.{case_rows}
use Rattle.translate_rows.specs.RowsPut.{rows_put}
use Rattle.translate_rows.specs.Stored.{CasesHeld, CasesThere}
use Rattle.translate_rows.proofs.laying.lay_cases.Given as goal

abbrev pub invariant-loop-left : goal.invariant-loop-left
invariant-loop-left l =
    (length l.out ≡ length l.initial.out) × CasesThere l.notes l.r l.left l.line l.i
    × ((cs : Cases) (d : ℕ) → CasesHeld l.notes cs d l.from l.cases
    → (ds : Cases) × CasesHeld l.notes ds d l.r l.left × (rows_put l.out l.line (case_rows ds l.i l.after.0) ≡ rows_put l.initial.out l.initial.line (case_rows cs l.initial.i l.after.0)))

abbrev pub decreases-loop-left : goal.decreases-loop-left
decreases-loop-left l = l.left
