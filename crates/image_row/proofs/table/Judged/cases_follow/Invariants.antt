use mathlib.Core.Path.{◌≡◌}
use Prim.Native.Nat.{suc, ◌+◌, ◌-◌, ◌<◌}
use Rattle.image_row.specs.Row.{cases_follow}
use Rattle.image_row.proofs.table.Judged.cases_follow.Given as goal

abbrev pub invariant-loop-n : goal.invariant-loop-n
invariant-loop-n l =
    let s = l.self in
    (s.row.at.0 + l.n < s.rows) × (cases_follow s.row.body.now s.rows (l.k - l.n) (s.row.at.0 + 1 + l.n) ≡ cases_follow s.row.body.now s.rows l.k (suc s.row.at.0))
