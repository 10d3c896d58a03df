use mathlib.Core.Path.{◌≡◌, ap, ◌∙◌}
use mathlib.Core.Bool.{Bool}
use Prim.Native.Nat.{ℕ, ◌+◌, ◌-◌}
use lib.Dec.{leb}
use lib.ListN.{get_or}
use borrow.Author.Rules.{rules}
use Rattle.machine_fit.proofs.Laws.{larger_at_most, most_lap, most_done}
use Rattle.machine_fit.proofs.at_most.Goals as goal

pub loop-i-preserved : goal.loop-i-preserved
loop-i-preserved c =
    let a = c.args in
    let l = c.loop-i in
    let p : ℕ → Bool = λ j. leb (get_or a.cells.now (a.from + j) 0) a.top in
    let q = ap (λ m. leb m a.top) c.max-most.ensures ∙ larger_at_most l.most _ a.top in
    most_lap p a.n l.i _ (leb l.most a.top) _ (search rules) l.invariant q

pub returns : goal.returns
returns c =
    let a = c.args in
    let l = c.loop-i in
    let z : a.n - l.i ≡ 0 = search rules in
    most_done (λ j. leb (get_or a.cells.now (a.from + j) 0) a.top) (a.n - l.i) l.i _ _ z l.invariant
