use mathlib.Core.Path.{◌≡◌}
use Prim.Native.Nat.{◌-◌, ◌*◌, ◌^◌, ◌<◌}
use native.Mathlib.Nat.{div-eq_of_lt, div-one}
use native.Mathlib.Omega.{arith}
use borrow.Author.Rules.{rules}
use Rattle.text_keys.proofs.key_of.Goals as goal

pub returns-then-n-eq0 : goal.returns-then-n-eq0
returns-then-n-eq0 c =
    let a = c.args in
    let e = c.key_of_row-key.ensures in
    let small : c.key_of_row-key.result < 2 ^ 64 = search rules in
    rw (c.if-n-eq0.true, ← e, div-eq_of_lt small)

pub returns-then-n-lt8 : goal.returns-then-n-lt8
returns-then-n-lt8 c = rw c.key_of_row-key.ensures

pub returns : goal.returns
returns c =
    let a = c.args in
    let none : 64 - 8 * a.n ≡ 0 = omega (arith, c.if-n-lt8.false) in
    rw (c.key_of_row-key.ensures, none, div-one)
