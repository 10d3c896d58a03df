-- A channel's row refilled is its oldest value taken, and one more put behind the others.
use mathlib.Core.Path.{◌≡◌, refl, sym, ap, ◌∙◌}
use mathlib.Core.List.{List, [], ◌∷◌}
use Prim.Native.Nat.{ℕ, zero, suc, ◌-◌, ◌%◌}
use native.Mathlib.Omega.{arith}
use lib.ListN.{get_or, set}
use Rattle.machine_records.specs.Values.{Values, row_for, shifted, with_value, without_first}
use Rattle.meaning.specs.declared.Chan.{Chan}

module _ {A : Type 0} where
  -- What is set at a place and changed there is set changed.
  set_within : (f : A → A) (b : List A) (k : ℕ) (x d : A) → set b k (f x) ≡ set (set b k x) k (f (get_or (set b k x) k d))
  set_within f [] k x d = refl
  set_within f (a ∷ b) zero x d = refl
  set_within f (a ∷ b) (suc k) x d = ap (λ (l : List A). a ∷ l) (set_within f b k x d)

pub refill_law : (b : Values) (c : Chan) (len v : ℕ) → set b (c.0 % 16) (set (shifted (row_for b c) (len % 17)) (len % 17 - 1) v) ≡ with_value (without_first b c len) c (len % 17 - 1) v
refill_law b c len v =
    let e : (len % 17 - 1) % 16 ≡ len % 17 - 1 = omega arith in
    let taken = without_first b c len in
    set_within (λ r. set r (len % 17 - 1) v) b (c.0 % 16) (shifted (row_for b c) (len % 17)) []
    ∙ ap (λ n. set taken (c.0 % 16) (set (row_for taken c) n v)) (sym e)
