-- Laws that the proofs of this crate cite. Assumes nothing.
use mathlib.Core.Path.{◌≡◌, ap, ap₂, ◌∙◌}
use mathlib.Core.Bool.{cond}
use mathlib.Core.List.{List, ◌∷◌, ◌++◌}
use Prim.Native.Nat.{ℕ, ◌+◌, ◌*◌, ◌/◌, ◌%◌}
use native.Mathlib.Omega.{arith}
use native.Mathlib.Nat.{add-mul-mod_self_left}
use lib.Dec.{leb}
use lib.ListN.{length}
use lib.Seq.{sets}
use Rattle.translate_fields.specs.Kinds.{Row, Fields}
use Rattle.meaning.specs.Bytes.{row_size, fields, two, bytes_of}
use Rattle.image_rows.specs.Rows.{fields_put}

-- Of a number over 65,535 a field's two bytes keep the last two.
two_low : (n : ℕ) → two (n % 65536) ≡ two n
two_low n =
    let p : n % 65536 % 256 ≡ n % 256 = omega arith in
    let e : n / 256 ≡ n % 65536 / 256 + 256 * (n / 65536) = omega arith in
    let q : n / 256 % 256 ≡ n % 65536 / 256 % 256 = ap (λ (k : ℕ). k % 256) e ∙ add-mul-mod_self_left (n % 65536 / 256) 256 (n / 65536) in
    rw (p, q)

pub low_bytes : (o c a n m : ℕ) → bytes_of (fields o c a (n % 65536) (m % 65536)) ≡ bytes_of (fields o c a n m)
low_bytes o c a n m = ap₂ (λ (x y : List ℕ). o ∷ c ∷ two a ++ x ++ y) (two_low n) (two_low m)

-- Fields of the same eight bytes are stored alike.
pub put_alike : (out : List ℕ) (r : Row) (f g : Fields) → bytes_of f ≡ bytes_of g → fields_put out r f ≡ fields_put out r g
unfolding fields_put
put_alike out r f g e = ap (λ (xs : List ℕ). cond (leb (row_size * r.0 + row_size) (length out)) (sets out (row_size * r.0) xs) out) e
