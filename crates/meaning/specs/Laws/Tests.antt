-- Tests taken apart. Several crates cite these laws, and no definition does. Assumes nothing.
use Rattle.std.specs.Prelude.{◌≡◌, refl, Bool, true, false, cond, ◌&&◌}

pub both : (a b : Bool) → (a && b) ≡ true → (a ≡ true) × (b ≡ true)
both true b e = (refl, e)
both false true e = (e, refl)
both false false e = (e, e)

-- What holds of both ways holds of the choice between them.
pub cond_all : {A : Type 0} (P : A → Type 0) (b : Bool) {x y : A} → (b ≡ true → P x) → (b ≡ false → P y) → P (cond b x y)
cond_all P true f g = f refl
cond_all P false f g = g refl
