-- What holds of every element of a list.
use Rattle.std.specs.Prelude.{List, [], ◌∷◌}

abbrev pub All : {A : Type 0} → (A → Type 0) → List A → Type 0
All Q [] = Unit {0}
All Q (x ∷ xs) = Q x × All Q xs
