-- A list held in an array's cells, with fillers behind it; a list filtered. Over any element and any number of cells.
use Rattle.std.specs.Prelude.{Bool, true, false, List, [], ◌∷◌, ◌++◌, length, drop}

-- The new list, in the cells of the old one.
abbrev pub over : {A : Type 0} → List A → List A → List A
over new old = new ++ drop (length new) old

abbrev pub cons_if : {A : Type 0} → Bool → A → List A → List A
cons_if true x xs = x ∷ xs
cons_if false x xs = xs

abbrev pub keep : {A : Type 0} → (A → Bool) → List A → List A
keep p [] = []
keep p (x ∷ xs) = cons_if (p x) x (keep p xs)
