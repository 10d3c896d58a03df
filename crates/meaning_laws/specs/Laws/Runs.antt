-- What every turn keeps, every run keeps: it holds of each machine that the run comes by.
use mathlib.Core.List.{List, [], ◌∷◌}
use Rattle.std.specs.Prelude.{ℕ}
use Rattle.meaning_laws.specs.Kinds.{Task}
use Rattle.meaning.specs.Machine.{Look, Machine, turn, runs}
use Rattle.meaning_laws.specs.Lists.{All}

module _ {P : Type 0} (look : P → Look P) (Q : Machine P → Type 0) (keeps : (t : Task) (choice : ℕ) (m : Machine P) → Q m → Q (turn look t choice m).after) where
  pub runs_keep : (ss : List (Task × ℕ)) (m : Machine P) → Q m → All (λ r. Q r.after) (runs look ss m)
  unfolding runs
  runs_keep [] m q = tt
  runs_keep (s ∷ ss) m q = let next = keeps s.0 s.1 m q in (next, runs_keep ss _ next)
