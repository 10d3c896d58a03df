-- A line as a contract sees it: its bytes, newline included.
use Rattle.std.specs.Prelude.{List, ℕ}

pub record Line : Type 0 where
  pub bytes : List ℕ
