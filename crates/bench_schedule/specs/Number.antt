-- The number of an answer: a refusal's own, 0 where the turns are made.
use Rattle.std.specs.Prelude.{ℕ, Result, Ok, Err}
use Rattle.machine_turns.specs.declared.Unmade.{Unmade}
use Rattle.machine_turns.specs.Schedule.{unmade_number}

abbrev pub number_of : Result ℕ Unmade → ℕ
number_of (Ok n) = 0
number_of (Err why) = unmade_number why
