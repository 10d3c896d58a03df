-- The number of a task's status, in a line of a listing and in a state's cell. A number over 2 reads as 2 does.
use Rattle.std.specs.Prelude.{cond, ℕ, ◌==◌}
use Rattle.meaning.specs.Kinds.{Status, Able, Waiting, Ended}

abbrev pub status_number : Status → ℕ
status_number Able = 0
status_number Waiting = 1
status_number Ended = 2

abbrev pub status_of : ℕ → Status
status_of n = cond (n == 0) Able (cond (n == 1) Waiting Ended)
