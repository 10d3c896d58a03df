-- What the walk of a close promises: words for the contract of a private function.
use Rattle.std.specs.Prelude.{◌≡◌, List, ℕ}
use Rattle.machine_shut.specs.Kinds.{Task, Chan, Receiving, State}
use Rattle.machine_records.specs.Records.{Records, task_in}
use Rattle.machine_records.specs.Waiters.{count_waiters}
use Rattle.machine_records.specs.Plans.{woken_all}
use Rattle.machine_store.specs.Store.{records_in, records_of, Made}

-- The records s at which the turn began, of which the words `before` have the rows; who waits, and in which order, is still so in z.
pub record Began (before : List ℕ) (s z : Records) : Type 0 where
  pub rows : (t : Task) (c : List ℕ) → (task_in s.tasks t).row ≡ (task_in (records_in before c).tasks t).row
  pub order : s.order ≡ z.order
  pub waiting : s.waiting ≡ z.waiting

pub record WokenSo (rs : List ℕ) (c : Chan) (s : Records) (x y : State) (n : ℕ) : Type 0 where
  pub made : Made x y (woken_all rs s c)
  pub counted : n ≡ count_waiters rs s Receiving c

abbrev pub AllWoken : List ℕ → Chan → List ℕ → State → State → ℕ → Type 0
AllWoken rs c before x y n = (s : Records) → Began before s (records_of x) → WokenSo rs c s x y n
