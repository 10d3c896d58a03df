-- A machine that fits, said of the meaning's machine over any points: its order names exactly the waiting tasks, once each, and every
-- one of them stands at an operation that can wait; no buffer is over its capacity; the fault is 0 to 4.
use Rattle.std.specs.Prelude.{◌≡◌, Bool, true, false, List, [], ◌∷◌, ℕ, zero, suc, ◌+◌, ◌≤◌, length, eqb}
use Rattle.std.proofs.Math.Option.{none}
use Rattle.meaning_laws.specs.Kinds.{Task, Status, Able, Waiting, Ended}
use Rattle.meaning.specs.Machine.{Case, Look, tries, Standing, Channel, Machine}
use Rattle.meaning_laws.specs.Lists.{All}

abbrev pub one : Bool → ℕ
one true = 1
one false = 0

-- How often a task stands in an order: tasks are told apart by their numbers.
unfoldable pub times : Task → List Task → ℕ
times t [] = 0
times t (u ∷ us) = one (eqb t.0 u.0) + times t us

abbrev pub mark : Status → ℕ
mark Able = 0
mark Waiting = 1
mark Ended = 0

abbrev pub Within : Channel → Type 0
Within c = length c.buffer ≤ c.capacity

module _ {P : Type 0} where
  -- 1 where the task of this number waits.
  unfoldable pub waiting_at : List (Standing P) → ℕ → ℕ
  waiting_at [] n = 0
  waiting_at (x ∷ xs) zero = mark x.status
  waiting_at (x ∷ xs) (suc n) = waiting_at xs n

  -- Operations and no default.
  pub record CanWait (l : Look P) : Type 0 where
    pub cases : List (Case P)
    pub only : l ≡ tries cases none

  abbrev pub PlaceOf : Status → Look P → Type 0
  PlaceOf Able l = Unit {0}
  PlaceOf Waiting l = CanWait l
  PlaceOf Ended l = Unit {0}

  module _ (look : P → Look P) where
    abbrev pub Place : Standing P → Type 0
    Place x = PlaceOf x.status (look x.point)

    pub record Fits (m : Machine P) : Type 0 where
      pub ordered : (t : Task) → times t m.order ≡ waiting_at m.tasks t.0
      pub places : All Place m.tasks
      pub within : All Within m.channels
      pub faults : m.fault ≤ 4
