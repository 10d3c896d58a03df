-- Document 01, 'Job text' and 'Meaning of a text': nested statements, and what a task's remainder does next. No rows here.
use Rattle.std.specs.Prelude.{cond, List, [], ◌∷◌, map, ℕ, suc, ltb}
use Rattle.std.proofs.Math.Option.{Option, none, some}
use Rattle.meaning.specs.Kinds.{Port, Op, Recv}
use Rattle.meaning.specs.Machine.{Case, Look, tries, closes, branches, asks, ends, alone, Machine, fresh}

-- A BODY

infixr 40 ◌▸◌
mutual
  pub data Stmt : Type 0 where
    operate : Op → Stmt  -- send C V, forward C, recv C
    close : Port → Stmt
    stop : Stmt
    range : Port → Body → Stmt
    repeat : ℕ → Body → Stmt
    ifok : Body → Body → Stmt  -- the second body is empty where there is no `else`
    select : Cases → Stmt

  pub data Body : Type 0 where
    empty : Body
    ◌▸◌ : Stmt → Body → Body

  -- "0 to 8 of `case` OP BODY, at most one `default` BODY, after the cases"
  pub data Cases : Type 0 where
    nomore : Cases
    default : Body → Cases
    case : Op → Body → Cases → Cases

-- A job: "First 0 to 16 `chan CAP` .., then 1 to 16 tasks".
pub record Job : Type 0 where
  pub capacities : List ℕ
  pub tasks : List Body

-- A REMAINDER

-- What is left to do: statements, and loops `repeat N BODY` with some laps begun.
pub data Item : Type 0 where
  todo : Stmt → Item
  begun : ℕ → ℕ → Body → Item  -- laps begun, N, the body

abbrev pub Remainder : Type 0
Remainder = List Item

-- The statements of a body, then the rest.
unfoldable pub enter : Body → Remainder → Remainder
enter empty r = r
enter (s ▸ b) r = todo s ∷ enter b r

-- "with fewer than N laps begun, begin one (the body, then this loop again); otherwise go on after it, its laps forgotten."
unfoldable pub text_repeat : ℕ → ℕ → Body → Remainder → Look Remainder
text_repeat k n b r = branches (cond (ltb k n) (enter b (begun (suc k) n b ∷ r)) r)

-- "the chosen case's body, then what follows the select"
unfoldable pub text_cases : Cases → Remainder → List (Case Remainder)
text_cases nomore r = []
text_cases (default b) r = []
text_cases (case o b cs) r = record { op = o; hit = enter b r; miss = enter b r } ∷ text_cases cs r

unfoldable pub text_default : Cases → Remainder → Option Remainder
text_default nomore r = none
text_default (default b) r = some (enter b r)
text_default (case o b cs) r = text_default cs r

unfoldable pub text_stmt : Stmt → Remainder → Look Remainder
text_stmt (operate o) r = alone o r r
text_stmt (close p) r = closes p r
text_stmt stop r = ends
-- "receive; with ok on, the body, then the range again; otherwise go on after it"
text_stmt (range p b) r = alone (Recv p) (enter b (todo (range p b) ∷ r)) r
-- a loop met anew: no lap is begun
text_stmt (repeat n b) r = text_repeat 0 n b r
-- "first body if ok is on, otherwise the second, which may be empty"
text_stmt (ifok b c) r = asks (enter b r) (enter c r)
text_stmt (select cs) r = tries (text_cases cs r) (text_default cs r)

unfoldable pub text_item : Item → Remainder → Look Remainder
text_item (todo s) r = text_stmt s r
text_item (begun k n b) r = text_repeat k n b r

-- "A turn takes the remainder's first statement." "`stop`, or an empty remainder: the task ends."
unfoldable pub text_look : Remainder → Look Remainder
text_look [] = ends
text_look (i ∷ r) = text_item i r

-- "a remainder (at first its body)"
unfoldable pub text_start : Job → Machine Remainder
text_start j = fresh j.capacities (map (λ b. enter b []) j.tasks)
