-- One turn over the records: refused, or the plan of the mover's statement carried out.
use Rattle.std.specs.Prelude.{cond, Option, Some, None, List, ℕ, ◌+◌, ◌%◌, eqb, ltb}
use Rattle.std.proofs.Math.Option.{none, some}
use Rattle.std.proofs.Math.Option as maybe
use Rattle.machine_records.specs.Kinds.{Task, Row, Recv, Otherwise, Wait, Go, Statement, Do, Close, Range, Repeat, Ifok, Select, Case, Stop, Status, Able, Waiting, Ended, TaskState, Offer, Plan, Refusal}
use Rattle.meaning.specs.Numbers.{halted, no_such_task, has_ended, is_waiting, no_fault}
use Rattle.meaning.specs.Bytes.{rows_in}
use Rattle.machine_records.specs.Records.{Records, task_in, lap_of}
use Rattle.machine_records.specs.Values.{Values}
use Rattle.machine_records.specs.Waiters.{offers}
use Rattle.machine_records.specs.Plans.{Done, refused_turn, applied}
use Rattle.machine_records.specs.Rules.{attempt, close_port, chosen_case}

-- "Otherwise wait."
abbrev pub or_wait : maybe.Option Plan → Plan
or_wait none = Plan.Wait
or_wait (some p) = p

-- repeat: a lap is begun while fewer than n are; otherwise the laps are forgotten.
unfoldable pub repeated : TaskState → ℕ → ℕ → Row → Row → Plan
repeated x d n body after = cond (ltb (lap_of x d) n) (Plan.Lap d ((lap_of x d + 1) % 256) body) (Plan.Lap d 0 after)

-- select without a ready case: "default if there is one, otherwise wait"
abbrev pub no_case : Otherwise → Plan
no_case Wait = Plan.Wait
no_case (Go r) = Plan.Branch r

-- WHAT A STATEMENT COMES TO: an operation, its own or that of a select's chosen case; or none

module _ (rs : List ℕ) (rows : ℕ) (s : Records) where
  -- `first` is the row behind the statement's own, where a select's cases begin.
  abbrev pub offer_of : ℕ → ℕ → Statement → Option Offer
  offer_of first choice (Do o n) = offers o n n
  offer_of first choice (Close p n) = None
  offer_of first choice (Range p n a) = offers (Recv p) n a
  offer_of first choice (Repeat d k n a) = None
  offer_of first choice (Ifok n a) = None
  offer_of first choice (Select k e) = chosen_case rs rows s k first choice
  offer_of first choice (Case o n) = None
  offer_of first choice Stop = None

  -- The plan of a statement that comes to no operation, for a task that stands as x.
  abbrev pub plan_alone : TaskState → Statement → Plan
  plan_alone x (Do o n) = Plan.End
  plan_alone x (Close p n) = close_port rs s p n
  plan_alone x (Range p n a) = Plan.End
  plan_alone x (Repeat d k n a) = repeated x d k n a
  plan_alone x (Ifok n a) = Plan.Branch (cond x.ok n a)
  plan_alone x (Select k e) = no_case e
  plan_alone x (Case o n) = Plan.End
  plan_alone x Stop = Plan.End

  module _ (b : Values) where
    abbrev pub plan_by : TaskState → Statement → Option Offer → Plan
    plan_by x st None = plan_alone x st
    plan_by x st (Some f) = or_wait (attempt rs rows s b x.register f.op f.hit f.miss)

    -- The plan of a task that stands as x, with a choice.
    unfoldable pub plan_of : TaskState → ℕ → Plan
    plan_of x choice = plan_by x (rows_in rs x.row) (offer_of (x.row.0 + 1) choice (rows_in rs x.row))

-- REFUSED: "13 machine halted, 14 no such task, 16 ended, 15 waiting"

abbrev pub refusal_number : Refusal → ℕ
refusal_number Refusal.Halted = halted
refusal_number Refusal.NoSuchTask = no_such_task
refusal_number Refusal.IsWaiting = is_waiting
refusal_number Refusal.HasEnded = has_ended

abbrev pub refusal_of : Status → Option Refusal
refusal_of Able = None
refusal_of Waiting = Some Refusal.IsWaiting
refusal_of Ended = Some Refusal.HasEnded

unfoldable pub refused_by : ℕ → ℕ → Task → Status → Option Refusal
refused_by fault taskcount t status = cond (eqb fault no_fault) (cond (ltb t.0 taskcount) (refusal_of status) (Some Refusal.NoSuchTask)) (Some Refusal.Halted)

module _ (rs : List ℕ) (rows : ℕ) (s : Records) (b : Values) where
  abbrev pub stepped_by : Task → ℕ → Option Refusal → Done
  stepped_by t choice None = applied rs s t (plan_of rs rows s b (task_in s.tasks t) choice)
  stepped_by t choice (Some r) = refused_turn s (refusal_number r)

  -- One turn of task t with a choice.
  unfoldable pub stepped : Task → ℕ → Done
  stepped t choice = stepped_by t choice (refused_by s.fault s.taskcount t (task_in s.tasks t).status)
