-- A turn over the records, by what the code has read.
use Rattle.std.specs.Prelude.{◌≡◌, refl, Option, Some, None, ℕ, List}
use Rattle.std.proofs.Common.{sym, ◌∙◌}
use Rattle.std.proofs.Math.Path.{ap}
use Rattle.machine_step.specs.Kinds.{Task, Statement, TaskState, Offer, Plan, Refusal}
use Rattle.machine_records.specs.Records.{Records, task_in}
use Rattle.machine_records.specs.Values.{Values}
use Rattle.machine_records.specs.Plans.{refused_turn, applied}
use Rattle.machine_records.specs.Rules.{attempt}
use Rattle.machine_records.specs.Step.{or_wait, plan_by, plan_of, refusal_number, refused_by, stepped_by, stepped}

-- The plan p of an operation that the task offers, which stands as x.
pub plan_operates : (rs : List ℕ) (rows : ℕ) (s : Records) (b : Values) (y x : TaskState) → x ≡ y → (st : Statement) (f : Option Offer) (o : Offer) → f ≡ Some o
    → (p : Plan) → p ≡ or_wait (attempt rs rows s b x.register o.op o.hit o.miss) → p ≡ plan_by rs rows s b y st f
plan_operates rs rows s b y x e st f o ef p ep =
    ep ∙ ap (λ (z : TaskState). or_wait (attempt rs rows s b z.register o.op o.hit o.miss)) e ∙ ap (plan_by rs rows s b y st) (sym ef)

module _ (rs : List ℕ) (rows : ℕ) (s : Records) (b : Values) (t : Task) (choice : ℕ) where
  by_number : (y : Refusal) → refused_turn s (refusal_number y) ≡ stepped_by rs rows s b t choice (Some y)
  by_number y = refl

  -- The mover stands as x; r is why the turn is refused, if it is.
  module _ (x : TaskState) (ex : x ≡ task_in s.tasks t) (fault count : ℕ) (ef : fault ≡ s.fault) (ec : count ≡ s.taskcount) (r : Option Refusal) (er : r ≡ refused_by fault count t x.status) where
    refusal_is : r ≡ refused_by s.fault s.taskcount t (task_in s.tasks t).status
    refusal_is = er ∙ ap (λ f. refused_by f count t x.status) ef ∙ ap (λ k. refused_by s.fault k t x.status) ec ∙ ap (λ (y : TaskState). refused_by s.fault s.taskcount t y.status) ex

    pub step_refused : (y : Refusal) → r ≡ Some y → refused_turn s (refusal_number y) ≡ stepped rs rows s b t choice
    unfolding stepped
    step_refused y d = by_number y ∙ ap (stepped_by rs rows s b t choice) (sym d ∙ refusal_is)

    pub step_made : r ≡ None → (p : Plan) → p ≡ plan_of rs rows s b (task_in s.tasks t) choice → applied rs s t p ≡ stepped rs rows s b t choice
    unfolding stepped
    step_made z p ep = ap (applied rs s t) ep ∙ ap (stepped_by rs rows s b t choice) (sym z ∙ refusal_is)
