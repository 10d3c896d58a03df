-- The part that an answer stands for, by what the answer is: a part, none, or a refusal. Assumes nothing.
use Rattle.std.specs.Prelude.{◌≡◌, refl, ℕ, Option, Some, None, Result, Ok, Err}
use Rattle.text_reader.specs.Kinds.{Refused, Got, Position, Counted, CaseHead, JobSize}
use Rattle.text_reader.specs.Reading.{got, none}
use Rattle.text_reader.specs.Answers.{fault_number, numbered, refusal, due_part, part_of, due_told, told_as, case_part, count_told}

-- An option that is not `Some`.
pub none_by : {A : Type 0} (o : Option A) → ((x : A) → o ≡ Some x → ⊥) → o ≡ None
none_by (Some x) h = absurd (h x refl)
none_by None h = refl

-- What was read, and the place behind it.
module _ {A : Type 0} (rows : ℕ) where
  module _ {v : Result (Got A) Refused} where
    pub due_got : {g : Got A} → v ≡ Ok g → due_part rows v ≡ got g.value g.next rows
    unfolding due_part
    due_got e = rw e

    pub due_bad : {e : Refused} → v ≡ Err e → due_part rows v ≡ refusal e
    unfolding due_part
    due_bad e = rw e

  module _ {v : Result (Option (Got A)) Refused} where
    pub part_some : {o : Option (Got A)} {g : Got A} → v ≡ Ok o → o ≡ Some g → part_of rows v ≡ got g.value g.next rows
    unfolding part_of
    part_some e f = rw (e, f)

    pub part_none : {o : Option (Got A)} → v ≡ Ok o → ((g : Got A) → o ≡ Some g → ⊥) → part_of rows v ≡ none
    unfolding part_of
    part_none {o} e f = rw (e, none_by o f)

    pub part_bad : {e : Refused} → v ≡ Err e → part_of rows v ≡ refusal e
    unfolding part_of
    part_bad e = rw e

-- A position.
module _ {v : Result Position Refused} where
  pub told_got : {p : Position} → v ≡ Ok p → due_told v ≡ got tt p.at p.rows
  unfolding due_told
  told_got e = rw e

  pub told_bad : {e : Refused} → v ≡ Err e → due_told v ≡ refusal e
  unfolding due_told
  told_bad e = rw e

module _ {v : Result (Option Position) Refused} where
  pub as_some : {o : Option Position} {p : Position} → v ≡ Ok o → o ≡ Some p → told_as v ≡ got tt p.at p.rows
  unfolding told_as
  as_some e f = rw (e, f)

  pub as_none : {o : Option Position} → v ≡ Ok o → ((p : Position) → o ≡ Some p → ⊥) → told_as v ≡ none
  unfolding told_as
  as_none {o} e f = rw (e, none_by o f)

  pub as_bad : {e : Refused} → v ≡ Err e → told_as v ≡ refusal e
  unfolding told_as
  as_bad e = rw e

-- The head of a case, and a count.
module _ {v : Result (Option CaseHead) Refused} where
  pub case_some : {o : Option CaseHead} {h : CaseHead} → v ≡ Ok o → o ≡ Some h → case_part v ≡ got h.op h.body.at h.body.rows
  unfolding case_part
  case_some e f = rw (e, f)

  pub case_none : {o : Option CaseHead} → v ≡ Ok o → ((h : CaseHead) → o ≡ Some h → ⊥) → case_part v ≡ none
  unfolding case_part
  case_none {o} e f = rw (e, none_by o f)

  pub case_bad : {e : Refused} → v ≡ Err e → case_part v ≡ refusal e
  unfolding case_part
  case_bad e = rw e

module _ {v : Result Counted Refused} where
  pub count_got : {c : Counted} → v ≡ Ok c → count_told v ≡ got c.count c.behind.at c.behind.rows
  unfolding count_told
  count_got e = rw e

  pub count_bad : {e : Refused} → v ≡ Err e → count_told v ≡ refusal e
  unfolding count_told
  count_bad e = rw e

-- The size of a job.
module _ {v : Result JobSize Refused} where
  pub size_got : {j : JobSize} → v ≡ Ok j → numbered v ≡ Ok j
  unfolding numbered
  size_got e = rw e

  pub size_bad : {e : Refused} → v ≡ Err e → numbered v ≡ Err (fault_number e.why, e.place)
  unfolding numbered
  size_bad e = rw e
