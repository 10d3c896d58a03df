-- What the reader's functions answer, and how an answer tells a part of the text that the definitions read.
use Rattle.std.specs.Prelude.{◌≡◌, Bool, true, false, cond, List, ℕ, suc, ◌+◌, ◌-◌, ◌≤◌, ◌<◌, eqb, leb, ltb, length, Option, Some, None, Result, Ok, Err, ⊤}
use Rattle.text_reader.specs.Kinds.{Port, Op, Send, Forward, Recv, Word, Fault, TextTooLong, ByteNotAllowed, WordOutOfPlace, NumberDue, NumberOverRange, OneTooMany, TooDeep, RowsFull, CutShort, NoTask, Refused, Got, Position, Counted, Head, CaseHead, JobSize}
use Rattle.meaning.specs.Numbers.{channel_limit, task_limit, case_limit, value_limit, lap_limit, depth_limit, row_limit, text_too_long, byte_not_allowed, word_out_of_place, number_due, number_over_range, one_too_many, too_deep, rows_full, cut_short, no_task_given}
use Rattle.meaning.specs.Text.{Stmt, select, Body, Job}
use Rattle.text_words.specs.Words.{no_kind, task_kind, send_kind, forward_kind, recv_kind, close_kind, range_kind, repeat_kind, ifok_kind, select_kind, stop_kind, word_at}
use Rattle.text_reader.specs.Reading.{Part, got, none, bad, bind, many, number, closed, port, op_by, second_by, case_op, case_by, last_by, cases_from, stmt_by, body_from, chan_by, chans_from, task_end, task_by, tasks_from}

-- THE ANSWERS, each as the part of the text that it stands for

-- The number of a refusal in document 01.
abbrev pub fault_number : Fault → ℕ
fault_number TextTooLong = text_too_long
fault_number ByteNotAllowed = byte_not_allowed
fault_number WordOutOfPlace = word_out_of_place
fault_number NumberDue = number_due
fault_number NumberOverRange = number_over_range
fault_number OneTooMany = one_too_many
fault_number TooDeep = too_deep
fault_number RowsFull = rows_full
fault_number CutShort = cut_short
fault_number NoTask = no_task_given

abbrev pub refused_at : Fault → ℕ → Refused
refused_at why place = record { why = why; place = place }

abbrev pub refusal : {A : Type 0} → Refused → Part A
refusal e = bad (fault_number e.why) e.place

-- With so many rows: numbers, channels and operations need none of their own. Of a part that is due, and of one that may be missing.
unfoldable pub due_part : {A : Type 0} → ℕ → Result (Got A) Refused → Part A
due_part rows (Ok g) = got g.value g.next rows
due_part rows (Err e) = refusal e

unfoldable pub part_of : {A : Type 0} → ℕ → Result (Option (Got A)) Refused → Part A
part_of rows (Ok (Some g)) = got g.value g.next rows
part_of rows (Ok None) = none
part_of rows (Err e) = refusal e

-- Of a position: what was read is left out.
unfoldable pub due_told : Result Position Refused → Part ⊤
due_told (Ok p) = got tt p.at p.rows
due_told (Err e) = refusal e

unfoldable pub told_as : Result (Option Position) Refused → Part ⊤
told_as (Ok (Some p)) = got tt p.at p.rows
told_as (Ok None) = none
told_as (Err e) = refusal e

unfoldable pub case_part : Result (Option CaseHead) Refused → Part Op
case_part (Ok (Some h)) = got h.op h.body.at h.body.rows
case_part (Ok None) = none
case_part (Err e) = refusal e

unfoldable pub count_told : Result Counted Refused → Part ℕ
count_told (Ok c) = got c.count c.behind.at c.behind.rows
count_told (Err e) = refusal e

-- A refusal as its number and its place.
unfoldable pub numbered : {A : Type 0} → Result A Refused → Result A (ℕ × ℕ)
numbered (Ok x) = Ok x
numbered (Err e) = Err (fault_number e.why, e.place)

-- WHAT IS TOLD OF A PART

-- The place behind a part and the rows so far; what was read is left out.
unfoldable pub told : {A : Type 0} → Part A → Part ⊤
told (got x at rows) = got tt at rows
told none = none
told (bad n place) = bad n place

-- The same of several parts behind n others, with their number.
unfoldable pub counted : {A : Type 0} → (A → ℕ) → ℕ → Part A → Part ℕ
counted size n (got x at rows) = got (n + size x) at rows
counted size n none = none
counted size n (bad m place) = bad m place

-- A number counts itself.
abbrev pub self : ℕ → ℕ
self n = n

-- A job's rows, channels and tasks. Crate text_laws shows that `none` never comes (`reading_decided`) and that
-- every refusal is one of 1 to 10 (`reading_number`).
unfoldable pub told_job : Part Job → Result JobSize (ℕ × ℕ)
told_job (got j at rows) = Ok (record { rows = rows; channels = length j.capacities; tasks = length j.tasks })
told_job none = Err (0, 0)
told_job (bad n place) = Err (n, place)

-- LEAVES

module _ (s : List ℕ) where
  abbrev pub NumberTold : ℕ → ℕ → Result (Got ℕ) Refused → Type 0
  NumberTold limit at r = (rows : ℕ) → number s limit at rows ≡ due_part rows r

  abbrev pub out_of_place : Word → Part ⊤
  out_of_place w = cond (eqb w.kind no_kind) (bad cut_short (length s)) (bad word_out_of_place w.start)

  abbrev pub EndTold : ℕ → ℕ → Part ⊤ → Type 0
  EndTold at rows r = (x : Stmt) → r ≡ told (closed s x at rows)

module _ (s : List ℕ) (channels : ℕ) where
  abbrev pub PortTold : ℕ → Result (Got Port) Refused → Type 0
  PortTold at r = (rows : ℕ) → port s channels at rows ≡ due_part rows r

  abbrev pub SendTold : ℕ → Result (Got Op) Refused → Type 0
  SendTold at r = (rows : ℕ) → bind (port s channels at rows) (λ p at r. bind (number s value_limit at r) (λ v at r. got (Send p v) at r)) ≡ due_part rows r

  abbrev pub ForwardTold : ℕ → Result (Got Op) Refused → Type 0
  ForwardTold at r = (rows : ℕ) → bind (port s channels at rows) (λ p at r. got (Forward p) at r) ≡ due_part rows r

  abbrev pub RecvTold : ℕ → Result (Got Op) Refused → Type 0
  RecvTold at r = (rows : ℕ) → bind (port s channels at rows) (λ p at r. got (Recv p) at r) ≡ due_part rows r

  abbrev pub OpTold : Word → Result (Option (Got Op)) Refused → Type 0
  OpTold w r = (rows : ℕ) → op_by s channels rows w ≡ part_of rows r

-- HEADS

abbrev pub is_op : ℕ → Bool
is_op k = cond (eqb k send_kind) true (cond (eqb k forward_kind) true (eqb k recv_kind))

abbrev pub is_block : ℕ → Bool
is_block k = cond (eqb k range_kind) true (cond (eqb k repeat_kind) true (cond (eqb k ifok_kind) true (eqb k select_kind)))

unfoldable pub is_statement : ℕ → Bool
is_statement k = cond (is_op k) true (cond (eqb k close_kind) true (cond (eqb k stop_kind) true (is_block k)))

unfoldable pub is_too_deep : ℕ → ℕ → Bool
is_too_deep k depth = cond (is_block k) (leb depth_limit depth) false

-- The head whose operand is a part of the text.
unfoldable pub head_of : {A : Type 0} → (A → Head) → Part A → Part Head
head_of f (got x at rows) = got (f x) at rows
head_of f none = none
head_of f (bad n place) = bad n place

module _ (s : List ℕ) (channels : ℕ) where
  -- A head whose first word is w, once its limits are kept: the operands, and the place behind them.
  unfoldable pub operands_by : Word → Part Head
  operands_by w =
      cond (is_op w.kind) (head_of Head.Operate (op_by s channels 0 w))
      (cond (eqb w.kind close_kind) (head_of Head.Close (port s channels w.next 0))
      (cond (eqb w.kind stop_kind) (got Head.Stop w.next 0)
      (cond (eqb w.kind range_kind) (head_of Head.Range (port s channels w.next 0))
      (cond (eqb w.kind repeat_kind) (head_of Head.Repeat (number s lap_limit w.next 0))
      (cond (eqb w.kind ifok_kind) (got Head.Ifok w.next 0)
      (cond (eqb w.kind select_kind) (got Head.Select w.next 0) none))))))

  -- The limits, 7 ahead of 8, are judged at w, and only then are the operands read.
  unfoldable pub head_by : ℕ → ℕ → Word → Part Head
  head_by depth rows w =
      cond (is_statement w.kind)
      (cond (is_too_deep w.kind depth) (bad too_deep w.start) (cond (ltb rows row_limit) (operands_by w) (bad rows_full w.start)))
      none

  abbrev pub HeadTold : ℕ → ℕ → ℕ → Part Head → Type 0
  HeadTold depth at rows r = r ≡ head_by depth rows (word_at s at)

-- A case is its head and then its body, whatever reads that body, `sub`. (One that takes no word and no row shows that there is one
-- answer alone.)
module _ (s : List ℕ) (channels : ℕ) where
  abbrev pub CaseOpTold : ℕ → Word → Part Op → Type 0
  CaseOpTold rows w p = (sub : ℕ → ℕ → Part Body) → case_op s channels sub w rows ≡ p

  abbrev pub CaseHeadTold : ℕ → ℕ → ℕ → Part Op → Type 0
  CaseHeadTold at rows left p =
      (sub : ℕ → ℕ → Part Body) → case_by s channels sub left (word_at s at) rows ≡ bind p (λ o at r. bind (sub at r) (λ b at r. got (o, b) at r))

-- STATEMENTS AND BODIES, whatever number of steps the definitions are given, if it is enough for the rows that are left.

module _ (s : List ℕ) (channels : ℕ) where
  abbrev pub BodyTold : ℕ → ℕ → ℕ → Part ⊤ → Type 0
  BodyTold depth at rows r = (k : ℕ) → row_limit - rows < k → r ≡ told (body_from k s channels depth at rows)

  abbrev pub StmtTold : ℕ → ℕ → ℕ → Part ⊤ → Type 0
  StmtTold depth at rows r = (k : ℕ) → row_limit ≤ k + rows → r ≡ told (stmt_by s channels (body_from k s channels (depth + 1)) depth (word_at s at) rows)

  -- Of a block: what is made of its body, f, makes no difference.
  abbrev pub BlockTold : ℕ → ℕ → ℕ → Part ⊤ → Type 0
  BlockTold depth at rows r = (k : ℕ) (f : Body → Stmt) → row_limit - rows < k → r ≡ told (bind (body_from k s channels depth at rows) (λ b at r. closed s (f b) at r))

  abbrev pub SecondTold : ℕ → ℕ → ℕ → Part ⊤ → Type 0
  SecondTold depth at rows r = (k : ℕ) (b : Body) → row_limit - rows < k → r ≡ told (second_by s channels (body_from k s channels depth) b at (word_at s at) rows)

  abbrev pub IfokTold : ℕ → ℕ → ℕ → Part ⊤ → Type 0
  IfokTold depth at rows r = (k : ℕ) → row_limit - rows < k → r ≡ told (bind (body_from k s channels depth at rows) (λ b at r. second_by s channels (body_from k s channels depth) b at (word_at s at) r))

  abbrev pub CaseTold : ℕ → ℕ → ℕ → ℕ → Part ⊤ → Type 0
  CaseTold depth at rows left r = (k : ℕ) → row_limit ≤ k + rows → r ≡ told (case_by s channels (body_from k s channels depth) left (word_at s at) rows)

  abbrev pub LastTold : ℕ → ℕ → ℕ → Part ⊤ → Type 0
  LastTold depth at rows r = (k : ℕ) → row_limit - rows < k → r ≡ told (last_by s channels (body_from k s channels depth) at (word_at s at) rows)

  abbrev pub SelectTold : ℕ → ℕ → ℕ → Part ⊤ → Type 0
  SelectTold depth at rows r = (k : ℕ) → row_limit - rows < k → r ≡ told (bind (cases_from s channels (body_from k s channels depth) case_limit at rows) (λ cs at r. closed s (select cs) at r))

module _ (s : List ℕ) (channels : ℕ) where
  -- The cases of a select alone, with so many left: how many there are, and the place behind the last one.
  unfoldable pub count_from : (ℕ → ℕ → Part Body) → ℕ → ℕ → ℕ → Part ℕ
  count_from sub left at rows = many (λ k n. suc n) (λ left at rows. case_by s channels sub left (word_at s at) rows) (λ at rows. got 0 at rows) left at rows

  abbrev pub CasesTold : ℕ → ℕ → ℕ → Part ℕ → Type 0
  CasesTold depth at rows r = (k : ℕ) → row_limit - rows < k → r ≡ counted self 0 (count_from (body_from k s channels depth) case_limit at rows)

-- A JOB

module _ (s : List ℕ) where
  abbrev pub ChanTold : ℕ → ℕ → Part ℕ → Type 0
  ChanTold at left p = p ≡ chan_by s left (word_at s at) 0

  abbrev pub ChansTold : Part ℕ → Type 0
  ChansTold r = r ≡ counted length 0 (chans_from s channel_limit 0 0)

  -- The head of a task, with so many left: none where the text has stopped.
  unfoldable pub task_head : ℕ → ℕ → Word → Part ⊤
  task_head left rows w =
      cond (eqb w.kind task_kind) (cond (eqb left 0) (bad one_too_many w.start) (got tt w.next rows))
      (cond (eqb w.kind no_kind) none (bad word_out_of_place w.start))

  abbrev pub TaskHeadTold : ℕ → ℕ → ℕ → Part ⊤ → Type 0
  TaskHeadTold at rows left r = r ≡ task_head left rows (word_at s at)

  abbrev pub TaskEndTold : ℕ → ℕ → Part ⊤ → Type 0
  TaskEndTold at rows r = (b : Body) → r ≡ told (task_end s b (word_at s at) rows)

  abbrev pub TaskTold : ℕ → ℕ → ℕ → ℕ → Part ⊤ → Type 0
  TaskTold channels at rows left r = r ≡ told (task_by s channels left (word_at s at) rows)

  abbrev pub TasksTold : ℕ → ℕ → ℕ → Part ℕ → Type 0
  TasksTold channels at rows r = r ≡ counted length 0 (tasks_from s channels task_limit at rows)
