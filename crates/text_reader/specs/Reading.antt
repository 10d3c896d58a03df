-- Document 01, 'Job text' and the table 'given when / place': a text read, word by word from the left, as nested statements, or
-- refused at the first bad word. The grammar is read by recursive descent; a limit is judged at the word that would pass it, ahead
-- of the words behind it, and at one word the lowest number is given.
use Rattle.std.specs.Prelude.{Bool, true, cond, List, [], ◌∷◌, ℕ, zero, suc, ◌+◌, eqb, leb, ltb, length, Option, Some, None}
use Rattle.text_reader.specs.Kinds.{Port, Nil, On, Op, Send, Forward, Recv, Word}
use Rattle.meaning.specs.Numbers.{text_limit, channel_limit, capacity_limit, task_limit, case_limit, value_limit, lap_limit, depth_limit, row_limit, text_too_long, byte_not_allowed, word_out_of_place, number_due, number_over_range, one_too_many, too_deep, rows_full, cut_short, no_task_given}
use Rattle.meaning.specs.Text.{Stmt, operate, close, stop, range, repeat, ifok, select, Body, empty, ◌▸◌, Cases, nomore, default, case, Job}
use Rattle.text_words.specs.Words.{no_kind, chan_kind, task_kind, send_kind, forward_kind, recv_kind, close_kind, range_kind, repeat_kind, ifok_kind, else_kind, select_kind, case_kind, default_kind, stop_kind, end_kind, nil_kind, number_kind, word_at, first_not_allowed}

-- WHAT READING A PART OF THE TEXT GIVES

-- A part that was read, the place behind it and the rows needed so far; no such part here; or a refusal's number and place.
pub data Part (A : Type 0) : Type 0 where
  got : A → ℕ → ℕ → Part A
  none : Part A
  bad : ℕ → ℕ → Part A

unfoldable pub bind : {A B : Type 0} → Part A → (A → ℕ → ℕ → Part B) → Part B
bind (got x at rows) f = f x at rows
bind none f = none
bind (bad n place) f = bad n place

-- PARTS IN A ROW

-- One part and the row of those behind it, joined; where there is none, what ends the row.
abbrev pub ahead : {A B : Type 0} → (A → B → B) → (ℕ → ℕ → Part B) → Part B → Part A → Part B
ahead join rest end (got x at rows) = bind (rest at rows) (λ b a r. got (join x b) a r)
ahead join rest end none = end
ahead join rest end (bad n place) = bad n place

-- A row of at most so many: `one` reads the next part, told how many are left, and refuses one too many itself; `end` reads what
-- ends the row.
unfoldable pub many : {A B : Type 0} → (A → B → B) → (ℕ → ℕ → ℕ → Part A) → (ℕ → ℕ → Part B) → ℕ → ℕ → ℕ → Part B
many join one end zero at rows = ahead join end (end at rows) (one zero at rows)
many join one end (suc left) at rows = ahead join (many join one end left) (end at rows) (one (suc left) at rows)

-- s is the whole text, with so many channels declared.
module _ (s : List ℕ) where
  -- A word that can't stand here: 3 at its first byte, or 9 at the text's length where the text has stopped.
  abbrev pub misplaced : {A : Type 0} → Word → Part A
  misplaced w = cond (eqb w.kind no_kind) (bad cut_short (length s)) (bad word_out_of_place w.start)

  -- A number that is due, 0 to a limit: 9, 4, 5.
  unfoldable pub number_by : ℕ → ℕ → Word → Part ℕ
  number_by limit rows w =
      cond (eqb w.kind no_kind) (bad cut_short (length s))
      (cond (eqb w.kind number_kind) (cond (leb w.value limit) (got w.value w.next rows) (bad number_over_range w.start))
      (bad number_due w.start))

  abbrev pub number : ℕ → ℕ → ℕ → Part ℕ
  number limit at rows = number_by limit rows (word_at s at)

  -- The end of a block, behind what it holds.
  unfoldable pub closed_by : {A : Type 0} → A → ℕ → Word → Part A
  closed_by x rows w = cond (eqb w.kind end_kind) (got x w.next rows) (misplaced w)

  abbrev pub closed : {A : Type 0} → A → ℕ → ℕ → Part A
  closed x at rows = closed_by x rows (word_at s at)

  module _ (channels : ℕ) where
    -- A channel that is due, "a declared channel or `nil`": 9, 4, 5.
    unfoldable pub port_by : ℕ → Word → Part Port
    port_by rows w =
        cond (eqb w.kind no_kind) (bad cut_short (length s))
        (cond (eqb w.kind nil_kind) (got Nil w.next rows)
        (cond (eqb w.kind number_kind) (cond (ltb w.value channels) (got (On (record { 0 = w.value })) w.next rows) (bad number_over_range w.start))
        (bad number_due w.start)))

    abbrev pub port : ℕ → ℕ → Part Port
    port at rows = port_by rows (word_at s at)

    -- `send C V`, `forward C`, `recv C`, of which the word w is the first; none where w is no such word.
    unfoldable pub op_by : ℕ → Word → Part Op
    op_by rows w =
        cond (eqb w.kind send_kind) (bind (port w.next rows) (λ p at r. bind (number value_limit at r) (λ v at r. got (Send p v) at r)))
        (cond (eqb w.kind forward_kind) (bind (port w.next rows) (λ p at r. got (Forward p) at r))
        (cond (eqb w.kind recv_kind) (bind (port w.next rows) (λ p at r. got (Recv p) at r)) none))

-- LIMITS, judged at the word w, with the rows needed so far as the last argument. What is read under a limit, and each way of a
-- choice between words, waits for that number: so a definition looks at the words that it needs, and at no others.

-- 8: "word that needs row 1,025". What follows is read with one row more.
abbrev pub with_row : {A : Type 0} → Word → (ℕ → Part A) → ℕ → Part A
with_row w f rows = cond (ltb rows row_limit) f (λ r. bad rows_full w.start) (rows + 1)

-- 7: "block word at depth 7", ahead of 8.
abbrev pub as_block : {A : Type 0} → ℕ → Word → (ℕ → Part A) → ℕ → Part A
as_block depth w f = cond (ltb depth depth_limit) (with_row w f) (λ r. bad too_deep w.start)

-- STATEMENTS. `sub` reads a body one block deeper, at a place and with the rows so far.

module _ (s : List ℕ) (channels : ℕ) (sub : ℕ → ℕ → Part Body) where
  -- `ifok` BODY [`else` BODY] `end`, behind the first body, at the word w
  unfoldable pub second_by : Body → ℕ → Word → ℕ → Part Stmt
  second_by b at w =
      cond (eqb w.kind else_kind) (λ rows. bind (sub w.next rows) (λ c at r. closed s (ifok b c) at r))
      (λ rows. closed s (ifok b empty) at rows)

  -- The operation of a case, at the word w behind `case`: 3 where it is no operation's.
  abbrev pub or_misplaced : Word → Part Op → Part Op
  or_misplaced w (got o at rows) = got o at rows
  or_misplaced w none = misplaced s w
  or_misplaced w (bad n place) = bad n place

  unfoldable pub case_op : Word → ℕ → Part Op
  case_op w rows = or_misplaced w (op_by s channels rows w)

  -- `case` OP BODY, with so many cases left: 6 at the 9th. None where w is not `case`.
  unfoldable pub case_by : ℕ → Word → ℕ → Part (Op × Body)
  case_by left w =
      cond (eqb w.kind case_kind)
      (cond (eqb left 0) (λ rows. bad one_too_many w.start) (with_row w (λ r. bind (case_op (word_at s w.next) r) (λ o at r. bind (sub at r) (λ b at r. got (o, b) at r)))))
      (λ rows. none)

  -- "at most one `default` BODY, after the cases"
  unfoldable pub last_by : ℕ → Word → ℕ → Part Cases
  last_by at w =
      cond (eqb w.kind default_kind) (λ rows. bind (sub w.next rows) (λ b at r. got (default b) at r))
      (λ rows. got nomore at rows)

  unfoldable pub cases_from : ℕ → ℕ → ℕ → Part Cases
  cases_from left at rows =
      many (λ k cs. case k.0 k.1 cs) (λ left at rows. case_by left (word_at s at) rows) (λ at rows. last_by at (word_at s at) rows) left at rows

  abbrev pub is_op_word : Word → Bool
  is_op_word w = cond (eqb w.kind send_kind) true (cond (eqb w.kind forward_kind) true (eqb w.kind recv_kind))

  -- A statement whose first word is w, inside so many blocks; none where w begins no statement.
  unfoldable pub stmt_by : ℕ → Word → ℕ → Part Stmt
  stmt_by depth w =
      cond (is_op_word w) (with_row w (λ r. bind (op_by s channels r w) (λ o at r. got (operate o) at r)))
      (cond (eqb w.kind close_kind) (with_row w (λ r. bind (port s channels w.next r) (λ p at r. got (close p) at r)))
      (cond (eqb w.kind stop_kind) (with_row w (λ r. got stop w.next r))
      (cond (eqb w.kind range_kind) (as_block depth w (λ r. bind (port s channels w.next r) (λ p at r. bind (sub at r) (λ b at r. closed s (range p b) at r))))
      (cond (eqb w.kind repeat_kind) (as_block depth w (λ r. bind (number s lap_limit w.next r) (λ n at r. bind (sub at r) (λ b at r. closed s (repeat n b) at r))))
      (cond (eqb w.kind ifok_kind) (as_block depth w (λ r. bind (sub w.next r) (λ b at r. second_by b at (word_at s at) r)))
      (cond (eqb w.kind select_kind) (as_block depth w (λ r. bind (cases_from case_limit w.next r) (λ cs at r. closed s (select cs) at r)))
      (λ rows. none)))))))

-- BODIES. Each statement needs a row and there are at most 1,024, so that one step more than rows are left is always enough.

unfoldable pub body_from : ℕ → List ℕ → ℕ → ℕ → ℕ → ℕ → Part Body
body_from zero s channels depth at rows = bad 0 0
body_from (suc steps) s channels depth at rows =
    ahead ◌▸◌ (body_from steps s channels depth) (got empty at rows) (stmt_by s channels (body_from steps s channels (depth + 1)) depth (word_at s at) rows)

abbrev pub body : List ℕ → ℕ → ℕ → ℕ → Part Body
body s channels at rows = body_from (suc row_limit) s channels 0 at rows

-- A JOB

module _ (s : List ℕ) where
  -- "0 to 16 `chan CAP`", with so many left: 6 at the 17th.
  unfoldable pub chan_by : ℕ → Word → ℕ → Part ℕ
  chan_by left w =
      cond (eqb w.kind chan_kind)
      (cond (eqb left 0) (λ rows. bad one_too_many w.start) (λ rows. number s capacity_limit w.next rows))
      (λ rows. none)

  unfoldable pub chans_from : ℕ → ℕ → ℕ → Part (List ℕ)
  chans_from left at rows = many ◌∷◌ (λ left at rows. chan_by left (word_at s at) rows) (λ at rows. got [] at rows) left at rows

  -- The `end` of a task, which needs a row.
  unfoldable pub task_end : Body → Word → ℕ → Part Body
  task_end b w = cond (eqb w.kind end_kind) (with_row w (λ r. got b w.next r)) (λ rows. misplaced s w)

  -- `task` BODY `end`, with so many left: 6 at the 17th. None where the text has stopped; 3 at any other word.
  unfoldable pub task_by : ℕ → ℕ → Word → ℕ → Part Body
  task_by channels left w =
      cond (eqb w.kind task_kind)
      (cond (eqb left 0) (λ rows. bad one_too_many w.start) (λ rows. bind (body s channels w.next rows) (λ b at r. task_end b (word_at s at) r)))
      (λ rows. cond (eqb w.kind no_kind) none (bad word_out_of_place w.start))

  unfoldable pub tasks_from : ℕ → ℕ → ℕ → ℕ → Part (List Body)
  tasks_from channels left at rows = many ◌∷◌ (λ left at rows. task_by channels left (word_at s at) rows) (λ at rows. got [] at rows) left at rows

  -- 10: no task.
  abbrev pub job_of : List ℕ → List Body → ℕ → ℕ → Part Job
  job_of caps [] at rows = bad no_task_given (length s)
  job_of caps (b ∷ bs) at rows = got (record { capacities = caps; tasks = b ∷ bs }) at rows

  unfoldable pub job : Part Job
  job = bind (chans_from channel_limit 0 0) (λ caps at r. bind (tasks_from (length caps) task_limit at r) (λ bs at r. job_of caps bs at r))

  -- "1, then 2 over the whole text, then the first bad word from the left .., then 9, 10"
  abbrev pub allowed_by : Option ℕ → ℕ → Part Job
  allowed_by None n = job
  allowed_by (Some i) n = bad byte_not_allowed i

  unfoldable pub reading : Part Job
  reading = cond (ltb text_limit (length s)) (λ n. bad text_too_long 0) (allowed_by (first_not_allowed s)) 0
