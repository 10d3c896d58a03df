-- What an image that passes the check can be relied on for, said in facts instead of tests: the layers above cite this and
-- never look into the check.
use Rattle.std.specs.Prelude.{◌≡◌, Bool, true, false, List, ℕ, zero, suc, ◌+◌, ◌≤◌, ◌<◌, length}
use Rattle.image_check.specs.Kinds.{Row, Port, Nil, On, Op, Send, Forward, Recv, Otherwise, Wait, Go, Statement, Do, Close, Range, Repeat, Ifok, Select, Case, Stop}
use Rattle.meaning.specs.Numbers.{row_limit, channel_limit, task_limit, capacity_limit, case_limit, lap_limit, depth_limit}
use Rattle.meaning.specs.Image.{row_no, chan_no, task_no}
use Rattle.meaning.specs.Bytes.{trailer_size, span_of, row_count, channel_count, task_count, body_of, rows_in, capacity_in, first_row_in}

abbrev pub is_case : Statement → Bool
is_case (Do o n) = false
is_case (Close p n) = false
is_case (Range p n a) = false
is_case (Repeat d k n a) = false
is_case (Ifok n a) = false
is_case (Select k e) = false
is_case (Case o n) = true
is_case Stop = false

abbrev pub PortSound : ℕ → Port → Type 0
PortSound channels Nil = Unit {0}
PortSound channels (On c) = c.0 < channels

abbrev pub OpSound : ℕ → Op → Type 0
OpSound channels (Send p v) = PortSound channels p
OpSound channels (Forward p) = PortSound channels p
OpSound channels (Recv p) = PortSound channels p

module _ (rs : List ℕ) (rows : ℕ) where
  -- A row, and no case row.
  pub record Target (r : Row) : Type 0 where
    pub below : r.0 < rows
    pub plain : is_case (rows_in rs r) ≡ false

  abbrev pub OtherwiseSound : Otherwise → Type 0
  OtherwiseSound Wait = Unit {0}
  OtherwiseSound (Go n) = Target n

  -- The k rows from row i on are case rows.
  abbrev pub Followed : ℕ → ℕ → Type 0
  Followed zero i = Unit {0}
  Followed (suc k) i = (i < rows) × (is_case (rows_in rs (row_no i)) ≡ true) × Followed k (suc i)

  abbrev pub StatementSound : ℕ → ℕ → Statement → Type 0
  StatementSound channels i (Do o n) = OpSound channels o × Target n
  StatementSound channels i (Close p n) = PortSound channels p × Target n
  StatementSound channels i (Range p n a) = PortSound channels p × Target n × Target a
  StatementSound channels i (Repeat d k n a) = (d < depth_limit) × (k ≤ lap_limit) × Target n × Target a
  StatementSound channels i (Ifok n a) = Target n × Target a
  StatementSound channels i (Select k e) = (k ≤ case_limit) × OtherwiseSound e × Followed k (suc i)
  StatementSound channels i (Case o n) = OpSound channels o × Target n
  StatementSound channels i Stop = Unit {0}

pub record Sound (bs : List ℕ) : Type 0 where
  pub some_rows : 1 ≤ row_count bs
  pub most_rows : row_count bs ≤ row_limit
  pub most_channels : channel_count bs ≤ channel_limit
  pub some_tasks : 1 ≤ task_count bs
  pub most_tasks : task_count bs ≤ task_limit
  pub whole : length (body_of bs) ≡ span_of (row_count bs) (channel_count bs) (task_count bs) + trailer_size
  pub statements : (i : ℕ) → i < row_count bs → StatementSound (body_of bs) (row_count bs) (channel_count bs) i (rows_in (body_of bs) (row_no i))
  pub capacities : (c : ℕ) → c < channel_count bs → capacity_in (body_of bs) (row_count bs) (chan_no c) ≤ capacity_limit
  pub firsts : (t : ℕ) → t < task_count bs → Target (body_of bs) (row_count bs) (first_row_in (body_of bs) (row_count bs) (channel_count bs) (task_no t))
