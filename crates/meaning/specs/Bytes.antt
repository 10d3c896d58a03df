-- Document 01, 'Step image': a step image as bytes, written and read. Numbers are low byte first.
use Rattle.std.specs.Prelude.{cond, List, [], ◌∷◌, ◌++◌, ℕ, zero, suc, ◌+◌, ◌-◌, ◌*◌, ◌/◌, ◌%◌, length, get_or, drop, eqb, leb}
use Rattle.meaning.specs.Kinds.{Task, Chan, Row, Fields, Port, Nil, On, Send, Forward, Recv, Otherwise, Wait, Go, Statement, Do, Close, Range, Repeat, Ifok, Select, Case, Stop}
use Rattle.meaning.specs.Events.{port_number}
use Rattle.meaning.specs.Machine.{Machine}
use Rattle.meaning.specs.Text.{Job}
use Rattle.meaning.specs.Image.{row_no, Rows, Spot, image_start, chan_no, task_no}
use Rattle.meaning.specs.Layout.{rows_t, first_rows}

-- ROWS

abbrev pub fields : ℕ → ℕ → ℕ → ℕ → ℕ → Fields
fields o c a n m = record { op = o; chan = c; arg = a; next = n; other = m }

-- The table of the rows, written: "a field with no use is 0; nil is chan 255".
unfoldable pub fields_of : Statement → Fields
fields_of (Do (Send p v) n) = fields 1 (port_number p) v n.0 0
fields_of (Do (Forward p) n) = fields 2 (port_number p) 0 n.0 0
fields_of (Do (Recv p) n) = fields 3 (port_number p) 0 n.0 0
fields_of (Close p n) = fields 4 (port_number p) 0 n.0 0
fields_of (Range p body after) = fields 5 (port_number p) 0 body.0 after.0
fields_of (Repeat d k body after) = fields 6 d k body.0 after.0
fields_of (Ifok first second) = fields 7 0 0 first.0 second.0
fields_of (Select k Wait) = fields 8 k 0 0 0
fields_of (Select k (Go n)) = fields 8 k 1 n.0 0
fields_of (Case (Send p v) n) = fields 9 (port_number p) v n.0 0
fields_of (Case (Forward p) n) = fields 10 (port_number p) 0 n.0 0
fields_of (Case (Recv p) n) = fields 11 (port_number p) 0 n.0 0
fields_of Stop = fields 12 0 0 0 0

abbrev pub port_of : ℕ → Port
port_of n = cond (eqb n 255) Nil (On (record { 0 = n }))

-- "select: .. arg 1 with default, next its body"
abbrev pub otherwise_of : ℕ → Row → Otherwise
otherwise_of arg next = cond (eqb arg 1) (Go next) Wait

-- The same table, read: the row of each op, from 0 on. (An image that passes the check has ops 1 to 12 alone.)
unfoldable pub statement_of : Fields → Statement
statement_of f =
    get_or
    (Stop
    ∷ Do (Send (port_of f.chan) f.arg) (row_no f.next)
    ∷ Do (Forward (port_of f.chan)) (row_no f.next)
    ∷ Do (Recv (port_of f.chan)) (row_no f.next)
    ∷ Close (port_of f.chan) (row_no f.next)
    ∷ Range (port_of f.chan) (row_no f.next) (row_no f.other)
    ∷ Repeat f.chan f.arg (row_no f.next) (row_no f.other)
    ∷ Ifok (row_no f.next) (row_no f.other)
    ∷ Select f.chan (otherwise_of f.arg (row_no f.next))
    ∷ Case (Send (port_of f.chan) f.arg) (row_no f.next)
    ∷ Case (Forward (port_of f.chan)) (row_no f.next)
    ∷ Case (Recv (port_of f.chan)) (row_no f.next)
    ∷ Stop ∷ [])
    f.op Stop

-- AN IMAGE WRITTEN

abbrev pub row_size : ℕ
row_size = 8

abbrev pub trailer_size : ℕ
trailer_size = 8

abbrev pub image_mark : ℕ
image_mark = 0x5A

abbrev pub image_version : ℕ
image_version = 1

-- Two bytes, the low one first.
abbrev pub two : ℕ → List ℕ
two n = n % 256 ∷ n / 256 % 256 ∷ []

abbrev pub bytes_of : Fields → List ℕ
bytes_of f = f.op ∷ f.chan ∷ two f.arg ++ two f.next ++ two f.other

unfoldable pub row_bytes : List Statement → List ℕ
row_bytes [] = []
row_bytes (x ∷ xs) = bytes_of (fields_of x) ++ row_bytes xs

unfoldable pub first_bytes : List Row → List ℕ
first_bytes [] = []
first_bytes (n ∷ ns) = two n.0 ++ first_bytes ns

-- The distance back from the trailer to row 0.
abbrev pub span_of : ℕ → ℕ → ℕ → ℕ
span_of rows channels tasks = row_size * rows + channels + 2 * tasks

abbrev pub trailer : ℕ → ℕ → ℕ → List ℕ
trailer rows channels tasks = two rows ++ (channels ∷ tasks ∷ []) ++ two (span_of rows channels tasks) ++ (image_mark ∷ image_version ∷ [])

-- "After the rows: one capacity byte per channel, two bytes of first row per task, then the 8-byte trailer"
unfoldable pub image_bytes : List Statement → List ℕ → List Row → List ℕ
image_bytes rows capacities firsts = (row_bytes rows ++ (capacities ++ first_bytes firsts)) ++ trailer (length rows) (length capacities) (length firsts)

-- The image of a job.
unfoldable pub job_image : Job → List ℕ
job_image j = image_bytes (rows_t j.tasks 0) j.capacities (first_rows j.tasks 0)

-- AN IMAGE READ, "from the end of its slice; bytes ahead of row 0 aren't read"

abbrev pub byte_at : List ℕ → ℕ → ℕ
byte_at bs i = get_or bs i 0

abbrev pub two_of : ℕ → ℕ → ℕ
two_of low high = low + 256 * high

abbrev pub two_at : List ℕ → ℕ → ℕ
two_at bs i = two_of (byte_at bs i) (byte_at bs (i + 1))

-- The trailer, and what it says.
unfoldable pub trailer_of : List ℕ → List ℕ
trailer_of bs = drop (length bs - trailer_size) bs

unfoldable pub row_count : List ℕ → ℕ
row_count bs = two_at (trailer_of bs) 0

unfoldable pub channel_count : List ℕ → ℕ
channel_count bs = byte_at (trailer_of bs) 2

unfoldable pub task_count : List ℕ → ℕ
task_count bs = byte_at (trailer_of bs) 3

unfoldable pub distance : List ℕ → ℕ
distance bs = two_at (trailer_of bs) 4

unfoldable pub mark_of : List ℕ → ℕ
mark_of bs = byte_at (trailer_of bs) 6

unfoldable pub version_of : List ℕ → ℕ
version_of bs = byte_at (trailer_of bs) 7

-- The image from row 0 on.
unfoldable pub body_of : List ℕ → List ℕ
body_of bs = drop ((length bs - trailer_size) - distance bs) bs

abbrev pub fields_at : List ℕ → ℕ → Fields
fields_at rs i =
    fields (byte_at rs i) (byte_at rs (i + 1))
    (two_of (byte_at rs (i + 2)) (byte_at rs (i + 3)))
    (two_of (byte_at rs (i + 4)) (byte_at rs (i + 5)))
    (two_of (byte_at rs (i + 6)) (byte_at rs (i + 7)))

-- The fields of a row, where rs is the image from row 0 on; all 0 where the slice ends ahead of the row's end.
unfoldable pub fields_of_row : List ℕ → Row → Fields
fields_of_row rs r = cond (leb (row_size * r.0 + row_size) (length rs)) (fields_at rs (row_size * r.0)) (fields 0 0 0 0 0)

unfoldable pub rows_in : List ℕ → Rows
rows_in rs r = statement_of (fields_of_row rs r)

-- The capacity of channel c behind so many rows, and the first row of task t behind so many rows and channels.
unfoldable pub capacity_in : List ℕ → ℕ → Chan → ℕ
capacity_in rs rows c = byte_at rs (row_size * rows + c.0)

unfoldable pub first_row_in : List ℕ → ℕ → ℕ → Task → Row
first_row_in rs rows channels t = row_no (two_at rs (row_size * rows + channels + 2 * t.0))

-- f at n numbers from i on.
unfoldable pub tabulate : {A : Type 0} → (ℕ → A) → ℕ → ℕ → List A
tabulate f zero i = []
tabulate f (suc n) i = f i ∷ tabulate f n (suc i)

-- The rows of an image, its capacities and first rows, and a fresh start.
unfoldable pub rows_of : List ℕ → Rows
rows_of bs = rows_in (body_of bs)

unfoldable pub capacities_of : List ℕ → List ℕ
capacities_of bs = tabulate (λ c. capacity_in (body_of bs) (row_count bs) (chan_no c)) (channel_count bs) 0

unfoldable pub first_rows_of : List ℕ → List Row
first_rows_of bs = tabulate (λ t. first_row_in (body_of bs) (row_count bs) (channel_count bs) (task_no t)) (task_count bs) 0

unfoldable pub start_of : List ℕ → Machine Spot
start_of bs = image_start (capacities_of bs) (first_rows_of bs)
