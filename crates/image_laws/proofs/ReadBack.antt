-- The image of a proper job, read from its bytes behind any bytes: everything written is what is read.
use Rattle.std.specs.Prelude.{◌≡◌, ℕ, suc, ◌+◌, ◌-◌, ◌*◌, ◌/◌, ◌%◌, ◌≤◌, ◌<◌}
use Rattle.std.proofs.Math.Path.{refl, sym, ap}
use Rattle.std.proofs.Common.{ap₂, ◌∙◌, add-zero, ne_eqb, le-leb, length-drop, get_or-drop, drop-drop}
use mathlib.Core.List.{List, [], ◌∷◌, ◌++◌, append_assoc}
use native.Mathlib.Omega.{arith}
use Rattle.std.proofs.Math.ListN.{length, drop, length-append}
use Rattle.std.proofs.Math.Seq.{drop-append_seam, drop_at}
use Rattle.image_laws.specs.Kinds.{Row, Port, Nil, On, Send, Forward, Recv, Wait, Go, Statement, Do, Close, Range, Repeat, Ifok, Select, Case, Stop, Fields}
use Rattle.meaning.specs.Numbers.{row_limit, channel_limit}
use Rattle.meaning.specs.Events.{port_number}
use Rattle.meaning.specs.Text.{Job}
use Rattle.meaning.specs.Image.{row_no, Rows, chan_no, task_no}
use Rattle.meaning.specs.Layout.{rows_t, first_rows}
use Rattle.meaning.specs.Bytes.{fields_of, port_of, statement_of, row_size, trailer_size, image_mark, image_version, two, bytes_of, row_bytes, first_bytes, span_of, trailer, image_bytes, job_image, byte_at, two_of, two_at, trailer_of, row_count, channel_count, task_count, distance, mark_of, version_of, body_of, fields_at, fields_of_row, rows_in, capacity_in, first_row_in, tabulate, rows_of, capacities_of, first_rows_of}
use Rattle.image_row.specs.Row.{owed_after}
use Rattle.image_check.specs.Sound.{PortSound}
use Rattle.meaning_laws.specs.Lists.{All}
use Rattle.image_laws.specs.Proper.{Proper}
use Rattle.image_laws.proofs.Rows.{first_rows-length, Holds, list_rows, holds_self, Aim, StatementLawful, RowsLawful, laid_t, firsts_aim}

-- WHAT STANDS AT A PLACE, where the bytes from there on are known

byte_there : (rs : List ℕ) (at k : ℕ) (xs : List ℕ) → drop at rs ≡ xs → byte_at rs (at + k) ≡ byte_at xs k
byte_there rs at k xs e = sym (get_or-drop at rs k 0) ∙ ap (λ l. byte_at l k) e

first_there : (rs : List ℕ) (at : ℕ) (xs : List ℕ) → drop at rs ≡ xs → byte_at rs at ≡ byte_at xs 0
first_there rs at xs e = ap (byte_at rs) (sym (add-zero at)) ∙ byte_there rs at 0 xs e

-- n places further on
further : (rs : List ℕ) (at n to : ℕ) (front post : List ℕ) → length front ≡ n → to ≡ at + n → drop at rs ≡ front ++ post → drop to rs ≡ post
further rs at n to front post l z e = ap (λ k. drop k rs) z ∙ sym (drop-drop n at rs) ∙ ap (drop n) e ∙ drop_at front post n l

-- Two bytes hold the numbers below this.
abbrev word_end : ℕ
word_end = 65536

two_back : (n : ℕ) → n < word_end → two_of (n % 256) (n / 256 % 256) ≡ n
two_back n h = omega arith

-- A ROW

-- The fields of two bytes fit in them.
record Fit (f : Fields) : Type 0 where
  arg : f.arg < word_end
  next : f.next < word_end
  other : f.other < word_end

fields_there : (rs : List ℕ) (i : ℕ) (f : Fields) (post : List ℕ) → Fit f → drop (row_size * i) rs ≡ bytes_of f ++ post → fields_of_row rs (row_no i) ≡ f
unfolding fields_of_row
fields_there rs i f post fit e = rw (le-leb (row_size * i + row_size) (length rs) inside) same
  where
    inside : row_size * i + row_size ≤ length rs
    inside = let n : length rs - row_size * i ≡ length (bytes_of f ++ post) = sym (length-drop (row_size * i) rs) ∙ ap length e in omega arith

    byte : (k : ℕ) → byte_at rs (row_size * i + k) ≡ byte_at (bytes_of f ++ post) k
    byte k = byte_there rs (row_size * i) k (bytes_of f ++ post) e

    same : fields_at rs (row_size * i) ≡ f
    same = λ k. record {
      op = first_there rs (row_size * i) (bytes_of f ++ post) e k;
      chan = byte 1 k;
      arg = (ap₂ two_of (byte 2) (byte 3) ∙ two_back f.arg fit.arg) k;
      next = (ap₂ two_of (byte 4) (byte 5) ∙ two_back f.next fit.next) k;
      other = (ap₂ two_of (byte 6) (byte 7) ∙ two_back f.other fit.other) k;
    }

module _ (rows : Rows) (top channels : ℕ) (few : top ≤ row_limit) (declared : channels ≤ channel_limit) where
  -- No declared channel has the number of nil.
  port_back : (p : Port) → PortSound channels p → port_of (port_number p) ≡ p
  port_back Nil h = refl
  port_back (On c) h = rw (ne_eqb c.0 255 (λ e. omega arith))

  statement_back : (owed i : ℕ) (x : Statement) → StatementLawful rows top channels owed i x → statement_of (fields_of x) ≡ x
  unfolding statement_of fields_of
  statement_back owed i (Do (Send p v) n) h = rw (port_back p h.0.0)
  statement_back owed i (Do (Forward p) n) h = rw (port_back p h.0)
  statement_back owed i (Do (Recv p) n) h = rw (port_back p h.0)
  statement_back owed i (Close p n) h = rw (port_back p h.0)
  statement_back owed i (Range p n a) h = rw (port_back p h.0)
  statement_back owed i (Repeat d k n a) h = refl
  statement_back owed i (Ifok n a) h = refl
  statement_back owed i (Select k Wait) h = refl
  statement_back owed i (Select k (Go n)) h = refl
  statement_back owed i (Case (Send p v) n) h = rw (port_back p h.1.0)
  statement_back owed i (Case (Forward p) n) h = rw (port_back p h.1)
  statement_back owed i (Case (Recv p) n) h = rw (port_back p h.1)
  statement_back owed i Stop h = refl

  small : (n : ℕ) → n < top → n < word_end
  small n h = omega arith

  fit : (owed i : ℕ) (x : Statement) → StatementLawful rows top channels owed i x → Fit (fields_of x)
  unfolding fields_of
  fit owed i (Do (Send p v) n) h = record { arg = omega arith; next = small _ h.1.below; other = omega arith }
  fit owed i (Do (Forward p) n) h = record { arg = omega arith; next = small _ h.1.below; other = omega arith }
  fit owed i (Do (Recv p) n) h = record { arg = omega arith; next = small _ h.1.below; other = omega arith }
  fit owed i (Close p n) h = record { arg = omega arith; next = small _ h.1.below; other = omega arith }
  fit owed i (Range p n a) h = record { arg = omega arith; next = small _ h.1.below; other = small _ h.2.below }
  fit owed i (Repeat d k n a) h = record { arg = omega arith; next = small _ h.2.below; other = small _ h.3.below }
  fit owed i (Ifok n a) h = record { arg = omega arith; next = small _ h.0.below; other = small _ h.1.below }
  fit owed i (Select k Wait) h = record { arg = omega arith; next = omega arith; other = omega arith }
  fit owed i (Select k (Go n)) h = record { arg = omega arith; next = small _ h.1.below; other = omega arith }
  fit owed i (Case (Send p v) n) h = record { arg = omega arith; next = small _ h.2.below; other = omega arith }
  fit owed i (Case (Forward p) n) h = record { arg = omega arith; next = small _ h.2.below; other = omega arith }
  fit owed i (Case (Recv p) n) h = record { arg = omega arith; next = small _ h.2.below; other = omega arith }
  fit owed i Stop h = record { arg = omega arith; next = omega arith; other = omega arith }

-- THE ROWS of the image rs, from row i on

-- The fields read are those written, and they read as the statement.
abbrev pub Written : List ℕ → ℕ → List Statement → Type 0
Written rs i [] = Unit {0}
Written rs i (x ∷ xs) = (fields_of_row rs (row_no i) ≡ fields_of x) × (statement_of (fields_of x) ≡ x) × Written rs (suc i) xs

pub written_holds : (rs : List ℕ) (i : ℕ) (xs : List Statement) → Written rs i xs → Holds (rows_in rs) i xs
unfolding rows_in
written_holds rs i [] w = tt
written_holds rs i (x ∷ xs) w = (ap statement_of w.0 ∙ w.1, written_holds rs (suc i) xs w.2)

rows_there : (rows : Rows) (top channels : ℕ) → top ≤ row_limit → channels ≤ channel_limit → (rs : List ℕ) (owed i : ℕ) (xs : List Statement) (post : List ℕ)
    → RowsLawful rows top channels owed i xs → drop (row_size * i) rs ≡ row_bytes xs ++ post → Written rs i xs
unfolding row_bytes
rows_there rows top channels few declared rs owed i [] post h e = tt
rows_there rows top channels few declared rs owed i (x ∷ xs) post h e =
    let behind = further rs (row_size * i) row_size (row_size * suc i) (bytes_of (fields_of x)) (row_bytes xs ++ post) refl (omega arith) e in (
      fields_there rs i (fields_of x) (row_bytes xs ++ post) (fit rows top channels few declared owed i x h.0) e,
      statement_back rows top channels few declared owed i x h.0,
      rows_there rows top channels few declared rs (owed_after owed x) (suc i) xs post h.1 behind,
    )

-- CAPACITIES AND FIRST ROWS, from number i on behind a place of the image rs

capacities_there : (rs : List ℕ) (rows i : ℕ) (xs post : List ℕ) → drop (row_size * rows + i) rs ≡ xs ++ post → tabulate (λ c. capacity_in rs rows (chan_no c)) (length xs) i ≡ xs
unfolding tabulate capacity_in
capacities_there rs rows i [] post e = refl
capacities_there rs rows i (x ∷ xs) post e =
    ap₂ ◌∷◌ (first_there rs (row_size * rows + i) (x ∷ xs ++ post) e)
    (capacities_there rs rows (suc i) xs post (further rs (row_size * rows + i) 1 (row_size * rows + suc i) (x ∷ []) (xs ++ post) refl (omega arith) e))

firsts_there : (rs : List ℕ) (rows channels i : ℕ) (xs : List Row) (post : List ℕ) → All (λ r. r.0 < word_end) xs → drop (row_size * rows + channels + 2 * i) rs ≡ first_bytes xs ++ post
    → tabulate (λ t. first_row_in rs rows channels (task_no t)) (length xs) i ≡ xs
unfolding tabulate first_row_in first_bytes
firsts_there rs rows channels i [] post h e = refl
firsts_there rs rows channels i (x ∷ xs) post h e =
    let at = row_size * rows + channels + 2 * i in
    let these = two x.0 ++ (first_bytes xs ++ post) in
    ap₂ ◌∷◌ (ap row_no (ap₂ two_of (first_there rs at these e) (byte_there rs at 1 these e) ∙ two_back x.0 h.0))
    (firsts_there rs rows channels (suc i) xs post h.1 (further rs at 2 (row_size * rows + channels + 2 * suc i) (two x.0) (first_bytes xs ++ post) refl (omega arith) e))

pub row_bytes-length : (xs : List Statement) → length (row_bytes xs) ≡ row_size * length xs
unfolding row_bytes
row_bytes-length [] = refl
row_bytes-length (x ∷ xs) = omega (arith, row_bytes-length xs)

pub first_bytes-length : (xs : List Row) → length (first_bytes xs) ≡ 2 * length xs
unfolding first_bytes
first_bytes-length [] = refl
first_bytes-length (x ∷ xs) = omega (arith, first_bytes-length xs)

-- THE IMAGE OF A JOB

module _ (j : Job) where
  abbrev rows : List Statement
  rows = rows_t j.tasks 0

  abbrev firsts : List Row
  firsts = first_rows j.tasks 0

  -- The image ahead of its trailer, and the trailer.
  abbrev ahead : List ℕ
  ahead = row_bytes rows ++ (j.capacities ++ first_bytes firsts)

  abbrev end : List ℕ
  end = trailer (length rows) (length j.capacities) (length firsts)

  abbrev span : ℕ
  span = span_of (length rows) (length j.capacities) (length j.tasks)

  ahead-length : length ahead ≡ span
  ahead-length = simp length-append (omega (arith, row_bytes-length rows, first_bytes-length firsts, first_rows-length j.tasks 0))

  pub image-length : length (job_image j) ≡ span_of (length (rows_t j.tasks 0)) (length j.capacities) (length j.tasks) + trailer_size
  unfolding job_image image_bytes
  image-length = length-append ahead end ∙ ap (◌+ trailer_size) ahead-length

  rows_at : job_image j ≡ row_bytes rows ++ ((j.capacities ++ first_bytes firsts) ++ end)
  unfolding job_image image_bytes
  rows_at = append_assoc (row_bytes rows) (j.capacities ++ first_bytes firsts) end

  capacities_at : drop (row_size * length rows) (job_image j) ≡ j.capacities ++ (first_bytes firsts ++ end)
  capacities_at = ap (drop (row_size * length rows)) rows_at ∙ drop_at (row_bytes rows) _ _ (row_bytes-length rows) ∙ append_assoc j.capacities (first_bytes firsts) end

  firsts_at : drop (row_size * length rows + length j.capacities) (job_image j) ≡ first_bytes firsts ++ end
  firsts_at = further (job_image j) (row_size * length rows) (length j.capacities) _ j.capacities (first_bytes firsts ++ end) refl refl capacities_at

  pub capacities_tabulated : tabulate (λ c. capacity_in (job_image j) (length (rows_t j.tasks 0)) (chan_no c)) (length j.capacities) 0 ≡ j.capacities
  capacities_tabulated = capacities_there (job_image j) (length rows) 0 j.capacities (first_bytes firsts ++ end) (rw add-zero capacities_at)

  module _ (p : Proper j) where
    pub written : Written (job_image j) 0 (rows_t j.tasks 0)
    written =
        let channels = length j.capacities in
        let laid = laid_t (list_rows rows) (length rows) channels j.tasks 0 p.bodies (omega arith) (holds_self rows) 0 in
        rows_there (list_rows rows) (length rows) channels p.most_rows p.most_channels (job_image j) 0 0 rows ((j.capacities ++ first_bytes firsts) ++ end) laid rows_at

    firsts_fit : All (λ r. r.0 < word_end) firsts
    firsts_fit = fits firsts (firsts_aim (list_rows rows) (length rows) (length j.capacities) j.tasks 0 (omega arith) (holds_self rows))
      where
        fits : (rs : List Row) → All (Aim (list_rows rows) (length rows) (length j.capacities)) rs → All (λ r. r.0 < word_end) rs
        fits [] a = tt
        fits (r ∷ rs) a = (omega (arith, a.0.below, p.most_rows), fits rs a.1)

    pub firsts_tabulated : tabulate (λ t. first_row_in (job_image j) (length (rows_t j.tasks 0)) (length j.capacities) (task_no t)) (length j.tasks) 0 ≡ first_rows j.tasks 0
    firsts_tabulated = rw (← first_rows-length j.tasks 0) (firsts_there (job_image j) (length rows) (length j.capacities) 0 firsts end firsts_fit (rw add-zero firsts_at))

-- Read behind any bytes.
module _ (pre : List ℕ) (j : Job) where
  trailer_place : length (pre ++ job_image j) - trailer_size ≡ length pre + span j
  trailer_place = simp length-append (omega (arith, image-length j))

  trailer_back : trailer_of (pre ++ job_image j) ≡ end j
  unfolding trailer_of job_image image_bytes
  trailer_back =
      let e : length (pre ++ ahead j) ≡ length (pre ++ (ahead j ++ end j)) - trailer_size = length-append pre (ahead j) ∙ ap (length pre +◌) (ahead-length j) ∙ sym trailer_place in
      ap (drop (length (pre ++ (ahead j ++ end j)) - trailer_size)) (sym (append_assoc pre (ahead j) (end j))) ∙ drop_at (pre ++ ahead j) (end j) _ e

  pub channel_count_back : channel_count (pre ++ job_image j) ≡ length j.capacities
  unfolding channel_count
  channel_count_back = ap (λ t. byte_at t 2) trailer_back

  pub task_count_back : task_count (pre ++ job_image j) ≡ length j.tasks
  unfolding task_count
  task_count_back = ap (λ t. byte_at t 3) trailer_back ∙ first_rows-length j.tasks 0

  pub mark_of_back : mark_of (pre ++ job_image j) ≡ image_mark
  unfolding mark_of
  mark_of_back = ap (λ t. byte_at t 6) trailer_back

  pub version_of_back : version_of (pre ++ job_image j) ≡ image_version
  unfolding version_of
  version_of_back = ap (λ t. byte_at t 7) trailer_back

  module _ (p : Proper j) where
    pub row_count_back : row_count (pre ++ job_image j) ≡ length (rows_t j.tasks 0)
    unfolding row_count
    row_count_back = ap (λ t. two_at t 0) trailer_back ∙ two_back (length (rows j)) (omega (arith, p.most_rows))

    pub distance_back : distance (pre ++ job_image j) ≡ span_of (length (rows_t j.tasks 0)) (length j.capacities) (length j.tasks)
    unfolding distance
    distance_back =
        let n = first_rows-length j.tasks 0 in
        let z : span_of (length (rows j)) (length j.capacities) (length (firsts j)) ≡ span j = omega arith in
        ap (λ t. two_at t 4) trailer_back ∙ two_back _ (omega (arith, p.most_rows, p.most_channels, p.most_tasks)) ∙ z

    pub body_of_back : body_of (pre ++ job_image j) ≡ job_image j
    unfolding body_of
    body_of_back =
        let z : (length (pre ++ job_image j) - trailer_size) - distance (pre ++ job_image j) ≡ length pre = omega (arith, trailer_place, distance_back) in
        ap (λ n. drop n (pre ++ job_image j)) z ∙ drop-append_seam pre (job_image j)

    pub capacities_of_back : capacities_of (pre ++ job_image j) ≡ j.capacities
    unfolding capacities_of
    capacities_of_back = rw (body_of_back, row_count_back, channel_count_back) (capacities_tabulated j)

    pub first_rows_of_back : first_rows_of (pre ++ job_image j) ≡ first_rows j.tasks 0
    unfolding first_rows_of
    first_rows_of_back = rw (body_of_back, row_count_back, channel_count_back, task_count_back) (firsts_tabulated j p)

    pub rows_of_back : Holds (rows_of (pre ++ job_image j)) 0 (rows_t j.tasks 0)
    unfolding rows_of
    rows_of_back = rw body_of_back (written_holds (job_image j) 0 (rows j) (written j p))
