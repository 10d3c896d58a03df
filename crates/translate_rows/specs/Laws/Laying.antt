-- Statements, bodies and cases that notes hold, one lap of each walk over them, and the rows that are put for them. Assumes nothing.
use Rattle.std.specs.Prelude.{◌≡◌, List, [], ◌∷◌, ◌++◌, length}
use Rattle.std.proofs.Math.Path.{refl, sym, ap, subst}
use Rattle.std.proofs.Common.{◌∙◌, ne_eqb, lt-ltb}
use Prim.Native.Nat.{ℕ, suc, ◌+◌, ◌-◌, ◌*◌, ◌/◌, ◌%◌, ◌≤◌, ◌<◌}
use native.Mathlib.Omega.{arith}
use Rattle.std.proofs.Math.ListN.{get_or}
use Rattle.translate_rows.specs.Kinds.{Fields, Op, Send, Forward, Recv, Statement, Do, Close, Range, Repeat, Ifok, Select, Case, Stop}
use Rattle.meaning.specs.Numbers.{row_limit}
use Rattle.meaning.specs.Text.{Stmt, operate, close, stop, range, repeat, ifok, select, Body, empty, ◌▸◌, Cases, nomore, default, case}
use Rattle.meaning.specs.Image.{row_no}
use Rattle.meaning.specs.Layout.{case_count, size_s, size_b, size_c, entry, case_rows, default_row, rows_s, rows_b, rows_c}
use Rattle.meaning.specs.Bytes.{fields_of}
use Rattle.image_rows.specs.Rows.{fields_put, row_put}
use Rattle.image_laws.proofs.Rows.{case_rows_length, rows_s_length, rows_b_length, positive}
use Rattle.translate_notes.specs.Notes.{op_code, op_port, op_arg, last_arg, op_s, chan_s, arg_s, inside_s, notes_s, notes_b, notes_c}
use Rattle.translate_fields.specs.Rows.{first_of, leads_to, select_fields, row_fields, note_fields, case_fields}
use Rattle.translate_notes.specs.Laws.Notes.{inside_length, notes_b_length}
use Rattle.translate_rows.specs.RowsPut.{rows_put}
use Rattle.translate_rows.specs.Stored.{Held, StmtHeld, BodyHeld, CasesHeld, StmtThere, BodyThere, BodiesThere, CasesThere}
use Rattle.translate_rows.specs.Laws.Held.{held_left, held_right, Three, three}
use Rattle.translate_rows.specs.Laws.RowsPut.{rows_put-append, rows_put_cons, rows_put_nil}

-- A NOTE AND ITS ROW

pub put_as : (out : List ℕ) (i : ℕ) (x : Statement) {f : Fields} → f ≡ fields_of x → fields_put out (row_no i) f ≡ row_put out (row_no i) x
unfolding row_put
put_as out i x e = rw e

-- The row that a field names for a body, by the body's size.
first_is : (b : Body) (i j : ℕ) {n k : ℕ} → n ≡ size_b b → k ≡ i → first_of n k j ≡ (entry b i j).0
unfolding entry first_of size_b
first_is empty i j e f = rw e
first_is (s ▸ b) i j e f = let p = positive s in let t = lt-ltb 0 (size_s s + size_b b) (omega arith) in rw (e, f, t)

-- The default of a select by its note.
default_is : (cs : Cases) (k i size a j : ℕ) → i + size ≡ a + size_c cs
    → select_fields i k (last_arg cs) size j ≡ fields_of (Select k (default_row cs a j))
unfolding select_fields last_arg default_row fields_of size_c
default_is nomore k i size a j q = refl
default_is (default b) k i size a j q =
    let e = first_is b a j {n = suc (size_b b) - 1} {k = i + size - (suc (size_b b) - 1)} (omega arith) (omega arith) in
    rw (ne_eqb (suc (size_b b)) 0 (omega arith), e)
default_is (case o b cs) k i size a j q = default_is cs k i size (a + size_b b) j (omega arith)

-- The row of a statement, and those inside it.
unfoldable pub row_of : Stmt → ℕ → ℕ → ℕ → Statement
row_of (operate o) d i j = Do o (row_no j)
row_of (close p) d i j = Close p (row_no j)
row_of stop d i j = Stop
row_of (range p b) d i j = Range p (entry b (suc i) i) (row_no j)
row_of (repeat n b) d i j = Repeat d n (entry b (suc i) i) (row_no j)
row_of (ifok b c) d i j = Ifok (entry b (suc i) j) (entry c (suc i + size_b b) j)
row_of (select cs) d i j = Select (case_count cs) (default_row cs (suc i + case_count cs) j)

unfoldable pub inner_rows : Stmt → ℕ → ℕ → ℕ → List Statement
inner_rows (operate o) d i j = []
inner_rows (close p) d i j = []
inner_rows stop d i j = []
inner_rows (range p b) d i j = rows_b b (suc d) (suc i) i
inner_rows (repeat n b) d i j = rows_b b (suc d) (suc i) i
inner_rows (ifok b c) d i j = rows_b b (suc d) (suc i) j ++ rows_b c (suc d) (suc i + size_b b) j
inner_rows (select cs) d i j = case_rows cs (suc i + case_count cs) j ++ rows_c cs (suc d) (suc i + case_count cs) j

rows_of_lem : (x : Stmt) (d i j : ℕ) → rows_s x d i j ≡ row_of x d i j ∷ inner_rows x d i j
unfolding rows_s row_of inner_rows
rows_of_lem (operate o) d i j = refl
rows_of_lem (close p) d i j = refl
rows_of_lem stop d i j = refl
rows_of_lem (range p b) d i j = refl
rows_of_lem (repeat n b) d i j = refl
rows_of_lem (ifok b c) d i j = refl
rows_of_lem (select cs) d i j = refl

fields_of_lem : (x : Stmt) (d i j : ℕ) → row_fields i (op_s x) (chan_s x d) (arg_s x) (size_s x) j ≡ fields_of (row_of x d i j)
unfolding row_fields op_s chan_s arg_s size_s op_code op_port op_arg row_of fields_of
fields_of_lem (operate (Send p v)) d i j = refl
fields_of_lem (operate (Forward p)) d i j = refl
fields_of_lem (operate (Recv p)) d i j = refl
fields_of_lem (close p) d i j = refl
fields_of_lem stop d i j = refl
fields_of_lem (range p b) d i j = rw (first_is b (suc i) i {n = suc (size_b b) - 1} {k = i + 1} (omega arith) (omega arith))
fields_of_lem (repeat n b) d i j = rw (first_is b (suc i) i {n = suc (size_b b) - 1} {k = i + 1} (omega arith) (omega arith))
fields_of_lem (ifok b c) d i j =
    let p = first_is b (suc i) j {n = size_b b} {k = i + 1} refl (omega arith) in
    let q = first_is c (suc i + size_b b) j {n = suc (size_b b + size_b c) - 1 - size_b b} {k = i + 1 + size_b b} (omega arith) (omega arith) in
    rw (p, q)
fields_of_lem (select cs) d i j = default_is cs (case_count cs) i (suc (case_count cs + size_c cs)) (suc i + case_count cs) j (omega arith)

case_fields_lem : (o : Op) (b : Body) (i j head : ℕ) {arg n : ℕ} → head % 256 ≡ 8 + op_code o → head / 256 ≡ op_port o → arg ≡ op_arg o → n ≡ suc (size_b b)
    → case_fields head arg n i j ≡ fields_of (Case o (entry b i j))
unfolding case_fields op_code op_port op_arg fields_of
case_fields_lem (Send p v) b i j head {n = n} e f g h = rw (e, f, g, first_is b i j {n = n - 1} {k = i} (omega arith) refl)
case_fields_lem (Forward p) b i j head {n = n} e f g h = rw (e, f, g, first_is b i j {n = n - 1} {k = i} (omega arith) refl)
case_fields_lem (Recv p) b i j head {n = n} e f g h = rw (e, f, g, first_is b i j {n = n - 1} {k = i} (omega arith) refl)

-- The two parts of a note's first number.
code_small : (o : Op) → op_code o ≤ 3
unfolding op_code
code_small (Send p v) = omega arith
code_small (Forward p) = omega arith
code_small (Recv p) = omega arith

op_small : (x : Stmt) → op_s x ≤ 12
unfolding op_s
op_small (operate o) = let q = code_small o in omega arith
op_small (close p) = omega arith
op_small stop = omega arith
op_small (range p b) = omega arith
op_small (repeat n b) = omega arith
op_small (ifok b c) = omega arith
op_small (select cs) = omega arith

low : (h a c : ℕ) → h ≡ a + 256 * c → a < 256 → h % 256 ≡ a
low h a c e l = omega arith

high : (h a c : ℕ) → h ≡ a + 256 * c → a < 256 → h / 256 ≡ c
high h a c e l = omega arith

-- Rows put behind k others.
rows_put_join : (xs ys : List Statement) (out : List ℕ) (i : ℕ) {k : ℕ} → length xs ≡ k → rows_put (rows_put out i xs) (i + k) ys ≡ rows_put out i (xs ++ ys)
rows_put_join xs ys out i e = rw (← e) (sym (rows_put-append xs ys out i))

-- CASES

module _ (ns : List ℕ) where
  -- The first of several cases noted at row r, and the rest.
  pub record CaseLap (cs : Cases) (d r left : ℕ) : Type 0 where
    pub op : Op
    pub one : Body
    pub rest : Cases
    pub whole : cs ≡ case op one rest
    pub low_is : get_or ns (3 * r) 0 % 256 ≡ 8 + op_code op
    pub high_is : get_or ns (3 * r) 0 / 256 ≡ op_port op
    pub arg_is : get_or ns (3 * r + 1) 0 ≡ op_arg op
    pub n_is : get_or ns (3 * r + 2) 0 ≡ suc (size_b one)
    pub body_is : Held ns (3 * (r + 1)) (notes_b one d)
    pub rest_is : Held ns (3 * (r + get_or ns (3 * r + 2) 0)) (notes_c rest d)
    pub count : left ≡ suc (case_count rest)
    pub size : size_c cs ≡ size_b one + size_c rest
    pub counts : case_count cs ≡ suc (case_count rest)

  pub case_lap : (cs : Cases) (d r left : ℕ) → CasesHeld ns cs d r left → 0 < left → CaseLap cs d r left
  unfolding notes_c case_count size_c
  case_lap nomore d r left h l = let q = h.1 in absurd (omega arith)
  case_lap (default b) d r left h l = let q = h.1 in absurd (omega arith)
  case_lap (case o b cs) d r left h l =
      let t = three ns r (8 + op_code o + 256 * op_port o) (op_arg o) (suc (size_b b)) (notes_b b d ++ notes_c cs d) h.0 in
      let q = code_small o in
      let n = t.size in
      let m = notes_b_length b d in
      record {
        op = o;
        one = b;
        rest = cs;
        whole = refl;
        low_is = low (get_or ns (3 * r) 0) (8 + op_code o) (op_port o) t.head (omega arith);
        high_is = high (get_or ns (3 * r) 0) (8 + op_code o) (op_port o) t.head (omega arith);
        arg_is = t.arg;
        n_is = n;
        body_is = held_left ns (3 * (r + 1)) (notes_b b d) (notes_c cs d) t.behind;
        rest_is = held_right ns (3 * (r + 1)) (3 * (r + get_or ns (3 * r + 2) 0)) (notes_b b d) (notes_c cs d) (omega arith) t.behind;
        count = h.1;
        size = refl;
        counts = refl;
      }

  module _ {cs : Cases} {d r left : ℕ} (t : CaseLap cs d r left) where
    -- A case row is put: what is left is those of the other cases.
    pub cases_next : (out : List ℕ) (line i j : ℕ) {new all : List ℕ}
        → new ≡ fields_put out (row_no line) (case_fields (get_or ns (3 * r) 0) (get_or ns (3 * r + 1) 0) (get_or ns (3 * r + 2) 0) i j)
        → rows_put out line (case_rows cs i j) ≡ all → rows_put new (line + 1) (case_rows t.rest (i + (get_or ns (3 * r + 2) 0 - 1)) j) ≡ all
    unfolding case_rows
    cases_next out line i j e a =
        let n = t.n_is in
        let q : get_or ns (3 * r + 2) 0 - 1 ≡ size_b t.one = omega arith in
        let p : line + 1 ≡ suc line = omega arith in
        let x = Case t.op (entry t.one i j) in
        let f = e ∙ put_as out line x (case_fields_lem t.op t.one i j (get_or ns (3 * r) 0) t.low_is t.high_is t.arg_is n) in
        let w = ap (λ (c : Cases). rows_put out line (case_rows c i j)) (sym t.whole) in
        rw (f, q, p) (rows_put_cons x (case_rows t.rest (i + size_b t.one) j) out line ∙ w ∙ a)

    -- The rows of a case's body are put: what is left is those of the other cases.
    pub bodies_next : (out : List ℕ) (i j : ℕ) {new all : List ℕ} → new ≡ rows_put out i (rows_b t.one d i j) → rows_put out i (rows_c cs d i j) ≡ all
        → rows_put new (i + (get_or ns (3 * r + 2) 0 - 1)) (rows_c t.rest d (i + (get_or ns (3 * r + 2) 0 - 1)) j) ≡ all
    unfolding rows_c
    bodies_next out i j e a =
        let n = t.n_is in
        let q : get_or ns (3 * r + 2) 0 - 1 ≡ size_b t.one = omega arith in
        let xs = rows_b t.one d i j in
        let ys = rows_c t.rest d (i + size_b t.one) j in
        let w = ap (λ (c : Cases). rows_put out i (rows_c c d i j)) (sym t.whole) in
        rw (e, q) (rows_put_join xs ys out i (rows_b_length t.one d i j) ∙ w ∙ a)

  pub cases_done : (cs : Cases) (d r left : ℕ) → CasesHeld ns cs d r left → left ≤ 0
      → (out : List ℕ) (line i j : ℕ) {all : List ℕ} → rows_put out line (case_rows cs i j) ≡ all → out ≡ all
  unfolding case_rows case_count
  cases_done nomore d r left h l out line i j a = sym (rows_put_nil out line) ∙ a
  cases_done (default b) d r left h l out line i j a = sym (rows_put_nil out line) ∙ a
  cases_done (case o b cs) d r left h l out line i j a = let q = h.1 in absurd (omega arith)

  -- Behind the cases: the body of the default, or an empty one.
  pub record Last (cs : Cases) (d r e : ℕ) : Type 0 where
    pub body : Body
    pub held : BodyHeld ns body d r e
    pub size : size_c cs ≡ size_b body
    pub rows : (i j : ℕ) → rows_c cs d i j ≡ rows_b body d i j

  pub last_of : (cs : Cases) (d r left e : ℕ) → CasesHeld ns cs d r left → e ≡ r + case_count cs + size_c cs → left ≤ 0 → Last cs d r e
  unfolding notes_c case_count size_c rows_c
  last_of nomore d r left e h q l = record { body = empty; held = (tt, omega arith); size = refl; rows = λ i j. refl }
  last_of (default b) d r left e h q l = record { body = b; held = (h.0, omega arith); size = refl; rows = λ i j. refl }
  last_of (case o b cs) d r left e h q l = let k = h.1 in absurd (omega arith)

  pub last_stored : {cs : Cases} {d r e : ℕ} (w : Last cs d r e) (out : List ℕ) (i j : ℕ) {new all : List ℕ}
      → new ≡ rows_put out i (rows_b w.body d i j) → rows_put out i (rows_c cs d i j) ≡ all → new ≡ all
  last_stored w out i j e a = e ∙ ap (rows_put out i) (sym (w.rows i j)) ∙ a

  -- What a lap over cases needs of the limits: n, the rows of the first one, noted from row r on and ahead of row e.
  pub record Room (r n e i : ℕ) : Type 0 where
    pub some : 1 ≤ n
    pub within : r + n ≤ e
    pub limit : e ≤ row_limit
    pub stands : i + n ≤ suc row_limit

  pub cases_room : (r left line i : ℕ) → CasesThere ns r left line i → 0 < left → Room r (get_or ns (3 * r + 2) 0) row_limit i × (line < row_limit)
  cases_room r left line i y l =
      let w = case_lap y.0 y.1 r left y.2 l in
      let n = w.n_is in
      let p = w.counts in
      let q = w.size in
      (record { some = omega arith; within = omega arith; limit = omega arith; stands = omega arith }, omega arith)

  pub bodies_room : (r left e i : ℕ) → BodiesThere ns r left e i → 0 < left → Room r (get_or ns (3 * r + 2) 0) e i
  bodies_room r left e i y l =
      let w = case_lap y.0 y.1 r left y.2 l in
      let n = w.n_is in
      let p = w.counts in
      let q = w.size in
      record { some = omega arith; within = omega arith; limit = omega arith; stands = omega arith }

  -- BODIES

  -- The first statement of a body noted from row r to row e, and the rest.
  pub record BodyLap (b : Body) (d r e : ℕ) : Type 0 where
    pub one : Stmt
    pub rest : Body
    pub whole : b ≡ one ▸ rest
    pub stmt_is : StmtHeld ns one d r (get_or ns (3 * r + 2) 0)
    pub rest_is : BodyHeld ns rest d (r + get_or ns (3 * r + 2) 0) e
    pub size : size_b b ≡ get_or ns (3 * r + 2) 0 + size_b rest
    pub some : 1 ≤ get_or ns (3 * r + 2) 0

  pub body_lap : (b : Body) (d r e : ℕ) → BodyHeld ns b d r e → r < e → BodyLap b d r e
  unfolding notes_b size_b
  body_lap empty d r e h l = let q = h.1 in absurd (omega arith)
  body_lap (s ▸ b) d r e h l =
      let g = held_left ns (3 * r) (notes_s s d) (notes_b b d) h.0 in
      let t = three ns r (op_s s + 256 * chan_s s d) (arg_s s) (size_s s) (inside_s s d) g in
      let n = t.size in
      let m = inside_length s d in
      let p = positive s in
      let q = h.1 in
      record {
        one = s;
        rest = b;
        whole = refl;
        stmt_is = (g, n);
        rest_is = (held_right ns (3 * r) (3 * (r + get_or ns (3 * r + 2) 0)) (notes_s s d) (notes_b b d) (omega arith) h.0, omega arith);
        size = omega arith;
        some = omega arith;
      }

  pub body_next : {b : Body} {d r e : ℕ} (t : BodyLap b d r e) (out : List ℕ) (i j : ℕ) {after : ℕ} {new all : List ℕ}
      → after ≡ first_of (e - (r + get_or ns (3 * r + 2) 0)) (i + get_or ns (3 * r + 2) 0) j
      → new ≡ rows_put out i (rows_s t.one d i after) → rows_put out i (rows_b b d i j) ≡ all
      → rows_put new (i + get_or ns (3 * r + 2) 0) (rows_b t.rest d (i + get_or ns (3 * r + 2) 0) j) ≡ all
  unfolding rows_b
  body_next {d = d} {r = r} {e = e} t out i j f h a =
      let n = t.stmt_is.1 in
      let m = t.rest_is.1 in
      let z = (entry t.rest (i + size_s t.one) j).0 in
      let g = f ∙ first_is t.rest (i + size_s t.one) j (omega arith) (ap (i +◌) n) in
      let xs = rows_s t.one d i z in
      let ys = rows_b t.rest d (i + size_s t.one) j in
      let w = ap (λ (c : Body). rows_put out i (rows_b c d i j)) (sym t.whole) in
      rw (h, g, n) (rows_put_join xs ys out i (rows_s_length t.one d i z) ∙ w ∙ a)

  pub body_done : (b : Body) (d r e : ℕ) → BodyHeld ns b d r e → e ≤ r
      → (out : List ℕ) (i j : ℕ) {all : List ℕ} → rows_put out i (rows_b b d i j) ≡ all → out ≡ all
  unfolding rows_b size_b
  body_done empty d r e h l out i j a = sym (rows_put_nil out i) ∙ a
  body_done (s ▸ b) d r e h l out i j a = let p = positive s in let q = h.1 in absurd (omega arith)

  pub body_room : (r e i : ℕ) → BodyThere ns r e i → r < e → Room r (get_or ns (3 * r + 2) 0) e i
  body_room r e i y l =
      let w = body_lap y.0 y.1 r e y.2 l in
      let n = w.some in
      let p = w.rest_is.1 in
      let q = w.size in
      record { some = omega arith; within = omega arith; limit = omega arith; stands = omega arith }

-- STATEMENTS

-- Which statement a note's numbers tell: a loop, an ifok or a select, where it is of more than one row.
record Loop (x : Stmt) (d : ℕ) : Type 0 where
  body : Body
  inside : inside_s x d ≡ notes_b body (suc d)
  size : size_s x ≡ suc (size_b body)
  rows : (head i j : ℕ) → head % 256 ≡ op_s x → inner_rows x d i j ≡ rows_b body (suc d) (suc i) (leads_to head i j)

is_loop : (x : Stmt) (d : ℕ) → 1 < size_s x → op_s x < 7 → Loop x d
unfolding op_s inside_s size_s inner_rows leads_to
is_loop (operate o) d l m = absurd (omega arith)
is_loop (close p) d l m = absurd (omega arith)
is_loop stop d l m = absurd (omega arith)
is_loop (range p b) d l m = record { body = b; inside = refl; size = refl; rows = λ head i j e. rw e }
is_loop (repeat n b) d l m = record { body = b; inside = refl; size = refl; rows = λ head i j e. rw e }
is_loop (ifok b c) d l m = absurd (omega arith)
is_loop (select cs) d l m = absurd (omega arith)

is_ifok : (x : Stmt) → op_s x ≡ 7 → (b : Body) × (c : Body) × (x ≡ ifok b c)
unfolding op_s
is_ifok (operate o) e = let q = code_small o in absurd (omega arith)
is_ifok (close p) e = absurd (omega arith)
is_ifok stop e = absurd (omega arith)
is_ifok (range p b) e = absurd (omega arith)
is_ifok (repeat n b) e = absurd (omega arith)
is_ifok (ifok b c) e = (b, c, refl)
is_ifok (select cs) e = absurd (omega arith)

is_select : (x : Stmt) → 1 < size_s x → 7 ≤ op_s x → (op_s x ≡ 7 → ⊥) → (cs : Cases) × (x ≡ select cs)
unfolding op_s size_s
is_select (operate o) l m e = absurd (omega arith)
is_select (close p) l m e = absurd (omega arith)
is_select stop l m e = absurd (omega arith)
is_select (range p b) l m e = absurd (omega arith)
is_select (repeat n b) l m e = absurd (omega arith)
is_select (ifok b c) l m e = absurd (e refl)
is_select (select cs) l m e = (cs, refl)

-- The end of what is inside an ifok or a select leads to what follows.
leads_past : (head i j : ℕ) → 7 ≤ head % 256 → leads_to head i j ≡ j
unfolding leads_to
leads_past head i j l = rw (ne_eqb (head % 256) 5 (omega arith), ne_eqb (head % 256) 6 (omega arith))

none_of : (xs : List Statement) → length xs ≡ 0 → xs ≡ []
none_of [] e = refl
none_of (x ∷ xs) e = absurd (omega arith)

-- A statement of n rows noted at row r, by the numbers that the code has read.
module _ (ns : List ℕ) (x : Stmt) (d r n : ℕ) (h : StmtHeld ns x d r n) where
  read : Three ns r (op_s x + 256 * chan_s x d) (arg_s x) (size_s x) (inside_s x d)
  read = three ns r (op_s x + 256 * chan_s x d) (arg_s x) (size_s x) (inside_s x d) h.0

  op_is : get_or ns (3 * r) 0 % 256 ≡ op_s x
  op_is = let q = op_small x in low (get_or ns (3 * r) 0) (op_s x) (chan_s x d) read.head (omega arith)

  chan_is : get_or ns (3 * r) 0 / 256 ≡ chan_s x d
  chan_is = let q = op_small x in high (get_or ns (3 * r) 0) (op_s x) (chan_s x d) read.head (omega arith)

  pub some_rows : 1 ≤ n
  some_rows = let p = positive x in let q = h.1 in omega arith

  -- Its row is put, by the numbers of its note.
  abbrev RowPut : List ℕ → ℕ → ℕ → List ℕ → Type 0
  RowPut out i j one = one ≡ fields_put out (row_no i) (note_fields i (get_or ns (3 * r) 0) (get_or ns (3 * r + 1) 0) n j)

  -- Then those inside it are put.
  stmt_stored : (out : List ℕ) (i j : ℕ) {one new : List ℕ} → RowPut out i j one
      → new ≡ rows_put one (suc i) (inner_rows x d i j) → new ≡ rows_put out i (rows_s x d i j)
  stmt_stored out i j e f =
      let y = row_of x d i j in
      let ys = inner_rows x d i j in
      let g : note_fields i (get_or ns (3 * r) 0) (get_or ns (3 * r + 1) 0) n j ≡ fields_of y = rw (op_is, chan_is, read.arg, h.1) (fields_of_lem x d i j) in
      let p = ap (λ (z : List ℕ). rows_put z (suc i) ys) (e ∙ put_as out i y g) in
      f ∙ p ∙ rows_put_cons y ys out i ∙ ap (rows_put out i) (sym (rows_of_lem x d i j))

  pub alone_stored : n ≤ 1 → (out : List ℕ) (i j : ℕ) {new : List ℕ} → RowPut out i j new → new ≡ rows_put out i (rows_s x d i j)
  alone_stored l out i j {new} e =
      let q = h.1 in
      let p = positive x in
      let m = rows_s_length x d i j in
      let k = ap length (rows_of_lem x d i j) in
      let z = none_of (inner_rows x d i j) (omega arith) in
      stmt_stored out i j e (rw z (sym (rows_put_nil new (suc i))))

  -- A loop.
  pub record LoopHeld : Type 0 where
    pub body : Body
    pub held : BodyHeld ns body (suc d) (r + 1) (r + n)
    pub size : n ≡ suc (size_b body)
    pub rows : (i j : ℕ) → inner_rows x d i j ≡ rows_b body (suc d) (suc i) (leads_to (get_or ns (3 * r) 0) i j)

  pub loop_held : 1 < n → get_or ns (3 * r) 0 % 256 < 7 → LoopHeld
  loop_held l m =
      let q = h.1 in
      let o = op_is in
      let w = is_loop x d (omega arith) (omega arith) in
      let z = w.size in
      record {
        body = w.body;
        held = (subst (Held ns (3 * (r + 1))) w.inside read.behind, omega arith);
        size = omega arith;
        rows = λ i j. w.rows (get_or ns (3 * r) 0) i j o;
      }

  pub loop_stored : (w : LoopHeld) (out : List ℕ) (i j : ℕ) {to : ℕ} {one new : List ℕ} → RowPut out i j one
      → to ≡ leads_to (get_or ns (3 * r) 0) i j → new ≡ rows_put one (i + 1) (rows_b w.body (suc d) (i + 1) to) → new ≡ rows_put out i (rows_s x d i j)
  loop_stored w out i j e f g =
      let u : i + 1 ≡ suc i = omega arith in
      stmt_stored out i j e (g ∙ rw (u, f, w.rows i j))

  -- An ifok.
  pub record IfHeld : Type 0 where
    pub one : Body
    pub two : Body
    pub arg_is : get_or ns (3 * r + 1) 0 ≡ size_b one
    pub first : BodyHeld ns one (suc d) (r + 1) (r + 1 + get_or ns (3 * r + 1) 0)
    pub second : BodyHeld ns two (suc d) (r + 1 + get_or ns (3 * r + 1) 0) (r + n)
    pub size : n ≡ suc (size_b one + size_b two)
    pub rows : (i j : ℕ) → inner_rows x d i j ≡ rows_b one (suc d) (suc i) j ++ rows_b two (suc d) (suc i + size_b one) j

  pub if_held : get_or ns (3 * r) 0 % 256 ≡ 7 → IfHeld
  unfolding arg_s inside_s size_s inner_rows
  if_held l =
      let w = is_ifok x (sym op_is ∙ l) in
      let b = w.0 in
      let c = w.1 in
      let a : get_or ns (3 * r + 1) 0 ≡ size_b b = read.arg ∙ ap arg_s w.2 in
      let xs = notes_b b (suc d) in
      let ys = notes_b c (suc d) in
      let g : Held ns (3 * (r + 1)) (xs ++ ys) = subst (λ (y : Stmt). Held ns (3 * (r + 1)) (inside_s y d)) w.2 read.behind in
      let m : n ≡ suc (size_b b + size_b c) = h.1 ∙ ap size_s w.2 in
      let k = notes_b_length b (suc d) in
      record {
        one = b;
        two = c;
        arg_is = a;
        first = (held_left ns (3 * (r + 1)) xs ys g, omega arith);
        second = (held_right ns (3 * (r + 1)) (3 * (r + 1 + get_or ns (3 * r + 1) 0)) xs ys (omega arith) g, omega arith);
        size = m;
        rows = λ i j. ap (λ (y : Stmt). inner_rows y d i j) w.2;
      }

  -- Two parts inside, the first of k rows.
  two_stored : (out : List ℕ) (i j : ℕ) (xs ys : List Statement) {k : ℕ} {one two new : List ℕ} → inner_rows x d i j ≡ xs ++ ys → length xs ≡ k
      → RowPut out i j one
      → two ≡ rows_put one (suc i) xs → new ≡ rows_put two (suc i + k) ys → new ≡ rows_put out i (rows_s x d i j)
  two_stored out i j xs ys {one = one} q m e f g = stmt_stored out i j e (g ∙ rw (f, q) (rows_put_join xs ys one (suc i) m))

  pub if_stored : (w : IfHeld) (out : List ℕ) (i j : ℕ) {to : ℕ} {one two new : List ℕ} → get_or ns (3 * r) 0 % 256 ≡ 7
      → RowPut out i j one → to ≡ leads_to (get_or ns (3 * r) 0) i j
      → two ≡ rows_put one (i + 1) (rows_b w.one (suc d) (i + 1) to)
      → new ≡ rows_put two (i + 1 + get_or ns (3 * r + 1) 0) (rows_b w.two (suc d) (i + 1 + get_or ns (3 * r + 1) 0) to) → new ≡ rows_put out i (rows_s x d i j)
  if_stored w out i j {to} l e t f g =
      let a = w.arg_is in
      let z : to ≡ j = t ∙ leads_past (get_or ns (3 * r) 0) i j (omega arith) in
      let u : i + 1 ≡ suc i = omega arith in
      let v : i + 1 + get_or ns (3 * r + 1) 0 ≡ suc i + size_b w.one = omega arith in
      let xs = rows_b w.one (suc d) (suc i) j in
      let ys = rows_b w.two (suc d) (suc i + size_b w.one) j in
      two_stored out i j xs ys (w.rows i j) (rows_b_length w.one (suc d) (suc i) j) e (f ∙ rw (u, z)) (g ∙ rw (v, z))

  -- A select.
  pub record SelectHeld : Type 0 where
    pub cases : Cases
    pub held : CasesHeld ns cases (suc d) (r + 1) (get_or ns (3 * r) 0 / 256)
    pub size : n ≡ suc (case_count cases + size_c cases)
    pub rows : (i j : ℕ) → inner_rows x d i j ≡ case_rows cases (suc i + case_count cases) j ++ rows_c cases (suc d) (suc i + case_count cases) j

  pub select_held : 1 < n → 7 ≤ get_or ns (3 * r) 0 % 256 → (get_or ns (3 * r) 0 % 256 ≡ 7 → ⊥) → SelectHeld
  unfolding chan_s inside_s size_s inner_rows
  select_held l m e =
      let q = h.1 in
      let o = op_is in
      let w = is_select x (omega arith) (omega arith) (λ f. e (o ∙ f)) in
      record {
        cases = w.0;
        held = (
          subst (λ (y : Stmt). Held ns (3 * (r + 1)) (inside_s y d)) w.1 read.behind,
          chan_is ∙ ap (λ (y : Stmt). chan_s y d) w.1,
        );
        size = h.1 ∙ ap size_s w.1;
        rows = λ i j. ap (λ (y : Stmt). inner_rows y d i j) w.1;
      }

  pub select_stored : (w : SelectHeld) (out : List ℕ) (i j : ℕ) {to k : ℕ} {one two new : List ℕ} → 7 ≤ get_or ns (3 * r) 0 % 256
      → RowPut out i j one → to ≡ leads_to (get_or ns (3 * r) 0) i j → k ≡ get_or ns (3 * r) 0 / 256
      → two ≡ rows_put one (i + 1) (case_rows w.cases (i + 1 + k) to)
      → new ≡ rows_put two (i + 1 + k) (rows_c w.cases (suc d) (i + 1 + k) to) → new ≡ rows_put out i (rows_s x d i j)
  select_stored w out i j {to} {k} l e t c f g =
      let cs = w.cases in
      let q = w.held.1 in
      let z : to ≡ j = t ∙ leads_past (get_or ns (3 * r) 0) i j l in
      let u : i + 1 ≡ suc i = omega arith in
      let v : i + 1 + k ≡ suc i + case_count cs = omega arith in
      let top = suc i + case_count cs in
      let xs = case_rows cs top j in
      let ys = rows_c cs (suc d) top j in
      two_stored out i j xs ys (w.rows i j) (case_rows_length cs top j) e (f ∙ rw (v, u, z)) (g ∙ rw (v, z))

-- What a statement needs of the limits: so many rows are there in its first part, behind its own.
module _ (ns : List ℕ) (r n i : ℕ) (y : StmtThere ns r n i) where
  pub record Inside (k : ℕ) : Type 0 where
    pub some : k < n
    pub ends : r + n ≤ row_limit
    pub stands : i + n ≤ row_limit

  pub stmt_room : Inside 0
  stmt_room = record { some = some_rows ns y.0 y.1 r n y.2; ends = y.3; stands = y.4 }

  pub if_room : get_or ns (3 * r) 0 % 256 ≡ 7 → Inside (get_or ns (3 * r + 1) 0)
  if_room e =
      let w = if_held ns y.0 y.1 r n y.2 e in
      let s = w.size in
      record { some = omega (arith, w.arg_is); ends = y.3; stands = y.4 }

  pub select_room : 1 < n → 7 ≤ get_or ns (3 * r) 0 % 256 → (get_or ns (3 * r) 0 % 256 ≡ 7 → ⊥) → Inside (get_or ns (3 * r) 0 / 256)
  select_room l m e =
      let w = select_held ns y.0 y.1 r n y.2 l m e in
      let s = w.size in
      record { some = omega (arith, w.held.1); ends = y.3; stands = y.4 }
