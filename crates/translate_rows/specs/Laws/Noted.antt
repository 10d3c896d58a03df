-- One lap over what the definitions read and pass 1 notes. Assumes nothing.
use Rattle.std.specs.Prelude.{◌≡◌, Bool, cond, List, [], ◌∷◌, ◌++◌, eqb, length, ⊤}
use Rattle.std.proofs.Math.Path.{refl, sym}
use Rattle.std.proofs.Common.{ap, ◌∙◌, append_assoc, ne_eqb, length-append}
use Rattle.std.proofs.Math.Bool.{true, false}
use Prim.Native.Nat.{ℕ, suc, ◌+◌, ◌-◌, ◌*◌, ◌≤◌, ◌<◌}
use native.Mathlib.Omega.{arith}
use Rattle.std.proofs.Math.Seq.{sets}
use Rattle.translate_rows.specs.Kinds.{Port, Op, Word, Head}
use Rattle.meaning.specs.Events.{port_number}
use Rattle.meaning.specs.Numbers.{case_limit, row_limit}
use Rattle.meaning.specs.Text.{Stmt, operate, close, stop, range, repeat, ifok, select, Body, empty, Cases, nomore, default, case}
use Rattle.meaning.specs.Layout.{case_count, size_s, size_b, size_c}
use Rattle.text_words.specs.Words.{default_kind, word_at}
use Rattle.text_reader.specs.Reading.{Part, got, none, bad, bind, last_by, cases_from, stmt_by, body_from}
use Rattle.text_reader.specs.Answers.{told, counted, self, count_from, is_statement, head_by, HeadTold, BodyTold, IfokTold, SelectTold, CaseTold, LastTold, StmtTold}
use Rattle.text_reader.specs.Laws.Parts.{none_got, bad_got, same_got, bind_got, Stops, All, Sure}
use Rattle.text_reader.specs.Laws.Sizes.{SizedC, body_sized, cases_sized}
use Rattle.text_reader.specs.Laws.Selects.{behind_cases, cases_split}
use Rattle.text_laws.specs.Laws.Decided.{body_sure, statement_sure}
use Rattle.translate_notes.specs.Notes.{op_code, op_port, op_arg, last_arg, op_s, chan_s, arg_s, inside_s, notes_s, notes_b, notes_c, noted}
use Rattle.translate_notes.specs.Laws.Notes.{inside_length, notes_b_length}
use Rattle.translate_rows.specs.Noted.{case_notes, lines_c, BodyNoted, StmtNoted, BlockNoted, IfokNoted, SelectNoted, CaseNoted, LastNoted, Unmoved}
use Rattle.translate_rows.specs.Laws.Laps.{Lap, CaseLap, Chosen, body_size, last_nomore}
use Rattle.translate_rows.specs.Laws.Notes.{stored_on, noted_ahead, noted_as}

pub stop_got : {A : Type 0} (p : Part A) {v : Part ⊤} {x : A} {a r : ℕ} → Stops v → v ≡ told p → p ≡ got x a r → ⊥
unfolding told
stop_got (got x a r) h q e = rw q at h
stop_got none h q e = none_got e
stop_got (bad n place) h q e = bad_got e

-- BODIES

pub lap_noted : {s : List ℕ} {channels depth at rows a' n : ℕ} {b : Body} {a r : ℕ} (w : Lap s channels depth at rows a' n b a r) (ns : List ℕ) {new : List ℕ}
    → new ≡ sets ns (3 * rows) (notes_s w.one depth) → sets new (3 * n) (notes_b w.rest depth) ≡ sets ns (3 * rows) (notes_b b depth)
unfolding notes_b
lap_noted {depth = depth} {rows = rows} {n = n} w ns e =
    let q = w.size in
    let m = inside_length w.one depth in
    rw (e, w.whole) (stored_on (notes_s w.one depth) (notes_b w.rest depth) ns (3 * rows) (3 * n) (omega arith))

pub body_noted : (ns : List ℕ) (d i : ℕ) {b : Body} → b ≡ empty → ns ≡ sets ns i (notes_b b d)
unfolding notes_b
body_noted ns d i e = rw e

-- CASES

last_behind : (s : List ℕ) (channels : ℕ) (sub : ℕ → ℕ → Part Body) (at rows : ℕ) {cs : Cases} {a r : ℕ} → last_by s channels sub at (word_at s at) rows ≡ got cs a r → cs ≡ behind_cases cs
unfolding last_by behind_cases
last_behind s channels sub at rows {cs} {a} {r} e = go (eqb (word_at s at).kind default_kind) e
  where
    go : (b : Bool) → cond {A = ℕ → Part Cases} b (λ rows. bind (sub (word_at s at).next rows) (λ b at r. got (default b) at r)) (λ rows. got nomore at rows) rows ≡ got cs a r → cs ≡ behind_cases cs
    go true e = let g = bind_got (sub (word_at s at).next rows) (λ b at r. got (default b) at r) e in let q = (same_got g.4).0 in rw (← q)
    go false e = let q = (same_got e).0 in rw (← q)

-- A case is noted once its body is.
case_noted : (o : Op) (b : Body) (d row rows : ℕ) (old : List ℕ) {mid new : List ℕ} {head arg size : ℕ} → row < row_limit → rows ≡ row + 1 → mid ≡ sets old (3 * rows) (notes_b b d) → new ≡ noted mid row head arg size
    → head ≡ 8 + op_code o + 256 * op_port o → arg ≡ op_arg o → size ≡ suc (size_b b) → new ≡ sets old (3 * row) (case_notes o b d)
case_noted o b d row rows old l q e f h a n = rw (← h, ← a, ← n) (noted_ahead _ _ _ (notes_b b d) row rows old l q e f)

pub lines_noted : {k : ℕ} {s : List ℕ} {channels depth left at rows a' n : ℕ} {cs : Cases} {a r : ℕ} (w : CaseLap k s channels depth left at rows a' n cs a r) (ns : List ℕ) {new : List ℕ}
    → new ≡ sets ns (3 * rows) (case_notes w.op w.one depth) → sets new (3 * n) (lines_c w.rest depth) ≡ sets ns (3 * rows) (lines_c cs depth)
unfolding lines_c
lines_noted {depth = depth} {rows = rows} {n = n} w ns e =
    let q = w.size in
    let m = notes_b_length w.one depth in
    rw (e, w.whole) (stored_on (case_notes w.op w.one depth) (lines_c w.rest depth) ns (3 * rows) (3 * n) (omega arith))

none_behind : (x : Cases) (d : ℕ) → lines_c (behind_cases x) d ≡ []
unfolding lines_c behind_cases
none_behind nomore d = refl
none_behind (default b) d = refl
none_behind (case o b cs) d = none_behind cs d

-- What is read behind the cases holds none.
pub lines_end : (k : ℕ) (s : List ℕ) (channels depth at rows : ℕ) {cs : Cases} {a r : ℕ} → last_by s channels (body_from k s channels depth) at (word_at s at) rows ≡ got cs a r → (ns : List ℕ) (i d : ℕ) → ns ≡ sets ns i (lines_c cs d)
lines_end k s channels depth at rows e ns i d =
    let z = last_behind s channels (body_from k s channels depth) at rows e in
    rw (z, none_behind _ d)

-- A select, once its cases and its default are noted.
lines_length : (cs : Cases) (d : ℕ) → length (lines_c cs d) + 3 * size_c (behind_cases cs) ≡ 3 * (case_count cs + size_c cs)
unfolding lines_c behind_cases case_count size_c
lines_length nomore d = refl
lines_length (default b) d = omega arith
lines_length (case o b cs) d =
    let q = lines_length cs d in
    let m = notes_b_length b d in
    let e = length-append (notes_b b d) (lines_c cs d) in
    omega arith

lines_all : (cs : Cases) (d : ℕ) → notes_c cs d ≡ lines_c cs d ++ notes_c (behind_cases cs) d
unfolding lines_c behind_cases notes_c
lines_all nomore d = refl
lines_all (default b) d = refl
lines_all (case o b cs) d = ap (λ (z : List ℕ). (8 + op_code o + 256 * op_port o) ∷ op_arg o ∷ suc (size_b b) ∷ z) (ap (notes_b b d ++◌) (lines_all cs d) ∙ sym (append_assoc (notes_b b d) (lines_c cs d) (notes_c (behind_cases cs) d)))

arg_behind : (cs : Cases) → last_arg (behind_cases cs) ≡ last_arg cs
unfolding last_arg behind_cases
arg_behind nomore = refl
arg_behind (default b) = refl
arg_behind (case o b cs) = arg_behind cs

pub select_noted : (d D row : ℕ) {k : ℕ} {s : List ℕ} {channels at rows b m n : ℕ} {x : Stmt} (w : Chosen k s channels D at rows b m n x) (old : List ℕ) {mid new : List ℕ} → suc d ≡ D → row < row_limit → rows ≡ row + 1 → row_limit - rows < k
    → mid ≡ sets old (3 * rows) (lines_c w.cases D)
    → new ≡ noted (sets mid (3 * m) (notes_c (behind_cases w.cases) D)) row (8 + 256 * n) (last_arg (behind_cases w.cases)) (w.total - row)
    → new ≡ sets old (3 * row) (notes_s x d)
unfolding op_s chan_s arg_s inside_s size_s
select_noted d D row {k} {s} {channels} {at} {rows} {m = m} {n} w old {mid} qd t qr l e f =
    let cs = w.cases in
    let z = w.size in
    let c = w.count in
    let g = lines_length cs D in
    let y : All (SizedC rows) (got cs w.end w.total) = rw w.is at (cases_sized s channels (body_from k s channels D) (body_sized k s channels D) case_limit at rows) in
    let h : sets (sets old (3 * rows) (lines_c cs D)) (3 * m) (notes_c (behind_cases cs) D) ≡ sets old (3 * rows) (notes_c cs D) = stored_on (lines_c cs D) (notes_c (behind_cases cs) D) old (3 * rows) (3 * m) (omega arith) ∙ ap (sets old (3 * rows)) (sym (lines_all cs D)) in
    let i : sets mid (3 * m) (notes_c (behind_cases cs) D) ≡ sets old (3 * rows) (inside_s (select cs) d) = rw (e, h, qd) in
    rw (← w.whole) (noted_as (select cs) d row rows old t qr i f (omega arith) (arg_behind cs) (omega arith))

-- AN ANSWER THAT IS NOT `Done`: nothing is left to say of the notes.

pub stop_by : {v w : Part ⊤} → v ≡ w → Stops w → Stops v
stop_by e h = rw e h

module _ (s : List ℕ) (channels depth at rows : ℕ) {v : Part ⊤} (old new : List ℕ) (h : Stops v) where
  pub stopped_body : BodyTold s channels depth at rows v → BodyTold s channels depth at rows v × BodyNoted s channels depth at rows old new
  stopped_body f = (f, λ k b a r l e. absurd (stop_got (body_from k s channels depth at rows) h (f k l) e))

  pub stopped_block : (row head arg : ℕ) → BodyTold s channels depth at rows v → BlockNoted s channels depth at rows row head arg old new
  stopped_block row head arg f = λ k b a r l e. absurd (stop_got (body_from k s channels depth at rows) h (f k l) e)

  pub stopped_ifok : IfokTold s channels depth at rows v → IfokTold s channels depth at rows v × IfokNoted s channels depth at rows old new
  stopped_ifok f = (f, λ k d x a r q l e. absurd (stop_got _ h (f k l) e))

  pub stopped_select : SelectTold s channels depth at rows v → SelectTold s channels depth at rows v × SelectNoted s channels depth at rows old new
  stopped_select f = (f, λ k d x a r q l e. absurd (stop_got _ h (f k l) e))

  pub stopped_case : (left : ℕ) → CaseTold s channels depth at rows left v → Unmoved old new v → CaseTold s channels depth at rows left v × CaseNoted s channels depth at rows left old new × Unmoved old new v
  stopped_case left f u = (f, λ k o b a r l e. absurd (stop_got _ h (f k l) e), u)

  pub stopped_last : (row n : ℕ) → LastTold s channels depth at rows v → LastTold s channels depth at rows v × LastNoted s channels depth at rows row n old new
  stopped_last row n f = (f, λ k cs a r l e. absurd (stop_got _ h (f k l) e))

  pub stopped_stmt : StmtTold s channels depth at rows v → Unmoved old new v → StmtTold s channels depth at rows v × StmtNoted s channels depth at rows old new × Unmoved old new v
  stopped_stmt f u = (f, λ k x a r l e. absurd (stop_got _ h (f k l) e), u)

-- NEVER NOTHING

pub refused_some : (old new : List ℕ) (n place : ℕ) → Unmoved old new (bad n place)
refused_some old new n place e = absurd (let z : ◌≡◌ {A = ℕ} 0 1 = cc in omega arith)

pub done_some : (old new : List ℕ) {v : Part ⊤} {at rows : ℕ} → v ≡ got tt at rows → Unmoved old new v
done_some old new q e = absurd (let z : ◌≡◌ {A = ℕ} 0 1 = cc in omega arith)

-- Cases that were refused are not there.
pub cases_cut : (k : ℕ) (s : List ℕ) (channels depth at rows : ℕ) {n place : ℕ} {cs : Cases} {a r : ℕ} → bad n place ≡ counted self 0 (count_from s channels (body_from k s channels depth) case_limit at rows)
    → cases_from s channels (body_from k s channels depth) case_limit at rows ≡ got cs a r → ⊥
unfolding counted
cases_cut k s channels depth at rows {n} {place} {cs} {a} {r} h e =
    let t = cases_split s channels (body_from k s channels depth) (body_sized k s channels depth) case_limit at rows cs a r e in
    let f : bad n place ≡ got (0 + case_count cs) t.0 t.1 = h ∙ ap (counted self 0) t.2 in
    let z : ◌≡◌ {A = ℕ} 0 1 = cc in
    omega arith

pub sure_told : {A : Type 0} (p : Part A) → Sure p → none ≡ told p → ⊥
unfolding told
sure_told (got x a r) h e = let z : ◌≡◌ {A = ℕ} 0 1 = cc in omega arith
sure_told none h e = h
sure_told (bad n place) h e = let z : ◌≡◌ {A = ℕ} 0 1 = cc in omega arith

module _ (s : List ℕ) (channels depth at rows : ℕ) where
  pub body_some : (old new : List ℕ) {v : Part ⊤} → BodyTold s channels depth at rows v → Unmoved old new v
  body_some old new f e = absurd (sure_told (body_from (suc row_limit) s channels depth at rows) (body_sure s (suc row_limit) channels depth at rows) (sym e ∙ f (suc row_limit) (omega arith)))

  abbrev pub Begins : Part Head → Type 0
  Begins (got x next m) = Unit {0}
  Begins none = ⊥
  Begins (bad n place) = Unit {0}

  pub stmt_some : (old new : List ℕ) {w i : Part Head} {v : Part ⊤} → w ≡ i → HeadTold s channels depth at rows w → Begins i → StmtTold s channels depth at rows v → Unmoved old new v
  unfolding head_by
  stmt_some old new {w} {i} {v} q h b f e = absurd (go (is_statement (word_at s at).kind) refl)
    where
      go : (t : Bool) → is_statement (word_at s at).kind ≡ t → ⊥
      go true t = sure_told (stmt_by s channels (body_from row_limit s channels (depth + 1)) depth (word_at s at) rows) (statement_sure s channels (body_from row_limit s channels (depth + 1)) (body_sure s row_limit channels (depth + 1)) depth (word_at s at) rows t) (sym e ∙ f row_limit (omega arith))
      go false t = let z : i ≡ none = sym q ∙ h ∙ rw t in rw z at b

-- EACH WAY THAT IS DONE

same_told : {A : Type 0} (p : Part A) {v : Part ⊤} {a' n : ℕ} {x : A} {a r : ℕ} → v ≡ got tt a' n → v ≡ told p → p ≡ got x a r → (a' ≡ a) × (n ≡ r)
unfolding told
same_told p {a' = a'} {n} {x} {a} {r} q h e =
    let f : got tt a' n ≡ got tt a r = sym q ∙ h ∙ ap told e in
    (cc, cc)

module _ (k : ℕ) (s : List ℕ) (channels depth at rows : ℕ) where
  -- How many rows a body took that was told of.
  body_told : {v : Part ⊤} {a' n : ℕ} {b : Body} {a r : ℕ} → v ≡ got tt a' n → v ≡ told (body_from k s channels depth at rows) → body_from k s channels depth at rows ≡ got b a r → (n ≡ r) × (n ≡ rows + size_b b)
  body_told q h e =
      let z = same_told (body_from k s channels depth at rows) q h e in
      let m = body_size k s channels depth at rows e in
      (z.1, z.1 ∙ m)

  pub block_as : {v : Part ⊤} {a' n : ℕ} {b : Body} {a r : ℕ} (row head arg : ℕ) (old : List ℕ) {mid new : List ℕ} → v ≡ got tt a' n → v ≡ told (body_from k s channels depth at rows) → body_from k s channels depth at rows ≡ got b a r
      → mid ≡ sets old (3 * rows) (notes_b b depth) → new ≡ noted mid row head arg (n - row) → new ≡ noted (sets old (3 * rows) (notes_b b depth)) row head arg (rows + size_b b - row)
  block_as row head arg old q h e f g = rw (g, f, (body_told q h e).1)

  pub last_as : {v : Part ⊤} {a' n : ℕ} {b : Body} {cs : Cases} {a r : ℕ} (row head m : ℕ) (old : List ℕ) {mid new : List ℕ} → v ≡ got tt a' n → v ≡ told (body_from k s channels depth at rows) → body_from k s channels depth at rows ≡ got b a r → cs ≡ default b
      → mid ≡ sets old (3 * rows) (notes_b b depth) → head ≡ 8 + 256 * m → new ≡ noted mid row head (n - rows + 1) (n - row) → new ≡ noted (sets old (3 * rows) (notes_c cs depth)) row (8 + 256 * m) (last_arg cs) (r - row)
  unfolding last_arg notes_c
  last_as {n = n} {b = b} row head m old q h e c f d g =
      let z = body_told q h e in
      let y = z.1 in
      let w : n - rows + 1 ≡ suc (size_b b) = omega arith in
      rw (g, f, c, d, w, z.0)

  pub case_as : {v : Part ⊤} {a' n : ℕ} {b : Body} {a r : ℕ} (o c : Op) (row : ℕ) (old : List ℕ) {mid new : List ℕ} {head arg : ℕ} → v ≡ got tt a' n → v ≡ told (body_from k s channels depth at rows) → body_from k s channels depth at rows ≡ got b a r → o ≡ c → row < row_limit → rows ≡ row + 1
      → mid ≡ sets old (3 * rows) (notes_b b depth) → new ≡ noted mid row head arg (n - row) → head ≡ 8 + op_code o + 256 * op_port o → arg ≡ op_arg o → new ≡ sets old (3 * row) (case_notes c b depth)
  case_as {b = b} o c row old q h e p l t f g i j =
      let z = body_told q h e in
      let y = z.1 in
      rw (← p) (case_noted o b depth row rows old l t f g i j (omega arith))

  pub if_noted : {v : Part ⊤} {a' n : ℕ} {b : Body} {a r : ℕ} (d : ℕ) (c : Body) (x : Stmt) (old : List ℕ) {mid new : List ℕ} → v ≡ got tt a' n → v ≡ told (body_from k s channels depth at rows) → body_from k s channels depth at rows ≡ got b a r
      → suc d ≡ depth → 0 < rows → rows ≤ row_limit → ifok b c ≡ x → mid ≡ sets old (3 * rows) (notes_b b depth)
      → new ≡ noted (sets mid (3 * n) (notes_b c depth)) (rows - 1) 7 (n - (rows - 1) - 1) (n + size_b c - (rows - 1)) → new ≡ sets old (3 * (rows - 1)) (notes_s x d)
  unfolding op_s chan_s arg_s inside_s size_s
  if_noted {n = n} {b = b} d c x old {mid} q h e qd l l' qx f g =
      let z = body_told q h e in
      let y = z.1 in
      let m = notes_b_length b depth in
      let t : sets mid (3 * n) (notes_b c depth) ≡ sets old (3 * rows) (inside_s (ifok b c) d) = rw (f, qd) (stored_on (notes_b b depth) (notes_b c depth) old (3 * rows) (3 * n) (omega arith)) in
      rw (← qx) (noted_as (ifok b c) d (rows - 1) rows old (omega arith) (omega arith) t g (omega arith) (omega arith) (omega arith))

pub second_none : (rows row f d : ℕ) (old : List ℕ) {new : List ℕ} → new ≡ noted old row 7 f (rows - row) → new ≡ noted (sets old (3 * rows) (notes_b empty d)) row 7 f (rows + size_b empty - row)
unfolding notes_b size_b
second_none rows row f d old e = let q : rows + 0 - row ≡ rows - row = omega arith in rw (q, e)

pub last_none : (rows row d m head : ℕ) (old : List ℕ) {cs : Cases} {new : List ℕ} → cs ≡ nomore → head ≡ 8 + 256 * m → new ≡ noted old row head 0 (rows - row) → new ≡ noted (sets old (3 * rows) (notes_c cs d)) row (8 + 256 * m) (last_arg cs) (rows - row)
unfolding notes_c last_arg
last_none rows row d m head old q h e = rw (q, e, h)

pub last_over : (s : List ℕ) (channels : ℕ) (sub : ℕ → ℕ → Part Body) (at rows row d m : ℕ) (old : List ℕ) {w : Word} {cs : Cases} {a r head : ℕ} {new : List ℕ} → w ≡ word_at s at → (w.kind ≡ default_kind → ⊥) → last_by s channels sub at (word_at s at) rows ≡ got cs a r
    → head ≡ 8 + 256 * m → new ≡ noted old row head 0 (rows - row) → new ≡ noted (sets old (3 * rows) (notes_c cs d)) row (8 + 256 * m) (last_arg cs) (r - row)
unfolding last_by
last_over s channels sub at rows row d m old {w} {cs} {a} {r} {head} q t e h f =
    let c = last_nomore s channels sub at rows q t e in
    let g : eqb (word_at s at).kind default_kind ≡ false = ne_eqb (word_at s at).kind default_kind (λ z. t (ap (λ (v : Word). v.kind) q ∙ z)) in
    let y : got nomore at rows ≡ got cs a r = rw g at e in
    rw (← (same_got y).2) (last_none rows row d m head old c h f)

-- STATEMENTS

module _ (d row : ℕ) (old : List ℕ) (l : row < row_limit) {x : Stmt} {new : List ℕ} where
  pub operate_noted : {head arg : ℕ} (o : Op) → operate o ≡ x → new ≡ noted old row head arg 1 → head ≡ op_code o + 256 * op_port o → arg ≡ op_arg o → new ≡ sets old (3 * row) (notes_s x d)
  unfolding op_s chan_s arg_s inside_s size_s
  operate_noted o q e h a = rw (← q) (noted_as (operate o) d row (row + 1) old l refl refl e h a refl)

  pub close_noted : {head : ℕ} (p : Port) → close p ≡ x → new ≡ noted old row head 0 1 → head ≡ 4 + 256 * port_number p → new ≡ sets old (3 * row) (notes_s x d)
  unfolding op_s chan_s arg_s inside_s size_s
  close_noted p q e h = rw (← q) (noted_as (close p) d row (row + 1) old l refl refl e h refl refl)

  pub stop_noted : stop ≡ x → new ≡ noted old row 12 0 1 → new ≡ sets old (3 * row) (notes_s x d)
  unfolding op_s chan_s arg_s inside_s size_s
  stop_noted q e = rw (← q) (noted_as stop d row (row + 1) old l refl refl e refl refl refl)

  pub range_noted : {head : ℕ} (p : Port) (b : Body) → range p b ≡ x → new ≡ noted (sets old (3 * (row + 1)) (notes_b b (d + 1))) row head 0 (row + 1 + size_b b - row) → head ≡ 5 + 256 * port_number p → new ≡ sets old (3 * row) (notes_s x d)
  unfolding op_s chan_s arg_s inside_s size_s
  range_noted p b q e h =
      let u : d + 1 ≡ suc d = omega arith in
      rw (← q) (noted_as (range p b) d row (row + 1) old {mid = sets old (3 * (row + 1)) (notes_b b (d + 1))} l refl (rw u) e h refl (omega arith))

  pub repeat_noted : {head : ℕ} (n : ℕ) (b : Body) → repeat n b ≡ x → new ≡ noted (sets old (3 * (row + 1)) (notes_b b (d + 1))) row head n (row + 1 + size_b b - row) → head ≡ 6 + 256 * d → new ≡ sets old (3 * row) (notes_s x d)
  unfolding op_s chan_s arg_s inside_s size_s
  repeat_noted n b q e h =
      let u : d + 1 ≡ suc d = omega arith in
      rw (← q) (noted_as (repeat n b) d row (row + 1) old {mid = sets old (3 * (row + 1)) (notes_b b (d + 1))} l refl (rw u) e h refl (omega arith))

pub row_ahead : (row : ℕ) (old ns : List ℕ) {new : List ℕ} → new ≡ sets old (3 * (row + 1 - 1)) ns → new ≡ sets old (3 * row) ns
row_ahead row old ns e = let q : row + 1 - 1 ≡ row = omega arith in rw (← q) e
