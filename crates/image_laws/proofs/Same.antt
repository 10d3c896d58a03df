-- Demand 3 of document 01: a text and its image give the same turns under every schedule.
-- A task's remainder and its row are kept side by side: a machine whose points are such pairs maps to the text's machine
-- and to the image's, and no rule asks what a point is.
use Rattle.std.specs.Prelude.{◌≡◌, cond, length, get_or, set, replicate, ltb}
use Rattle.std.proofs.Math.Path.{refl, sym, ap, ap₂}
use Rattle.std.proofs.Common.{◌∙◌, arith, length-set, get_or-set_same, get_or-set_other, set-set}
use Rattle.std.proofs.Math.Option
use Rattle.std.proofs.Math.Option.{Option, none, some}
use mathlib.Core.List.{List, [], ◌∷◌, ◌++◌, map}
use Prim.Native.Nat.{ℕ, zero, suc, ◌+◌, ◌≤◌, ◌<◌}
use Rattle.std.proofs.lemmas.List.{set-get_or}
use Rattle.image_laws.specs.Kinds.{Task, Recv, Repeat, Stop}
use Rattle.meaning.specs.Numbers.{depth_limit}
use Rattle.meaning.specs.Machine.{Case, Look, tries, closes, branches, asks, ends, alone, runs, fresh, seen_turn}
use Rattle.meaning.specs.Text.{Stmt, operate, close, stop, range, repeat, ifok, select, Body, empty, ◌▸◌, Cases, nomore, default, case, Job, todo, begun, Remainder, enter, text_repeat, text_cases, text_default, text_stmt, text_item, text_look, text_start}
use Rattle.meaning.specs.Image.{Spot, spot, row_no, Rows, image_case, image_cases, image_default, image_repeat, image_statement, image_look, image_start}
use Rattle.meaning.specs.Layout.{case_count, size_s, size_b, entry, case_rows, default_row, rows_s, rows_b, rows_c, rows_t, first_rows}
use Rattle.meaning.specs.Bytes.{job_image, rows_of, start_of}
use Rattle.meaning_laws.specs.Lists.{All}
use Rattle.meaning_laws.specs.Laws.Natural.{map_case, map_look, cond_map, fresh-map, runs_seen}
use Rattle.image_laws.specs.Proper.{ProperS, ProperB, ProperC, Proper}
use Rattle.image_laws.proofs.Rows.{entry_first, Holds, split_cases, split_s, split_b}
use Rattle.image_laws.proofs.ReadBack.{capacities_of_back, first_rows_of_back, rows_of_back}

-- LAP COUNTS

-- The lap counts of a task inside blocks with these laps begun, the innermost first.
laps_of : List ℕ → List ℕ
laps_of [] = replicate depth_limit 0
laps_of (k ∷ ls) = set (laps_of ls) (length ls) k

zeros : (n j : ℕ) → get_or (replicate {A = ℕ} n 0) j 0 ≡ 0
zeros zero j = refl
zeros (suc n) zero = refl
zeros (suc n) (suc j) = zeros n j

laps-length : (ls : List ℕ) → length (laps_of ls) ≡ depth_limit
unfolding laps_of
laps-length [] = refl
laps-length (k ∷ ls) = length-set (laps_of ls) (length ls) k ∙ laps-length ls

laps_deep : (ls : List ℕ) (j : ℕ) → length ls ≤ j → get_or (laps_of ls) j 0 ≡ 0
unfolding laps_of
laps_deep [] j h = zeros depth_limit j
laps_deep (k ∷ ls) j h = get_or-set_other (laps_of ls) (length ls) j k 0 (omega arith) ∙ laps_deep ls j (omega arith)

-- A block with no lap begun leaves the counts as they are outside it.
laps_zero : (ls : List ℕ) → laps_of (0 ∷ ls) ≡ laps_of ls
unfolding laps_of
laps_zero ls = ap (set (laps_of ls) (length ls)) (sym (laps_deep ls (length ls) (omega arith))) ∙ set-get_or (laps_of ls) (length ls) 0

laps_top : (k : ℕ) (ls : List ℕ) → length ls < depth_limit → get_or (laps_of (k ∷ ls)) (length ls) 0 ≡ k
unfolding laps_of
laps_top k ls h = get_or-set_same (laps_of ls) (length ls) k 0 (omega (arith, laps-length ls))

laps_set : (k v : ℕ) (ls : List ℕ) → set (laps_of (k ∷ ls)) (length ls) v ≡ laps_of (v ∷ ls)
unfolding laps_of
laps_set k v ls = set-set (laps_of ls) (length ls) k v

-- A REMAINDER AND A ROW

-- This remainder is what is left at row i, inside blocks with these laps begun, where the rows are read as `rows`.
data Rel (channels : ℕ) (rows : Rows) : List ℕ → Remainder → ℕ → Type 0 where
  fin : {i : ℕ} → rows (row_no i) ≡ Stop → Rel channels rows [] [] i
  item : {ls : List ℕ} {r : Remainder} {i : ℕ} (s : Stmt) (j : ℕ) → ProperS channels s (length ls) → Holds rows i (rows_s s (length ls) i j) → Rel channels rows ls r j → Rel channels rows ls (todo s ∷ r) i
  loop : {ls : List ℕ} {r : Remainder} {i : ℕ} (k n : ℕ) (b : Body) (j : ℕ) → ProperS channels (repeat n b) (length ls) → Holds rows i (rows_s (repeat n b) (length ls) i j) → Rel channels rows ls r j → Rel channels rows (k ∷ ls) (begun k n b ∷ r) i
  -- the end of a body that is no loop's leads out of its block
  out : {ls : List ℕ} {r : Remainder} {i : ℕ} → Rel channels rows ls r i → Rel channels rows (0 ∷ ls) r i

record Pair (channels : ℕ) (rows : Rows) : Type 0 where
  laps : List ℕ
  rest : Remainder
  row : ℕ
  rel : Rel channels rows laps rest row

module _ (channels : ℕ) (rows : Rows) where
  abbrev pair : {ls : List ℕ} {r : Remainder} {i : ℕ} → Rel channels rows ls r i → Pair channels rows
  pair {ls} {r} {i} q = record { laps = ls; rest = r; row = i; rel = q }

  abbrev text_of : Pair channels rows → Remainder
  text_of s = s.rest

  abbrev spot_of : Pair channels rows → Spot
  spot_of s = spot (laps_of s.laps) (row_no s.row)

  -- What a pair does next, which is what its remainder does next and what its spot does next.
  record Both (r : Remainder) (s : Spot) : Type 0 where
    both : Look (Pair channels rows)
    left : map_look text_of both ≡ text_look r
    right : map_look spot_of both ≡ image_look rows s

  entering : (b : Body) {ls : List ℕ} {r : Remainder} (i j : ℕ) → ProperB channels b (length ls) → Holds rows i (rows_b b (length ls) i j) → Rel channels rows ls r j
      → Rel channels rows ls (enter b r) (entry b i j).0
  unfolding enter entry rows_b
  entering empty i j p h q = q
  entering (s ▸ b) {ls} i j p h q =
      let e = (entry b (i + size_s s) j).0 in
      let hh = split_s rows s (length ls) i e _ h in
      item {ls = ls} s e p.0 hh.0 (entering b (i + size_s s) j p.1 hh.1 q)

  -- A loop with k laps begun, which is also a loop met anew, with none.
  loop_row : (ls : List ℕ) (i k n j : ℕ) (b : Body) → rows (row_no i) ≡ Repeat (length ls) n (entry b (suc i) i) (row_no j) → length ls < depth_limit
      → branches (cond (ltb k n) (spot (laps_of (suc k ∷ ls)) (entry b (suc i) i)) (spot (laps_of ls) (row_no j))) ≡ image_look rows (spot (laps_of (k ∷ ls)) (row_no i))
  unfolding image_look image_statement image_repeat
  loop_row ls i k n j b e h = sym (ap (image_statement rows (laps_of (k ∷ ls)) i) e ∙ rw (laps_top k ls h, laps_set k (suc k) ls, laps_set k 0 ls, laps_zero ls))

  loop_both : {ls : List ℕ} {r : Remainder} (i k n : ℕ) (b : Body) (j : ℕ) → ProperS channels (repeat n b) (length ls) → Holds rows i (rows_s (repeat n b) (length ls) i j) → Rel channels rows ls r j
      → Both (begun k n b ∷ r) (spot (laps_of (k ∷ ls)) (row_no i))
  unfolding text_look text_item text_repeat rows_s
  loop_both {ls} {r} i k n b j p h q = record {
    both = branches (cond (ltb k n) (pair inner) (pair q));
    left = ap branches (cond_map text_of (ltb k n) (pair inner) (pair q));
    right = ap branches (cond_map spot_of (ltb k n) (pair inner) (pair q)) ∙ loop_row ls i k n j b h.0 p.0;
  }
    where
      inner : Rel channels rows (suc k ∷ ls) (enter b (begun (suc k) n b ∷ r)) (entry b (suc i) i).0
      inner = entering b (suc i) i p.2 h.1 (loop (suc k) n b j p h q)

  cases_both : (cs : Cases) {ls : List ℕ} {r : Remainder} (i top j : ℕ) → ProperC channels cs (suc (length ls)) → Holds rows i (case_rows cs top j) → Holds rows top (rows_c cs (suc (length ls)) top j) → Rel channels rows ls r j
      → (ks : List (Case (Pair channels rows))) × (map (map_case text_of) ks ≡ text_cases cs r) × (map (map_case spot_of) ks ≡ image_cases rows (laps_of ls) (case_count cs) i)
  unfolding text_cases image_cases image_case case_count case_rows rows_c
  cases_both nomore i top j p hc hb q = ([], refl, refl)
  cases_both (default b) i top j p hc hb q = ([], refl, refl)
  cases_both (case o b cs) {ls} {r} i top j p hc hb q =
      let hh = split_b rows b (suc (length ls)) top j _ hb in
      let here = entering b {ls = 0 ∷ ls} top j p.1 hh.0 (out q) in
      let more = cases_both cs {ls = ls} {r = r} (suc i) (top + size_b b) j p.2 hc.1 hh.1 q in
      let mine : Case (Pair channels rows) = record { op = o; hit = pair here; miss = pair here } in (
        mine ∷ more.0,
        ap (λ ks. map_case text_of mine ∷ ks) more.1,
        ap₂ ◌++◌ (ap (λ l. record { op = o; hit = spot l (entry b top j); miss = spot l (entry b top j) } ∷ []) (laps_zero ls) ∙ ap (image_case (laps_of ls)) (sym hc.0)) more.2,
      )

  default_both : (cs : Cases) {ls : List ℕ} {r : Remainder} (top j : ℕ) → ProperC channels cs (suc (length ls)) → Holds rows top (rows_c cs (suc (length ls)) top j) → Rel channels rows ls r j
      → (o : Option (Pair channels rows)) × (Option.map text_of o ≡ text_default cs r) × (Option.map spot_of o ≡ image_default (laps_of ls) (default_row cs top j))
  unfolding text_default image_default default_row rows_c
  default_both nomore top j p hb q = (none, refl, refl)
  default_both (default b) {ls} top j p hb q = (some (pair (entering b {ls = 0 ∷ ls} top j p hb (out q))), refl, ap (λ l. some (spot l (entry b top j))) (laps_zero ls))
  default_both (case o b cs) {ls} top j p hb q = default_both cs (top + size_b b) j p.2 (split_b rows b (suc (length ls)) top j _ hb).1 q

  stmt_both : (s : Stmt) {ls : List ℕ} {r : Remainder} (i j : ℕ) → ProperS channels s (length ls) → Holds rows i (rows_s s (length ls) i j) → Rel channels rows ls r j → Both (todo s ∷ r) (spot (laps_of ls) (row_no i))
  unfolding text_look text_item text_stmt text_repeat image_look image_statement rows_s
  stmt_both (operate o) {ls} i j p h q = record { both = alone o (pair q) (pair q); left = refl; right = ap (image_statement rows (laps_of ls) i) (sym h.0) }
  stmt_both (close c) {ls} i j p h q = record { both = closes c (pair q); left = refl; right = ap (image_statement rows (laps_of ls) i) (sym h.0) }
  stmt_both stop {ls} i j p h q = record { both = ends; left = refl; right = ap (image_statement rows (laps_of ls) i) (sym h.0) }
  stmt_both (range c b) {ls} {r} i j p h q = record {
    both = alone (Recv c) (pair inner) (pair q);
    left = refl;
    right = ap (λ l. alone (Recv c) (spot l (entry b (suc i) i)) (spot (laps_of ls) (row_no j))) (laps_zero ls) ∙ ap (image_statement rows (laps_of ls) i) (sym h.0);
  }
    where
      inner : Rel channels rows (0 ∷ ls) (enter b (todo (range c b) ∷ r)) (entry b (suc i) i).0
      inner = entering b (suc i) i p.2 h.1 (out (item (range c b) j p h q))
  stmt_both (repeat n b) {ls} {r} i j p h q =
      let o = loop_both i 0 n b j p h q in
      record { both = o.both; left = o.left; right = o.right ∙ ap (λ l. image_look rows (spot l (row_no i))) (laps_zero ls) }
  stmt_both (ifok b c) {ls} {r} i j p h q =
      let at = suc i + size_b b in
      let hh = split_b rows b (suc (length ls)) (suc i) j _ h.1 in
      let first = entering b {ls = 0 ∷ ls} (suc i) j p.1 hh.0 (out q) in
      let second = entering c {ls = 0 ∷ ls} at j p.2 hh.1 (out q) in
      record {
        both = asks (pair first) (pair second);
        left = refl;
        right = ap (λ l. asks (spot l (entry b (suc i) j)) (spot l (entry c at j))) (laps_zero ls) ∙ ap (image_statement rows (laps_of ls) i) (sym h.0);
      }
  stmt_both (select cs) {ls} {r} i j p h q =
      let top = suc i + case_count cs in
      let hh = split_cases rows cs top j (suc i) _ h.1 in
      let ks = cases_both cs {ls = ls} {r = r} (suc i) top j p.2 hh.0 hh.1 q in
      let o = default_both cs {ls = ls} {r = r} top j p.2 hh.1 q in
      record { both = tries ks.0 o.0; left = ap₂ tries ks.1 o.1; right = ap₂ tries ks.2 o.2 ∙ ap (image_statement rows (laps_of ls) i) (sym h.0) }

  look_both : {ls : List ℕ} {r : Remainder} {i : ℕ} → Rel channels rows ls r i → Both r (spot (laps_of ls) (row_no i))
  unfolding text_look image_look image_statement
  look_both (fin {i} e) = record { both = ends; left = refl; right = ap (image_statement rows (laps_of []) i) (sym e) }
  look_both (item {i = i} s j p h q) = stmt_both s i j p h q
  look_both (loop {i = i} k n b j p h q) = loop_both i k n b j p h q
  look_both (out {ls} {r} {i} q) = rw (laps_zero ls) (look_both q)

  pair_look : Pair channels rows → Look (Pair channels rows)
  pair_look s = (look_both s.rel).both

  text_look_lem : (s : Pair channels rows) → text_look (text_of s) ≡ map_look text_of (pair_look s)
  unfolding pair_look
  text_look_lem s = sym (look_both s.rel).left

  image_look_lem : (s : Pair channels rows) → image_look rows (spot_of s) ≡ map_look spot_of (pair_look s)
  unfolding pair_look
  image_look_lem s = sym (look_both s.rel).right

  -- THE START: each task's body, and its first row.
  begins : (bs : List Body) (i : ℕ) → All (λ b. ProperB channels b 0) bs → Holds rows i (rows_t bs i)
      → (ps : List (Pair channels rows)) × (map text_of ps ≡ map (λ b. enter b []) bs) × (map spot_of ps ≡ map (spot (replicate depth_limit 0)) (first_rows bs i))
  unfolding rows_t first_rows laps_of
  begins [] i p h = ([], refl, refl)
  begins (b ∷ bs) i p h =
      let e = i + size_b b in
      let hh = split_b rows b 0 i e _ h in
      let here = entering b {ls = []} i e p.0 hh.0 (fin hh.1.0) in
      let more = begins bs (suc e) p.1 hh.1.1 in
      (pair here ∷ more.0, ap (λ ps. enter b [] ∷ ps) more.1, ap₂ (λ n ps. spot (replicate depth_limit 0) n ∷ ps) (entry_first b i) more.2)

-- Any rows that are read as the job's: the text and the rows give the same turns.
pub same_rows : (j : Job) (rows : Rows) → All (λ b. ProperB (length j.capacities) b 0) j.tasks → Holds rows 0 (rows_t j.tasks 0) → (ss : List (Task × ℕ))
    → map seen_turn (runs text_look ss (text_start j)) ≡ map seen_turn (runs (image_look rows) ss (image_start j.capacities (first_rows j.tasks 0)))
unfolding text_start image_start
same_rows j rows p h ss =
    let n = length j.capacities in
    let ps = begins n rows j.tasks 0 p h in
    let m = fresh j.capacities ps.0 in
    ap (λ l. map seen_turn (runs text_look ss (fresh j.capacities l))) (sym ps.1)
    ∙ ap (λ k. map seen_turn (runs text_look ss k)) (sym (fresh-map (text_of n rows) j.capacities ps.0))
    ∙ runs_seen (text_of n rows) (pair_look n rows) text_look (text_look_lem n rows) ss m
    ∙ sym (runs_seen (spot_of n rows) (pair_look n rows) (image_look rows) (image_look_lem n rows) ss m)
    ∙ ap (λ k. map seen_turn (runs (image_look rows) ss k)) (fresh-map (spot_of n rows) j.capacities ps.0)
    ∙ ap (λ l. map seen_turn (runs (image_look rows) ss (fresh j.capacities l))) ps.2

-- The image alone, its bytes read behind any bytes: rows, capacities and first rows.
pub same_runs : (pre : List ℕ) (j : Job) → Proper j → (ss : List (Task × ℕ))
    → map seen_turn (runs text_look ss (text_start j)) ≡ map seen_turn (runs (image_look (rows_of (pre ++ job_image j))) ss (start_of (pre ++ job_image j)))
unfolding start_of
same_runs pre j p ss =
    same_rows j (rows_of (pre ++ job_image j)) p.bodies (rows_of_back pre j p) ss
    ∙ ap₂ (λ cs fs. map seen_turn (runs (image_look (rows_of (pre ++ job_image j))) ss (image_start cs fs))) (sym (capacities_of_back pre j p)) (sym (first_rows_of_back pre j p))
