-- The rows laid out for a job, however they are read: how many they are, and that each keeps the rules of the image check.
use Rattle.std.specs.Prelude.{◌≡◌, refl, true, length, get_or}
use Rattle.std.proofs.Math.Path.{ap, subst}
use Rattle.std.proofs.Common.{ap₂, ◌∙◌, add-zero, length-append}
use Rattle.std.proofs.Math.Bool.{false}
use mathlib.Core.List.{List, [], ◌∷◌, ◌++◌}
use Prim.Native.Nat.{ℕ, zero, suc, ◌+◌, ◌-◌, ◌≤◌, ◌<◌}
use native.Mathlib.Omega.{arith}
use Rattle.std.proofs.Math.Seq.{get_or-append_seam, append_snoc}
use Rattle.image_laws.specs.Kinds.{Row, Otherwise, Wait, Go, Statement, Do, Close, Range, Repeat, Ifok, Select, Case, Stop}
use Rattle.meaning.specs.Numbers.{case_limit, lap_limit, depth_limit}
use Rattle.meaning.specs.Text.{Stmt, operate, close, stop, range, repeat, ifok, select, Body, empty, ◌▸◌, Cases, nomore, default, case}
use Rattle.meaning.specs.Image.{row_no, Rows}
use Rattle.meaning.specs.Layout.{case_count, size_s, size_b, size_c, entry, case_rows, default_row, rows_s, rows_b, rows_c, rows_t, first_rows}
use Rattle.image_row.specs.Row.{owed_after}
use Rattle.image_check.specs.Sound.{is_case, PortSound}
use Rattle.meaning_laws.specs.Lists.{All}
use Rattle.image_laws.specs.Proper.{ProperOp, ProperS, ProperB, ProperC}

-- HOW MANY ROWS

pub case_rows_length : (cs : Cases) (i j : ℕ) → length (case_rows cs i j) ≡ case_count cs
unfolding case_rows case_count
case_rows_length nomore i j = refl
case_rows_length (default b) i j = refl
case_rows_length (case o b cs) i j = ap suc (case_rows_length cs (i + size_b b) j)

mutual
  unfolding rows_s rows_b rows_c size_s size_b size_c

  pub rows_s_length : (s : Stmt) (d i j : ℕ) → length (rows_s s d i j) ≡ size_s s
  rows_s_length (operate o) d i j = refl
  rows_s_length (close p) d i j = refl
  rows_s_length stop d i j = refl
  rows_s_length (range p b) d i j = ap suc (rows_b_length b (suc d) (suc i) i)
  rows_s_length (repeat n b) d i j = ap suc (rows_b_length b (suc d) (suc i) i)
  rows_s_length (ifok b c) d i j = ap suc (length-append (rows_b b (suc d) (suc i) j) _ ∙ ap₂ ◌+◌ (rows_b_length b (suc d) (suc i) j) (rows_b_length c (suc d) (suc i + size_b b) j))
  rows_s_length (select cs) d i j =
      let top = suc i + case_count cs in
      ap suc (length-append (case_rows cs top j) _ ∙ ap₂ ◌+◌ (case_rows_length cs top j) (rows_c_length cs (suc d) top j))

  pub rows_b_length : (b : Body) (d i j : ℕ) → length (rows_b b d i j) ≡ size_b b
  rows_b_length empty d i j = refl
  rows_b_length (s ▸ b) d i j =
      let e = (entry b (i + size_s s) j).0 in
      length-append (rows_s s d i e) _ ∙ ap₂ ◌+◌ (rows_s_length s d i e) (rows_b_length b d (i + size_s s) j)

  pub rows_c_length : (cs : Cases) (d i j : ℕ) → length (rows_c cs d i j) ≡ size_c cs
  rows_c_length nomore d i j = refl
  rows_c_length (default b) d i j = rows_b_length b d i j
  rows_c_length (case o b cs) d i j = length-append (rows_b b d i j) _ ∙ ap₂ ◌+◌ (rows_b_length b d i j) (rows_c_length cs d (i + size_b b) j)

-- A task's rows, its stop row, and those of the tasks behind it.
pub rows_t-length : (b : Body) (bs : List Body) (i : ℕ) → length (rows_t (b ∷ bs) i) ≡ suc (size_b b) + length (rows_t bs (suc (i + size_b b)))
unfolding rows_t
rows_t-length b bs i =
    let e = i + size_b b in
    let a = length-append (rows_b b 0 i e) (Stop ∷ rows_t bs (suc e)) in
    let c = rows_b_length b 0 i e in
    omega arith

-- The rows of tasks, counted from their sizes.
unfoldable pub size_t : List Body → ℕ
size_t [] = 0
size_t (b ∷ bs) = suc (size_b b) + size_t bs

pub rows_t_size : (bs : List Body) (i : ℕ) → length (rows_t bs i) ≡ size_t bs
unfolding rows_t size_t
rows_t_size [] i = refl
rows_t_size (b ∷ bs) i = rows_t-length b bs i ∙ ap (suc (size_b b) +◌) (rows_t_size bs (suc (i + size_b b)))

pub first_rows-length : (bs : List Body) (i : ℕ) → length (first_rows bs i) ≡ length bs
unfolding first_rows
first_rows-length [] i = refl
first_rows-length (b ∷ bs) i = ap suc (first_rows-length bs (suc (i + size_b b)))

pub positive : (s : Stmt) → 1 ≤ size_s s
unfolding size_s
positive (operate o) = omega arith
positive (close p) = omega arith
positive stop = omega arith
positive (range p b) = omega arith
positive (repeat n b) = omega arith
positive (ifok b c) = omega arith
positive (select cs) = omega arith

-- A task begins at the row where its body would stand: an empty one leads to the stop row, which stands there.
pub entry_first : (b : Body) (i : ℕ) → entry b i (i + size_b b) ≡ row_no i
unfolding entry size_b
entry_first empty i = ap row_no (add-zero i)
entry_first (s ▸ b) i = refl

-- WHERE THEY STAND

-- These rows are read from row i on.
abbrev pub Holds : Rows → ℕ → List Statement → Type 0
Holds rows i [] = Unit {0}
Holds rows i (x ∷ xs) = (rows (row_no i) ≡ x) × Holds rows (suc i) xs

module _ (rows : Rows) where
  pub holds_left : (i : ℕ) (xs ys : List Statement) → Holds rows i (xs ++ ys) → Holds rows i xs
  holds_left i [] ys h = tt
  holds_left i (x ∷ xs) ys h = (h.0, holds_left (suc i) xs ys h.1)

  pub holds_right : (i k : ℕ) (xs ys : List Statement) → length xs ≡ k → Holds rows i (xs ++ ys) → Holds rows (i + k) ys
  holds_right i k [] ys e h = subst (λ n. Holds rows n ys) (omega arith) h
  holds_right i k (x ∷ xs) ys e h = let z : suc i + length xs ≡ i + k = omega arith in subst (λ n. Holds rows n ys) z (holds_right (suc i) (length xs) xs ys refl h.1)

  pub split_cases : (cs : Cases) (t j i : ℕ) (ys : List Statement) → Holds rows i (case_rows cs t j ++ ys) → Holds rows i (case_rows cs t j) × Holds rows (i + case_count cs) ys
  split_cases cs t j i ys h = (holds_left i (case_rows cs t j) ys h, holds_right i (case_count cs) (case_rows cs t j) ys (case_rows_length cs t j) h)

  pub split_s : (s : Stmt) (d i j : ℕ) (ys : List Statement) → Holds rows i (rows_s s d i j ++ ys) → Holds rows i (rows_s s d i j) × Holds rows (i + size_s s) ys
  split_s s d i j ys h = (holds_left i (rows_s s d i j) ys h, holds_right i (size_s s) (rows_s s d i j) ys (rows_s_length s d i j) h)

  pub split_b : (b : Body) (d i j : ℕ) (ys : List Statement) → Holds rows i (rows_b b d i j ++ ys) → Holds rows i (rows_b b d i j) × Holds rows (i + size_b b) ys
  split_b b d i j ys h = (holds_left i (rows_b b d i j) ys h, holds_right i (size_b b) (rows_b b d i j) ys (rows_b_length b d i j) h)

-- A list of rows, read by number, is read as it stands.
abbrev pub list_rows : List Statement → Rows
list_rows xs = λ r. get_or xs r.0 Stop

holds_behind : (pre xs : List Statement) → Holds (list_rows (pre ++ xs)) (length pre) xs
holds_behind pre [] = tt
holds_behind pre (x ∷ xs) =
    let n : length (pre ++ x ∷ []) ≡ suc (length pre) = length-append pre (x ∷ []) ∙ omega arith in
    (get_or-append_seam pre x xs Stop, subst (λ k. Holds (list_rows (pre ++ x ∷ xs)) k xs) n (subst (λ l. Holds (list_rows l) (length (pre ++ x ∷ [])) xs) (append_snoc pre x xs) (holds_behind (pre ++ x ∷ []) xs)))

pub holds_self : (xs : List Statement) → Holds (list_rows xs) 0 xs
holds_self xs = holds_behind [] xs

-- WHAT EACH ROW KEEPS TO

-- The rules of the check, of `top` rows read as `rows` with so many channels declared, and besides them the range of V.
module _ (rows : Rows) (top channels : ℕ) where
  -- A row to lead to: one of them, and no case row.
  pub record Aim (r : Row) : Type 0 where
    pub below : r.0 < top
    pub plain : is_case (rows r) ≡ false

  abbrev pub OtherwiseLawful : Otherwise → Type 0
  OtherwiseLawful Wait = Unit {0}
  OtherwiseLawful (Go n) = Aim n

  -- The k rows from row i on are case rows.
  abbrev pub CasesLawful : ℕ → ℕ → Type 0
  CasesLawful zero i = Unit {0}
  CasesLawful (suc k) i = (i < top) × (is_case (rows (row_no i)) ≡ true) × CasesLawful k (suc i)

  -- A statement at row i, where so many case rows are still to come.
  abbrev pub StatementLawful : ℕ → ℕ → Statement → Type 0
  StatementLawful owed i (Do o n) = ProperOp channels o × Aim n
  StatementLawful owed i (Close p n) = PortSound channels p × Aim n
  StatementLawful owed i (Range p n a) = PortSound channels p × Aim n × Aim a
  StatementLawful owed i (Repeat d k n a) = (d < depth_limit) × (k ≤ lap_limit) × Aim n × Aim a
  StatementLawful owed i (Ifok n a) = Aim n × Aim a
  StatementLawful owed i (Select k e) = (k ≤ case_limit) × OtherwiseLawful e × CasesLawful k (suc i)
  StatementLawful owed i (Case o n) = (0 < owed) × ProperOp channels o × Aim n
  StatementLawful owed i Stop = Unit {0}

  abbrev pub RowsLawful : ℕ → ℕ → List Statement → Type 0
  RowsLawful owed i [] = Unit {0}
  RowsLawful owed i (x ∷ xs) = StatementLawful owed i x × RowsLawful (owed_after owed x) (suc i) xs

  -- Behind any rows, rows that are laid out whatever was still to come.
  join : (owed i k : ℕ) (xs ys : List Statement) → length xs ≡ k → RowsLawful owed i xs → ((o : ℕ) → RowsLawful o (i + k) ys) → RowsLawful owed i (xs ++ ys)
  join owed i k [] ys e a b = let z : i + k ≡ i = omega arith in subst (λ n. RowsLawful owed n ys) z (b owed)
  join owed i k (x ∷ xs) ys e a b =
      let z : i + k ≡ suc i + length xs = omega arith in
      (a.0, join (owed_after owed x) (suc i) (length xs) xs ys refl a.1 (subst (λ n. (o : ℕ) → RowsLawful o n ys) z b))

  -- The first row of a statement is no case row.
  head_s : (s : Stmt) (d i j : ℕ) → i + size_s s ≤ top → Holds rows i (rows_s s d i j) → Aim (row_no i)
  unfolding rows_s
  head_s s d i j l h = record { below = omega (arith, positive s); plain = first s h }
    where
      first : (s : Stmt) → Holds rows i (rows_s s d i j) → is_case (rows (row_no i)) ≡ false
      first (operate o) h = ap is_case h.0
      first (close p) h = ap is_case h.0
      first stop h = ap is_case h.0
      first (range p b) h = ap is_case h.0
      first (repeat n b) h = ap is_case h.0
      first (ifok b c) h = ap is_case h.0
      first (select cs) h = ap is_case h.0

  aim_entry : (b : Body) (d i j : ℕ) → i + size_b b ≤ top → Holds rows i (rows_b b d i j) → Aim (row_no j) → Aim (entry b i j)
  unfolding entry rows_b size_b
  aim_entry empty d i j l h t = t
  aim_entry (s ▸ b) d i j l h t = head_s s d i (entry b (i + size_s s) j).0 (omega arith) (split_s rows s d i (entry b (i + size_s s) j).0 _ h).0

  -- The default and the case rows of a select whose bodies stand from row i on.
  laid_default : (cs : Cases) (d i j : ℕ) → i + size_c cs ≤ top → Holds rows i (rows_c cs d i j) → Aim (row_no j) → OtherwiseLawful (default_row cs i j)
  unfolding default_row rows_c size_c
  laid_default nomore d i j l h t = tt
  laid_default (default b) d i j l h t = aim_entry b d i j l h t
  laid_default (case o b cs) d i j l h t = laid_default cs d (i + size_b b) j (omega arith) (split_b rows b d i j _ h).1 t

  cases_follow_lem : (cs : Cases) (i j k : ℕ) → k + case_count cs ≤ top → Holds rows k (case_rows cs i j) → CasesLawful (case_count cs) k
  unfolding case_rows case_count
  cases_follow_lem nomore i j k l h = tt
  cases_follow_lem (default b) i j k l h = tt
  cases_follow_lem (case o b cs) i j k l h = (omega arith, ap is_case h.0, cases_follow_lem cs (i + size_b b) j (suc k) (omega arith) h.1)

  laid_cases : (cs : Cases) (d i j k : ℕ) → ProperC channels cs d → i + size_c cs ≤ top → Holds rows i (rows_c cs d i j) → Aim (row_no j) → RowsLawful (case_count cs) k (case_rows cs i j)
  unfolding case_rows case_count rows_c size_c owed_after
  laid_cases nomore d i j k p l h t = tt
  laid_cases (default b) d i j k p l h t = tt
  laid_cases (case o b cs) d i j k p l h t =
      let hh = split_b rows b d i j _ h in
      let less : case_count cs ≡ suc (case_count cs) - 1 = omega arith in (
        (omega arith, p.0, aim_entry b d i j (omega arith) hh.0 t),
        subst (λ n. RowsLawful n (suc k) (case_rows cs (i + size_b b) j)) less (laid_cases cs d (i + size_b b) j (suc k) p.2 (omega arith) hh.1 t),
      )

  mutual
    unfolding rows_s rows_b rows_c size_s size_b size_c owed_after

    laid_s : (s : Stmt) (d i j : ℕ) → ProperS channels s d → i + size_s s ≤ top → Holds rows i (rows_s s d i j) → Aim (row_no j) → (owed : ℕ) → RowsLawful owed i (rows_s s d i j)
    laid_s (operate o) d i j p l h t owed = ((p, t), tt)
    laid_s (close c) d i j p l h t owed = ((p, t), tt)
    laid_s stop d i j p l h t owed = (tt, tt)
    laid_s (range c b) d i j p l h t owed =
        let me = head_s (range c b) d i j l h in
        ((p.1, aim_entry b (suc d) (suc i) i (omega arith) h.1 me, t), laid_b b (suc d) (suc i) i p.2 (omega arith) h.1 me 0)
    laid_s (repeat n b) d i j p l h t owed =
        let me = head_s (repeat n b) d i j l h in
        ((p.0, p.1, aim_entry b (suc d) (suc i) i (omega arith) h.1 me, t), laid_b b (suc d) (suc i) i p.2 (omega arith) h.1 me 0)
    laid_s (ifok b c) d i j p l h t owed =
        let at = suc i + size_b b in
        let hh = split_b rows b (suc d) (suc i) j _ h.1 in (
          (aim_entry b (suc d) (suc i) j (omega arith) hh.0 t, aim_entry c (suc d) at j (omega arith) hh.1 t),
          join 0 (suc i) (size_b b) (rows_b b (suc d) (suc i) j) (rows_b c (suc d) at j) (rows_b_length b (suc d) (suc i) j)
              (laid_b b (suc d) (suc i) j p.1 (omega arith) hh.0 t 0) (λ z. laid_b c (suc d) at j p.2 (omega arith) hh.1 t z),
        )
    laid_s (select cs) d i j p l h t owed =
        let at = suc i + case_count cs in
        let hh = split_cases rows cs at j (suc i) _ h.1 in (
          (p.1, laid_default cs (suc d) at j (omega arith) hh.1 t, cases_follow_lem cs at j (suc i) (omega arith) hh.0),
          join (case_count cs) (suc i) (case_count cs) (case_rows cs at j) (rows_c cs (suc d) at j) (case_rows_length cs at j)
              (laid_cases cs (suc d) at j (suc i) p.2 (omega arith) hh.1 t) (λ z. laid_c cs (suc d) at j p.2 (omega arith) hh.1 t z),
        )

    laid_b : (b : Body) (d i j : ℕ) → ProperB channels b d → i + size_b b ≤ top → Holds rows i (rows_b b d i j) → Aim (row_no j) → (owed : ℕ) → RowsLawful owed i (rows_b b d i j)
    laid_b empty d i j p l h t owed = tt
    laid_b (s ▸ b) d i j p l h t owed =
        let at = i + size_s s in
        let e = (entry b at j).0 in
        let hh = split_s rows s d i e _ h in
        join owed i (size_s s) (rows_s s d i e) (rows_b b d at j) (rows_s_length s d i e)
        (laid_s s d i e p.0 (omega arith) hh.0 (aim_entry b d at j (omega arith) hh.1 t) owed) (λ z. laid_b b d at j p.1 (omega arith) hh.1 t z)

    laid_c : (cs : Cases) (d i j : ℕ) → ProperC channels cs d → i + size_c cs ≤ top → Holds rows i (rows_c cs d i j) → Aim (row_no j) → (owed : ℕ) → RowsLawful owed i (rows_c cs d i j)
    laid_c nomore d i j p l h t owed = tt
    laid_c (default b) d i j p l h t owed = laid_b b d i j p l h t owed
    laid_c (case o b cs) d i j p l h t owed =
        let at = i + size_b b in
        let hh = split_b rows b d i j _ h in
        join owed i (size_b b) (rows_b b d i j) (rows_c cs d at j) (rows_b_length b d i j)
        (laid_b b d i j p.1 (omega arith) hh.0 t owed) (λ z. laid_c cs d at j p.2 (omega arith) hh.1 t z)

  pub laid_t : (bs : List Body) (i : ℕ) → All (λ b. ProperB channels b 0) bs → i + length (rows_t bs i) ≤ top → Holds rows i (rows_t bs i) → (owed : ℕ) → RowsLawful owed i (rows_t bs i)
  unfolding rows_t owed_after
  laid_t [] i p l h owed = tt
  laid_t (b ∷ bs) i p l h owed =
      let e = i + size_b b in
      let n = rows_t-length b bs i in
      let hh = split_b rows b 0 i e (Stop ∷ rows_t bs (suc e)) h in
      join owed i (size_b b) (rows_b b 0 i e) (Stop ∷ rows_t bs (suc e)) (rows_b_length b 0 i e)
      (laid_b b 0 i e p.0 (omega arith) hh.0 (record { below = omega arith; plain = ap is_case hh.1.0 }) owed)
      (λ z. (tt, laid_t bs (suc e) p.1 (omega arith) hh.1.1 0))

  -- The first row of each task.
  pub firsts_aim : (bs : List Body) (i : ℕ) → i + length (rows_t bs i) ≤ top → Holds rows i (rows_t bs i) → All Aim (first_rows bs i)
  unfolding rows_t first_rows
  firsts_aim [] i l h = tt
  firsts_aim (b ∷ bs) i l h =
      let e = i + size_b b in
      let n = rows_t-length b bs i in
      let hh = split_b rows b 0 i e (Stop ∷ rows_t bs (suc e)) h in
      let end : Aim (row_no e) = record { below = omega arith; plain = ap is_case hh.1.0 } in
      (subst Aim (entry_first b i) (aim_entry b 0 i e (omega arith) hh.0 end), firsts_aim bs (suc e) (omega arith) hh.1.1)
