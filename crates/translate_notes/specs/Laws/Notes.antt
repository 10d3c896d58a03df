-- A note within the limit is its three numbers stored; and there are three numbers for each row.
use Rattle.std.specs.Prelude.{◌≡◌, refl, List, [], ◌∷◌, ◌++◌, ℕ, suc, ◌+◌, ◌*◌, ◌<◌, length}
use Rattle.std.proofs.Common.{arith, lt-ltb, length-append}
use Rattle.std.proofs.lemmas.List.Edits.{sets}
use Rattle.meaning.specs.Numbers.{row_limit}
use Rattle.meaning.specs.Text.{Stmt, operate, close, stop, range, repeat, ifok, select, Body, empty, ◌▸◌, Cases, nomore, default, case}
use Rattle.meaning.specs.Layout.{case_count, size_s, size_b, size_c}
use Rattle.translate_notes.specs.Notes.{inside_s, notes_b, notes_c, noted}

pub noted_in : (old : List ℕ) (row head arg size : ℕ) → row < row_limit → noted old row head arg size ≡ sets old (3 * row) (head ∷ arg ∷ size ∷ [])
unfolding noted
noted_in old row head arg size h = rw (lt-ltb row row_limit h)

both : (xs ys : List ℕ) (m n : ℕ) → length xs ≡ 3 * m → length ys ≡ 3 * n → length (xs ++ ys) ≡ 3 * (m + n)
both xs ys m n e f = let q = length-append xs ys in omega arith

mutual
  unfolding inside_s notes_b notes_c size_s size_b size_c case_count

  pub inside_length : (s : Stmt) (d : ℕ) → suc (suc (suc (length (inside_s s d)))) ≡ 3 * size_s s
  inside_length (operate o) d = refl
  inside_length (close p) d = refl
  inside_length stop d = refl
  inside_length (range p b) d = let q = notes_b_length b (suc d) in omega arith
  inside_length (repeat n b) d = let q = notes_b_length b (suc d) in omega arith
  inside_length (ifok b c) d =
      let q = both (notes_b b (suc d)) (notes_b c (suc d)) (size_b b) (size_b c) (notes_b_length b (suc d)) (notes_b_length c (suc d)) in
      omega arith
  inside_length (select cs) d = let q = notes_c_length cs (suc d) in omega arith

  pub notes_b_length : (b : Body) (d : ℕ) → length (notes_b b d) ≡ 3 * size_b b
  notes_b_length empty d = refl
  notes_b_length (s ▸ b) d =
      let q = length-append (inside_s s d) (notes_b b d) in
      let e = inside_length s d in
      let f = notes_b_length b d in
      omega arith

  pub notes_c_length : (cs : Cases) (d : ℕ) → length (notes_c cs d) ≡ 3 * (case_count cs + size_c cs)
  notes_c_length nomore d = refl
  notes_c_length (default b) d = let q = notes_b_length b d in omega arith
  notes_c_length (case o b cs) d =
      let q = both (notes_b b d) (notes_c cs d) (size_b b) (case_count cs + size_c cs) (notes_b_length b d) (notes_c_length cs d) in
      omega arith
