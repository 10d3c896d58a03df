-- Each line of the table is what `row_good` says at its op, and the case rows to come behind a row are told by its op and chan.
use Rattle.std.specs.Prelude.{◌≡◌, Bool, cond, ◌&&◌, List, leb, ltb}
use Rattle.std.proofs.Math.Path.{refl}
use Rattle.std.proofs.Common.{sym, ap, ◌∙◌}
use Rattle.std.proofs.Math.Bool.{true, false, and-true, and-false, and_assoc}
use Prim.Native.Nat.{ℕ, zero, suc, ◌-◌, ◌≤◌, ◌<◌}
use native.Mathlib.Omega.{arith}
use borrow.Author.Tests.{eqb-true, eqb-false, eq-eqb, ne_eqb, lt-leb}
use Rattle.std.proofs.Math.Dec.{eqb}
use Rattle.std.proofs.Math.ListN.{get_or-eq_default}
use Rattle.image_row.specs.Kinds.{Nil, On, Stop, Fields}
use Rattle.meaning.specs.Numbers.{case_limit}
use Rattle.meaning.specs.Events.{port_number}
use Rattle.meaning.specs.Laws.Ops.{beyond, by_op}
use Rattle.meaning.specs.Bytes.{fields, fields_of, port_of, statement_of}
use Rattle.image_row.specs.Row.{in_table, is_case_op, owed_after, op_good, otherwise_good, statement_good, row_good}
use Rattle.image_row.specs.Table.{stop_good, repeat_good, ifok_good, select_good, send_good, forward_good, range_good}

-- THE LINES ARE THE TABLE'S

port_number_lem : (n : ℕ) → port_number (port_of n) ≡ n
port_number_lem n = by (eqb n 255) refl
  where
    by : (b : Bool) → eqb n 255 ≡ b → port_number (cond b Nil (On (record { 0 = n }))) ≡ n
    by true e = sym (eqb-true n 255 e)
    by false e = refl

same : (n : ℕ) → eqb n n ≡ true
same n = eq-eqb n n refl

swap : (a b c : Bool) → (a && (b && c)) ≡ (b && (a && c))
swap true b c = refl
swap false true c = refl
swap false false c = refl

-- A case row's zeros ahead of the case rows to come, and a select's without default.
case_order : (a m l x : Bool) → ((a && m) && (l && x)) ≡ (l && (a && (m && x)))
case_order a m l x = swap (a && m) l x ∙ ap (l &&◌) (and_assoc a m x)

select_order : (a n m l c : Bool) → ((a && (n && m)) && (l && c)) ≡ (m && (l && ((a && n) && c)))
select_order true true m l c = refl
select_order true false true true c = refl
select_order true false true false c = refl
select_order true false false l c = refl
select_order false n true true c = refl
select_order false n true false c = refl
select_order false n false l c = refl

-- An op that has no line of its own: 2 to 4 share one, 10 and 11 too, and no other op has any.
abbrev NoLine : ℕ → Type 0
NoLine n =
    ((((((Unit {0} × (n ≡ 1 → ⊥)) × (n ≡ 5 → ⊥)) × (n ≡ 6 → ⊥)) × (n ≡ 7 → ⊥)) × (n ≡ 8 → ⊥)) × (n ≡ 9 → ⊥)) × (n ≡ 12 → ⊥)

two : (n : ℕ) → 1 ≤ n → (n ≡ 1 → ⊥) → 2 ≤ n
two n l x = omega arith

eleven : (n : ℕ) → 5 ≤ n → (n ≡ 5 → ⊥) → (n ≡ 6 → ⊥) → (n ≡ 7 → ⊥) → (n ≡ 8 → ⊥) → (n ≡ 9 → ⊥) → (n ≡ 10 → ⊥) → n < 12 → n ≡ 11
eleven n l x5 x6 x7 x8 x9 x10 h = omega arith

thirteen : (n : ℕ) → 12 ≤ n → (n ≡ 12 → ⊥) → 12 < n
thirteen n l x = omega arith

module _ (rs : List ℕ) (rows channels i owed : ℕ) (f : Fields) where
  pub send_row : f.op ≡ 1 → row_good rs rows channels i owed f ≡ send_good rs rows channels f
  unfolding row_good in_table statement_good statement_of fields_of op_good
  send_row e = rw (e, port_number_lem, same f.chan, same f.arg, same f.next)

  pub range_row : f.op ≡ 5 → row_good rs rows channels i owed f ≡ range_good rs rows channels f
  unfolding row_good in_table statement_good statement_of fields_of
  range_row e = simp (e, port_number_lem, same, and-true)

  pub repeat_row : f.op ≡ 6 → row_good rs rows channels i owed f ≡ repeat_good rs rows f
  unfolding row_good in_table statement_good statement_of fields_of
  repeat_row e = simp (e, same)

  pub ifok_row : f.op ≡ 7 → row_good rs rows channels i owed f ≡ ifok_good rs rows f
  unfolding row_good in_table statement_good statement_of fields_of
  ifok_row e = simp (e, same, and-true, and_assoc)

  pub stop_row_lem : f.op ≡ 12 → row_good rs rows channels i owed f ≡ stop_good f
  unfolding row_good in_table statement_good statement_of fields_of
  stop_row_lem e = simp (e, and-true)

  pub case_send_row : f.op ≡ 9 → row_good rs rows channels i owed f ≡ (ltb 0 owed && send_good rs rows channels f)
  unfolding row_good in_table statement_good statement_of fields_of op_good
  case_send_row e = rw (e, port_number_lem, same f.chan, same f.arg, same f.next) (swap (eqb f.other 0) (ltb 0 owed) _)

  pub select_row : f.op ≡ 8 → row_good rs rows channels i owed f ≡ select_good rs rows i f
  unfolding row_good in_table statement_good statement_of fields_of otherwise_good
  select_row e = by (eqb f.arg 1) refl
    where
      by : (b : Bool) → eqb f.arg 1 ≡ b → row_good rs rows channels i owed f ≡ select_good rs rows i f
      by true z = simp (e, z, same)
      by false z = simp (e, z, same) (select_order (eqb f.arg 0) (eqb f.next 0) (eqb f.other 0) (leb f.chan case_limit) _)

  pub forward_row : NoLine f.op → 1 ≤ f.op → f.op < 5 → row_good rs rows channels i owed f ≡ forward_good rs rows channels f
  unfolding row_good in_table statement_good statement_of fields_of op_good
  forward_row none l h = by f.op refl (two f.op l none.0.0.0.0.0.0.1) h
    where
      by : (n : ℕ) → f.op ≡ n → 2 ≤ n → n < 5 → row_good rs rows channels i owed f ≡ forward_good rs rows channels f
      by zero e l h = absurd (omega arith)
      by (suc zero) e l h = absurd (omega arith)
      by (suc (suc zero)) e l h = simp (e, port_number_lem, same, and_assoc)
      by (suc (suc (suc zero))) e l h = simp (e, port_number_lem, same, and_assoc)
      by (suc (suc (suc (suc zero)))) e l h = simp (e, port_number_lem, same, and_assoc)
      by (suc (suc (suc (suc (suc n))))) e l h = absurd (omega arith)

  pub case_forward_row : NoLine f.op → 5 ≤ f.op → f.op < 12 → row_good rs rows channels i owed f ≡ (ltb 0 owed && forward_good rs rows channels f)
  unfolding row_good in_table statement_good statement_of fields_of op_good
  case_forward_row none l h = by (eqb f.op 10) refl
    where
      by : (b : Bool) → eqb f.op 10 ≡ b → row_good rs rows channels i owed f ≡ (ltb 0 owed && forward_good rs rows channels f)
      by true z =
          let e : f.op ≡ 10 = eqb-true f.op 10 z in
          simp (e, port_number_lem, same) (case_order (eqb f.arg 0) (eqb f.other 0) (ltb 0 owed) _)
      by false z =
          let n = none.0 in
          let e : f.op ≡ 11 = eleven f.op l n.0.0.0.0.1 n.0.0.0.1 n.0.0.1 n.0.1 n.1 (eqb-false f.op 10 z) h in
          simp (e, port_number_lem, same) (case_order (eqb f.arg 0) (eqb f.other 0) (ltb 0 owed) _)

  past : 12 < f.op → statement_of f ≡ Stop
  unfolding statement_of
  past h = rw (get_or-eq_default, h)

  pub past_row : NoLine f.op → 12 ≤ f.op → row_good rs rows channels i owed f ≡ false
  unfolding row_good in_table fields_of
  past_row none l = rw (past (thirteen f.op l none.1), ne_eqb f.op 12 none.1)

  pub zero_row : f.op < 1 → row_good rs rows channels i owed f ≡ false
  unfolding row_good in_table statement_of fields_of
  zero_row h =
      let e : f.op ≡ 0 = omega arith in
      simp e

-- THE CASE ROWS TO COME

-- A select names so many, a case row is one of them, and behind any other row none is to come.
abbrev owed_behind : ℕ → ℕ → ℕ → ℕ
owed_behind owed op chan = cond (eqb op 8) chan (cond (is_case_op op) (owed - 1) 0)

past_owed : (owed op chan : ℕ) → 12 < op → owed_behind owed op chan ≡ 0
past_owed owed op chan h = rw (ne_eqb op 8 (λ e. omega arith), lt-leb op 11 (omega arith), and-false)

pub owed_behind_lem : (owed : ℕ) (f : Fields) → owed_after owed (statement_of f) ≡ owed_behind owed f.op f.chan
unfolding owed_after statement_of
owed_behind_lem owed f =
    by_op (λ n. owed_after owed (statement_of (fields n f.chan f.arg f.next f.other)) ≡ owed_behind owed n f.chan) refl refl refl refl refl refl refl refl refl refl refl refl refl
    (λ n. sym (past_owed owed (beyond n) f.chan (omega arith))) f.op
