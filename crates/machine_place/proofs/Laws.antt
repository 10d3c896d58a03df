-- What a row's op tells. Assumes nothing.
use mathlib.Core.Path.{◌≡◌, refl, sym}
use mathlib.Core.Bool.{Bool, true, false, cond, not}
use Prim.Native.Nat.{ℕ, ◌<◌}
use native.Mathlib.Omega.{arith}
use borrow.Author.Tests.{ne_eqb, le-ltb}
use lib.Dec.{eqb, ltb}
use Rattle.machine_place.specs.Kinds.{Fields, Row, Wait, Go}
use Rattle.meaning.specs.Bytes.{fields, statement_of}
use Rattle.meaning.specs.Laws.Ops.{beyond, by_op}
use Rattle.machine_records.specs.Fitting.{no_default, can_wait}

-- As the code asks it: ops 1 to 3, 5, and 8 without default.
abbrev pub op_waits : ℕ → ℕ → Bool
op_waits op arg = cond (ltb op 4) (ltb 0 op) (cond (eqb op 8) (not (eqb arg 1)) (eqb op 5))

no_default_lem : (b : Bool) (n : Row) → no_default (cond b (Go n) Wait) ≡ not b
no_default_lem true n = refl
no_default_lem false n = refl

past_ops : (n arg : ℕ) → 8 < n → op_waits n arg ≡ false
past_ops n arg h = rw (le-ltb n 4 (omega arith), ne_eqb n 8 (λ e. omega arith), ne_eqb n 5 (λ e. omega arith))

pub op_waits_lem : (f : Fields) → can_wait (statement_of f) ≡ op_waits f.op f.arg
unfolding statement_of
op_waits_lem f =
    by_op (λ n. can_wait (statement_of (fields n f.chan f.arg f.next f.other)) ≡ op_waits n f.arg)
    refl refl refl refl refl refl refl refl (no_default_lem (eqb f.arg 1) (record { 0 = f.next })) refl refl refl refl
    (λ n. sym (past_ops (beyond n) f.arg (omega arith))) f.op
