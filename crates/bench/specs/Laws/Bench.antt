-- One round, and one pair, of the benchmark's loops.
use Rattle.std.specs.Prelude.{◌≡◌, get_or, drop}
use Rattle.std.proofs.Math.Path.{refl}
use mathlib.Core.List.{List, [], ◌∷◌}
use Prim.Native.Nat.{ℕ, zero, suc, ◌+◌, ◌-◌, ◌≤◌, ◌<◌}
use Rattle.std.proofs.Math.Numerals.{add-one}
use native.Mathlib.Omega.{arith}
use Rattle.std.proofs.Math.ListN.{length, length-drop}
use Rattle.std.proofs.Math.Seq.{drop-cons}
use Rattle.bench.specs.Kinds.{Task, State}
use Rattle.machine_records.specs.Values.{Values, changed}
use Rattle.machine.specs.Public.{turned}
use Rattle.meaning.specs.Image.{task_no}
use Rattle.bench.specs.Bench.{stamp_behind, rounds_of, after_pairs}

-- What holds of the stamp while `left` of n rounds are left.
pub record Rounds (n left stamp before after : ℕ) : Type 0 where
  pub most : left ≤ n
  pub none : left ≡ n → stamp ≡ before
  pub some : left < n → stamp ≡ after

pub rounds_begin : (n before after : ℕ) → Rounds n n before before after
rounds_begin n before after = record { most = omega arith; none = λ e. refl; some = λ h. absurd (omega arith) }

pub rounds_again : (n left stamp before after new : ℕ) → Rounds n left stamp before after → 0 < left → new ≡ after → Rounds n (left - 1) new before after
rounds_again n left stamp before after new r h e = (let m = r.most in record { most = omega arith; none = λ z. absurd (omega arith); some = λ z. e })

pub rounds_end : (n left stamp before after : ℕ) → Rounds n left stamp before after → left ≤ 0 → stamp ≡ stamp_behind n before after
rounds_end zero left stamp before after r h = r.none (omega arith)
rounds_end (suc n) left stamp before after r h = r.some (omega arith)

module _ (bs : List ℕ) (t : Task) (choice rounds : ℕ) where
  pub pair_step : (way : ℕ) (ps : List ℕ) (i : ℕ) (s : State) (b : Values) → i + 1 < length ps → after_pairs bs t choice rounds way (drop i ps) s b ≡ after_pairs bs t choice rounds way (drop (i + 2) ps) (turned bs s b (task_no (get_or ps i 0)) (get_or ps (i + 1) 0)).state (changed b (turned bs s b (task_no (get_or ps i 0)) (get_or ps (i + 1) 0)).change)
  unfolding after_pairs
  pair_step way ps i s b h =
      let two : suc (i + 1) ≡ i + 2 = omega arith in
      rw (drop-cons ps i 0 (omega arith), ← add-one i, drop-cons ps (i + 1) 0 h, two)

  pub pairs_end : (way : ℕ) (ps : List ℕ) (i : ℕ) (s : State) (b : Values) → length ps ≤ i + 1 → after_pairs bs t choice rounds way (drop i ps) s b ≡ rounds_of bs t choice rounds way s b
  unfolding after_pairs
  pairs_end way ps i s b h = short (drop i ps) s b (simp length-drop (omega arith))
    where
      short : (l : List ℕ) (s : State) (b : Values) → length l ≤ 1 → after_pairs bs t choice rounds way l s b ≡ rounds_of bs t choice rounds way s b
      short [] s b n = refl
      short (u ∷ []) s b n = refl
      short (u ∷ k ∷ l) s b n = absurd (omega arith)
