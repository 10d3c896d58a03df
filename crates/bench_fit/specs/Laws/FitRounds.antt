-- One round, and one pair, of the loops.
use Rattle.std.specs.Prelude.{◌≡◌, ℕ, zero, suc, ◌+◌, ◌-◌, ◌%◌, ◌<◌, ◌≤◌, cond, List, [], ◌∷◌, length, drop, replicate, slice_index}
use Rattle.std.proofs.Math.Path.{refl}
use Rattle.std.proofs.Common.{ap, ap₂, ◌∙◌}
use Rattle.std.proofs.Math.Numerals.{add-one}
use native.Mathlib.Omega.{arith}
use Rattle.std.proofs.Math.ListN.{length-drop}
use Rattle.std.proofs.Math.Seq.{drop-cons}
use Rattle.meaning.specs.Image.{task_no}
use Rattle.image_rows.specs.declared.Counts.{Counts}
use Rattle.machine_records.specs.Records.{Records}
use Rattle.machine_records.specs.Values.{Values, changed}
use Rattle.machine_records.specs.Step.{stepped}
use Rattle.meaning.specs.Bytes.{body_of}
use Rattle.image_rows.specs.Rows.{counts_of}
use Rattle.machine_store.specs.declared.State.{State}
use Rattle.machine_store.specs.Store.{records_of, Made}
use Rattle.machine_fit.specs.Fitted.{fitting_in}
use Rattle.machine.specs.Public.{started, fresh_values}
use Rattle.bench_fit.specs.FitRounds.{fit_rounds, led_on, FitsCounted}

module _ (rs : List ℕ) (k : Counts) where
  pub fit_round : (n count : ℕ) (w c : List ℕ) → 0 < n → fit_rounds rs k n count w c ≡ cond (fitting_in rs k w c) (fit_rounds rs k (n - 1) ((count + 1) % 65536) w c) (fit_rounds rs k (n - 1) count (replicate 33 0) (replicate 181 0))
  unfolding fit_rounds
  fit_round zero count w c h = absurd (omega arith)
  fit_round (suc n) count w c h =
      let e : suc n - 1 ≡ n = omega arith in
      rw e

module _ (rs : List ℕ) (rows : ℕ) (ps : List ℕ) (i : ℕ) (s : Records) (b : Values) where
  pub pair_step : i + 1 < length ps → led_on rs rows (drop i ps) s b ≡ led_on rs rows (drop (i + 2) ps) (stepped rs rows s b (task_no (slice_index ps i)) (slice_index ps (i + 1))).after (changed b (stepped rs rows s b (task_no (slice_index ps i)) (slice_index ps (i + 1))).change)
  unfolding led_on
  pair_step h =
      let two : suc (i + 1) ≡ i + 2 = omega arith in
      rw (drop-cons ps i 0 (omega arith), ← add-one i, drop-cons ps (i + 1) 0 h, two)

  pub pairs_end : length ps ≤ i + 1 → led_on rs rows (drop i ps) s b ≡ s
  unfolding led_on
  pairs_end h = short (drop i ps) (simp length-drop (omega arith))
    where
      short : (l : List ℕ) → length l ≤ 1 → led_on rs rows l s b ≡ s
      short [] n = refl
      short (u ∷ []) n = refl
      short (u ∷ k ∷ l) n = absurd (omega arith)

-- The whole: what was read of the image, the state that it starts with, and the arrays that the pairs lead to.
pub counted_so : {x y : State} (bs ps : List ℕ) (rounds count : ℕ) (body : List ℕ) (k : Counts) → body ≡ body_of bs → k ≡ counts_of bs → records_of x ≡ records_of (started bs).state
    → Made x y (λ s. led_on body k.rows ps s fresh_values) → count ≡ fit_rounds body k rounds 0 y.words y.cells → FitsCounted bs ps rounds count
counted_so {y = y} bs ps rounds count body k eb ek es made e = record {
  w = y.words;
  c = y.cells;
  led = made.same ∙ ap (λ s. led_on body k.rows ps s fresh_values) es ∙ ap₂ (λ (r : List ℕ) (q : Counts). led_on r q.rows ps (records_of (started bs).state) fresh_values) eb ek;
  counted = e ∙ ap₂ (λ (r : List ℕ) (q : Counts). fit_rounds r q rounds 0 y.words y.cells) eb ek;
}
