-- What the rounds of the fit come to: how many said yes, so that no round can be left out.
use Rattle.std.specs.Prelude.{◌≡◌, ℕ, zero, suc, ◌+◌, ◌%◌, cond, List, [], ◌∷◌, replicate}
use Rattle.meaning.specs.Image.{task_no}
use Rattle.meaning.specs.Bytes.{body_of}
use Rattle.image_rows.specs.declared.Counts.{Counts}
use Rattle.image_rows.specs.Rows.{counts_of}
use Rattle.machine_records.specs.Records.{Records}
use Rattle.machine_records.specs.Values.{Values, changed}
use Rattle.machine_records.specs.Step.{stepped}
use Rattle.machine_store.specs.Store.{records_in, records_of}
use Rattle.machine_fit.specs.Fitted.{fitting_in}
use Rattle.machine.specs.Public.{started, fresh_values}

module _ (rs : List ℕ) (k : Counts) where
  -- The fit again and again, behind a no of the state cleared; the answers yes are counted.
  unfoldable pub fit_rounds : ℕ → ℕ → List ℕ → List ℕ → ℕ
  fit_rounds zero count w c = count
  fit_rounds (suc n) count w c = cond (fitting_in rs k w c) (fit_rounds n ((count + 1) % 65536) w c) (fit_rounds n count (replicate 33 0) (replicate 181 0))

module _ (rs : List ℕ) (rows : ℕ) where
  -- A schedule of pairs, task and choice, each a bare step.
  unfoldable pub led_on : List ℕ → Records → Values → Records
  led_on [] s b = s
  led_on (u ∷ []) s b = s
  led_on (u ∷ k ∷ ps) s b = led_on ps (stepped rs rows s b (task_no u) k).after (changed b (stepped rs rows s b (task_no u) k).change)

-- A job started, led on by the pairs to the arrays w and c, and their fit asked so many times.
pub record FitsCounted (bs ps : List ℕ) (rounds count : ℕ) : Type 0 where
  pub w : List ℕ
  pub c : List ℕ
  pub led : records_in w c ≡ led_on (body_of bs) (counts_of bs).rows ps (records_of (started bs).state) fresh_values
  pub counted : count ≡ fit_rounds (body_of bs) (counts_of bs) rounds 0 w c
