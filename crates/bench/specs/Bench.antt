-- What the benchmark's rounds come to: the stamp behind them.
use Rattle.std.specs.Prelude.{cond, List, [], ◌∷◌, ℕ, zero, suc, eqb}
use Rattle.bench.specs.Kinds.{Task, State}
use Rattle.meaning.specs.Image.{task_no}
use Rattle.meaning.specs.Bytes.{body_of}
use Rattle.image_rows.specs.Rows.{counts_of}
use Rattle.machine_records.specs.Values.{Values, changed}
use Rattle.machine_records.specs.Step.{stepped}
use Rattle.machine_store.specs.Store.{records_of}
use Rattle.machine.specs.Public.{turned}

-- The stamp behind n turns from one state: that state's own where none is made.
abbrev pub stamp_behind : ℕ → ℕ → ℕ → ℕ
stamp_behind zero before after = before
stamp_behind (suc n) before after = after

abbrev pub step_rounds : List ℕ → ℕ → Values → Task → ℕ → ℕ → State → ℕ
step_rounds rs rows b t choice n s = stamp_behind n (records_of s).stamp (stepped rs rows (records_of s) b t choice).after.stamp

-- The same with whole turns, image check and fit included.
abbrev pub turn_rounds : List ℕ → Values → Task → ℕ → ℕ → State → ℕ
turn_rounds bs b t choice n s = stamp_behind n (records_of s).stamp (records_of (turned bs s b t choice).state).stamp

-- A schedule of pairs, task and choice, and then the rounds: whole turns by way 2, bare steps by any other.
module _ (bs : List ℕ) (t : Task) (choice rounds : ℕ) where
  abbrev pub rounds_of : ℕ → State → Values → ℕ
  rounds_of way s b = cond (eqb way 2) (turn_rounds bs b t choice rounds s) (step_rounds (body_of bs) (counts_of bs).rows b t choice rounds s)

  unfoldable pub after_pairs : ℕ → List ℕ → State → Values → ℕ
  after_pairs way [] s b = rounds_of way s b
  after_pairs way (u ∷ []) s b = rounds_of way s b
  after_pairs way (u ∷ k ∷ ps) s b = after_pairs way ps (turned bs s b (task_no u) k).state (changed b (turned bs s b (task_no u) k).change)
