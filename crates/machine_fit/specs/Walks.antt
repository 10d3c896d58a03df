-- What the walks of this crate answer, for the contracts of its private functions. `fitting` rests on nothing here.
use Rattle.std.specs.Prelude.{◌≡◌, Bool, ◌&&◌, List, ℕ, ◌<◌, get_or}
use Rattle.machine_fit.specs.Kinds.{Task, Counts}
use Rattle.meaning.specs.Image.{task_no}
use Rattle.meaning.specs.Numbers.{task_limit}
use Rattle.meaning_laws.specs.Fits.{times}
use Rattle.machine_records.specs.Records.{Records}
use Rattle.machine_records.specs.Fitting.{every, name_fits, task_fits, length_fits}

-- What the walk over the order leaves in its sixteen cells: how often each task is named.
abbrev pub Counted : List ℕ → List Task → Type 0
Counted cells order = (t : ℕ) → t < task_limit → get_or cells t 0 ≡ times (task_no t) order

module _ (rs : List ℕ) where
  -- The three walks of `fitting`.
  abbrev pub walks_fit : Counts → Records → Bool
  walks_fit k s = every (name_fits k s) s.waiting 0 && (every (length_fits rs k s) k.channels 0 && every (task_fits rs k s) k.tasks 0)
