-- Records of the machine's sizes: those that a state's arrays read as, and all that a turn makes of them.
use Rattle.std.specs.Prelude.{◌≡◌, List, ℕ, ◌<◌, length, get_or}
use Rattle.machine_records.specs.Kinds.{TaskState}
use Rattle.meaning.specs.Numbers.{task_limit, channel_limit, depth_limit}
use Rattle.machine_records.specs.Records.{Records, blank_task}

-- Each task counts laps at every depth.
abbrev pub Laps : List TaskState → Type 0
Laps xs = (t : ℕ) → t < task_limit → length (get_or xs t blank_task).laps ≡ depth_limit

pub record Sized (s : Records) : Type 0 where
  pub tasks16 : length s.tasks ≡ task_limit
  pub chans16 : length s.chans ≡ channel_limit
  pub order16 : length s.order ≡ task_limit
  pub laps6 : Laps s.tasks
