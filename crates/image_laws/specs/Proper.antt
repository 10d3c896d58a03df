-- Document 01, 'Job text': the job of a text that is not refused. Every limit on what a text says stands here, once.
-- The blocks around a statement are counted on the way down, as a reader counts them.
use Rattle.std.specs.Prelude.{ℕ, suc, ◌≤◌, ◌<◌, length}
use Rattle.image_laws.specs.Kinds.{Op, Send, Forward, Recv}
use Rattle.meaning.specs.Numbers.{channel_limit, capacity_limit, task_limit, case_limit, value_limit, lap_limit, depth_limit, row_limit}
use Rattle.meaning.specs.Text.{Stmt, operate, close, stop, range, repeat, ifok, select, Body, empty, ◌▸◌, Cases, nomore, default, case, Job}
use Rattle.meaning.specs.Layout.{case_count, rows_t}
use Rattle.image_check.specs.Sound.{PortSound}
use Rattle.meaning_laws.specs.Lists.{All}

-- So many channels are declared.
module _ (channels : ℕ) where
  abbrev pub ProperOp : Op → Type 0
  ProperOp (Send p v) = PortSound channels p × (v ≤ value_limit)
  ProperOp (Forward p) = PortSound channels p
  ProperOp (Recv p) = PortSound channels p

  -- A statement inside d blocks; a body and cases whose statements are.
  abbrev mutual
    pub ProperS : Stmt → ℕ → Type 0
    ProperS (operate o) d = ProperOp o
    ProperS (close p) d = PortSound channels p
    ProperS stop d = Unit {0}
    ProperS (range p b) d = (d < depth_limit) × PortSound channels p × ProperB b (suc d)
    ProperS (repeat n b) d = (d < depth_limit) × (n ≤ lap_limit) × ProperB b (suc d)
    ProperS (ifok b c) d = (d < depth_limit) × ProperB b (suc d) × ProperB c (suc d)
    ProperS (select cs) d = (d < depth_limit) × (case_count cs ≤ case_limit) × ProperC cs (suc d)

    pub ProperB : Body → ℕ → Type 0
    ProperB empty d = Unit {0}
    ProperB (s ▸ b) d = ProperS s d × ProperB b d

    pub ProperC : Cases → ℕ → Type 0
    ProperC nomore d = Unit {0}
    ProperC (default b) d = ProperB b d
    ProperC (case o b cs) d = ProperOp o × ProperB b d × ProperC cs d

pub record Proper (j : Job) : Type 0 where
  pub most_channels : length j.capacities ≤ channel_limit
  pub capacities : All (λ n. n ≤ capacity_limit) j.capacities
  pub some_tasks : 1 ≤ length j.tasks
  pub most_tasks : length j.tasks ≤ task_limit
  pub most_rows : length (rows_t j.tasks 0) ≤ row_limit
  pub bodies : All (λ b. ProperB (length j.capacities) b 0) j.tasks
