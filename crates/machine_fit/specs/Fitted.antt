-- When a state fits an image: its records do, and its cells hold nothing but what its records tell, so that two states that fit and
-- read as the same records are the same.
use Rattle.std.specs.Prelude.{Bool, ◌&&◌, List, ℕ, ◌+◌, leb, get_or}
use Rattle.machine_fit.specs.Kinds.{Counts}
use Rattle.meaning.specs.Numbers.{task_limit, channel_limit}
use Rattle.machine_records.specs.Fitting.{every, fitting}
use Rattle.machine_store.specs.Store.{ok_place, closed_place, records_in}

-- The n cells from this place on hold at most `top`.
abbrev pub all_at_most : List ℕ → ℕ → ℕ → ℕ → Bool
all_at_most c place n top = every (λ i. leb (get_or c (place + i) 0) top) n 0

-- Each status, from the first cell on, is 0 to 2, and each mark 0 or 1.
unfoldable pub plainly : List ℕ → Bool
plainly c = all_at_most c 0 task_limit 2 && (all_at_most c ok_place task_limit 1 && all_at_most c closed_place channel_limit 1)

unfoldable pub fitting_in : List ℕ → Counts → List ℕ → List ℕ → Bool
fitting_in rs k w c = plainly c && fitting rs k (records_in w c)
