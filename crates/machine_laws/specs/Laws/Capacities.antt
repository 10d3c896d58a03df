-- The list of an image's capacities, by number.
use Rattle.std.specs.Prelude.{◌≡◌, List, length, get_or}
use Rattle.std.proofs.Math.Path.{ap}
use Rattle.std.proofs.Common.{◌∙◌, le_of_suc-le-suc, zero-add, arith}
use Prim.Native.Nat.{ℕ, zero, suc, ◌+◌, ◌<◌}
use Rattle.std.proofs.Math.Nat.{add-zero}
use Rattle.image_laws.specs.Laws.Whole.{length-tabulate}
use Rattle.meaning.specs.Image.{chan_no}
use Rattle.meaning.specs.Bytes.{row_count, channel_count, body_of, capacity_in, tabulate, capacities_of}

module _ {A : Type 0} (g : ℕ → A) where
  pub tabulate-at : (n i k : ℕ) (d : A) → k < n → get_or (tabulate g n i) k d ≡ g (i + k)
  unfolding tabulate
  tabulate-at zero i k d h = absurd (omega arith)
  tabulate-at (suc n) i zero d h = rw add-zero
  tabulate-at (suc n) i (suc k) d h = tabulate-at n (suc i) k d (le_of_suc-le-suc h) ∙ ap g (omega arith)

module _ (bs : List ℕ) where
  abbrev capacity : ℕ → ℕ
  capacity c = capacity_in (body_of bs) (row_count bs) (chan_no c)

  pub capacity_count : length (capacities_of bs) ≡ channel_count bs
  unfolding capacities_of
  capacity_count = length-tabulate capacity (channel_count bs) 0

  pub capacity_at : (c : ℕ) → c < channel_count bs → get_or (capacities_of bs) c 0 ≡ capacity_in (body_of bs) (row_count bs) (chan_no c)
  unfolding capacities_of
  capacity_at c h = tabulate-at capacity (channel_count bs) 0 c 0 h ∙ ap capacity (zero-add c)
