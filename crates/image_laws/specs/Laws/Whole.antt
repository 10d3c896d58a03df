-- Document 01, 'What comes back': "A state fits if its task and channel counts are the image's, each task's row is a row and no
-- case row, each length is at most its capacity, the fault is 0 to 4, and the order names exactly the waiting tasks .."
-- A fresh start of a sound image is such a state, and so is every state that turns lead to.
use Rattle.std.specs.Prelude.{◌≡◌, refl, ℕ, zero, suc, length, replicate}
use Rattle.std.proofs.Common.{ap, ◌∙◌}
use mathlib.Core.List.{List, map, map-map, map-id}
use Rattle.std.proofs.Math.ListN.{length-map}
use Rattle.image_laws.specs.Kinds.{Task}
use Rattle.meaning.specs.Numbers.{depth_limit}
use Rattle.meaning.specs.Machine.{Machine, fresh, turn, runs}
use Rattle.meaning.specs.Image.{Spot, spot, image_look, image_start}
use Rattle.meaning.specs.Bytes.{task_count, rows_of, tabulate, capacities_of, first_rows_of, start_of}
use Rattle.image_check.specs.Sound.{Sound}
use Rattle.meaning_laws.specs.Lists.{All}
use Rattle.meaning_laws.specs.Laws.Runs.{runs_keep}
use Rattle.meaning_laws.specs.Laws.Steady.{capacities_in, steady_turn}
use Rattle.meaning_laws.specs.Fits.{Fits}
use Rattle.meaning_laws.specs.Laws.Fits.{fits_fresh, fits_turn}
use Rattle.meaning_laws.specs.Laws.Points.{Standings}
use Rattle.image_laws.specs.Laws.Closed.{Placed, Laps, closed_turn, closed_start}

pub record Whole (bs : List ℕ) (m : Machine Spot) : Type 0 where
  pub tasks : length m.tasks ≡ task_count bs
  pub capacities : capacities_in m.channels ≡ capacities_of bs
  pub placed : Standings (Placed bs Laps) m
  pub fits : Fits (image_look (rows_of bs)) m

pub length-tabulate : {A : Type 0} (f : ℕ → A) (n i : ℕ) → length (tabulate f n i) ≡ n
unfolding tabulate
length-tabulate f zero i = refl
length-tabulate f (suc n) i = ap suc (length-tabulate f n (suc i))

module _ (bs : List ℕ) (sound : Sound bs) where
  pub whole_start : Whole bs (start_of bs)
  unfolding start_of image_start fresh first_rows_of
  whole_start = record {
    tasks = simp length-map (length-tabulate _ (task_count bs) 0);
    capacities = map-map _ _ (capacities_of bs) ∙ map-id (capacities_of bs);
    placed = closed_start bs sound;
    fits = fits_fresh (image_look (rows_of bs)) (capacities_of bs) (map (spot (replicate depth_limit 0)) (first_rows_of bs));
  }

  pub whole_turn : (t : Task) (choice : ℕ) (m : Machine Spot) → Whole bs m → Whole bs (turn (image_look (rows_of bs)) t choice m).after
  whole_turn t choice m w =
      let s = steady_turn (image_look (rows_of bs)) t choice m in
      record {
        tasks = s.tasks ∙ w.tasks;
        capacities = s.capacities ∙ w.capacities;
        placed = closed_turn bs sound t choice m w.placed;
        fits = fits_turn (image_look (rows_of bs)) t choice m w.fits;
      }

  pub whole_runs : (ss : List (Task × ℕ)) (m : Machine Spot) → Whole bs m → All (λ r. Whole bs r.after) (runs (image_look (rows_of bs)) ss m)
  whole_runs ss m w = runs_keep (image_look (rows_of bs)) (Whole bs) whole_turn ss m w
