-- A turn from a state that passes the test of 17 is the meaning's, and leads to a state that passes it.
use Rattle.std.specs.Prelude.{◌≡◌, true, List, ℕ}
use Rattle.machine_laws.specs.Kinds.{Task}
use Rattle.meaning.specs.Machine as m
use Rattle.meaning.specs.Image.{image_look}
use Rattle.meaning.specs.Bytes.{row_count, body_of, rows_of}
use Rattle.image_rows.specs.Rows.{counts_of}
use Rattle.image_check.specs.Sound.{Sound}
use Rattle.machine_records.specs.Records.{Records}
use Rattle.machine_records.specs.Values.{Values, changed}
use Rattle.machine_records.specs.Plans.{Done}
use Rattle.machine_records.specs.Step.{stepped}
use Rattle.machine_records.specs.Fitting.{fitting}
use Rattle.machine_records.specs.View.{view, turned_of}
use Rattle.machine_laws.specs.Laws.Fit.{Arrays, Fit}
use Rattle.machine_laws.specs.Laws.Link.{step_means}
use Rattle.machine_laws.specs.Laws.Stays.{step_arrays, step_fit}
use Rattle.machine_laws.specs.Laws.Fitted.{fitting_fit, fit_fitting}

-- What holds of a state behind every turn.
pub record Kept (bs : List ℕ) (s : Records) (b : Values) : Type 0 where
  pub arrays : Arrays s b
  pub fit : fitting (body_of bs) (counts_of bs) s ≡ true

module _ (bs : List ℕ) (sound : Sound bs) (s : Records) (b : Values) where
  pub fit_kept : Arrays s b → Fit bs s b → Kept bs s b
  fit_kept a f = record { arrays = a; fit = fit_fitting bs sound s b a f }

  kept_fit : Kept bs s b → Fit bs s b
  kept_fit k = fitting_fit bs sound s b k.arrays k.fit

module _ (bs : List ℕ) (sound : Sound bs) (s : Records) (b : Values) (k : Kept bs s b) (t : Task) (choice : ℕ) where
  -- The turn is the meaning's,
  pub kept_means : turned_of bs b (stepped (body_of bs) (row_count bs) s b t choice) ≡ m.turn (image_look (rows_of bs)) t choice (view bs s b)
  kept_means = step_means bs sound s b k.arrays (kept_fit bs sound s b k) t choice

  -- and the same holds behind it.
  abbrev next : Done
  next = stepped (body_of bs) (row_count bs) s b t choice

  pub kept_step : Kept bs (stepped (body_of bs) (row_count bs) s b t choice).after (changed b (stepped (body_of bs) (row_count bs) s b t choice).change)
  kept_step =
      let a = step_arrays (body_of bs) (row_count bs) s b k.arrays t choice in
      fit_kept bs sound next.after (changed b next.change) a (step_fit bs sound s b k.arrays (kept_fit bs sound s b k) t choice)
