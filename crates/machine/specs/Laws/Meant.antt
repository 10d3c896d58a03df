-- What `turn` answers is what the meaning says.
use Rattle.std.specs.Prelude.{◌≡◌, true, List, ℕ, Ok}
use Rattle.std.proofs.Common.{sym, subst, ◌∙◌}
use Rattle.std.proofs.Math.Path.{ap}
use Rattle.std.proofs.Math.Bool.{cond}
use Rattle.machine.specs.Kinds.{Task, State, Turned}
use Rattle.meaning.specs.Numbers.{unfit}
use Rattle.meaning.specs.Machine as m
use Rattle.meaning.specs.Image.{Spot}
use Rattle.meaning.specs.Events.{numbers}
use Rattle.meaning.specs.Bytes.{row_count, body_of}
use Rattle.image_rows.specs.Rows.{counts_in, counts_of}
use Rattle.image_check.specs.Check.{checked}
use Rattle.image_check.specs.Laws.Sound.{good_sound}
use Rattle.machine_records.specs.Values.{Values, changed}
use Rattle.machine_records.specs.Plans.{Done}
use Rattle.machine_records.specs.Step.{stepped}
use Rattle.machine_records.specs.View.{turned_of}
use Rattle.machine_records.specs.Laws.Sized.{Sized}
use Rattle.machine_laws.specs.Laws.Fit.{Arrays}
use Rattle.machine_laws.specs.Laws.Stays.{step_sized}
use Rattle.machine_laws.specs.Laws.Meant.{Kept, kept_means, kept_step}
use Rattle.machine_store.specs.Store.{records_of}
use Rattle.machine_store.specs.Laws.Again.{records_again, again_plain, records_sized}
use Rattle.machine_fit.specs.Fitted.{fitting_in}
use Rattle.machine_fit.specs.Laws.Plain.{fitting_parts, parts_fitting}
use Rattle.machine.specs.Public.{state_of, refused_turn, turned_as, stepped_turn, turned_after, turned, Means}

-- What holds of a state in its store behind every turn.
pub record KeptIn (bs : List ℕ) (s : State) (b : Values) : Type 0 where
  pub arrays : Arrays (records_of s) b
  pub fit : fitting_in (body_of bs) (counts_of bs) s.words s.cells ≡ true

module _ (bs : List ℕ) (s : State) (b : Values) (t : Task) (choice : ℕ) (good : checked bs ≡ Ok tt)
    (fit : fitting_in (body_of bs) (counts_of bs) s.words s.cells ≡ true) where
  abbrev done : Done
  done = stepped (body_of bs) (row_count bs) (records_of s) b t choice

  -- Behind the refusals by the image and by 17 stands the step.
  pub turned_step : turned bs s b t choice ≡ turned_as done
  unfolding turned counts_of counts_in row_count
  turned_step =
      ap (turned_after (body_of bs) (counts_of bs) s b t choice) good
      ∙ ap (λ q. cond q (stepped_turn (body_of bs) (counts_of bs).rows s b t choice) (refused_turn s unfit)) fit

  done_sized : Sized done.after
  done_sized = step_sized (body_of bs) (row_count bs) (records_of s) b (records_sized s.words s.cells) t choice

  done_again : records_of (state_of done.after) ≡ done.after
  done_again = records_again done.after done_sized

  module _ (a : Arrays (records_of s) b) where
    kept : Kept bs (records_of s) b
    kept = record { arrays = a; fit = (fitting_parts (body_of bs) (counts_of bs) s.words s.cells fit).1 }

    behind : Kept bs (records_of (state_of done.after)) (changed b done.change)
    behind = subst (λ z. Kept bs z (changed b done.change)) (sym done_again) (kept_step bs (good_sound bs good) (records_of s) b kept t choice)

    fits_behind : fitting_in (body_of bs) (counts_of bs) (state_of done.after).words (state_of done.after).cells ≡ true
    fits_behind =
        let z = state_of done.after in
        parts_fitting (body_of bs) (counts_of bs) z.words z.cells (again_plain done.after done_sized) behind.fit

    pub turned_means : Means bs s b t choice (turned bs s b t choice)
    turned_means =
        let e = kept_means bs (good_sound bs good) (records_of s) b kept t choice in
        subst (Means bs s b t choice) (sym turned_step) (record {
          told = ap (λ (z : m.Turned Spot). numbers z.event) e;
          same = ap (λ z. turned_of bs b (record { event = done.event; after = z; change = done.change })) done_again ∙ e;
          fits_again = fits_behind;
        })

    pub turned_kept : KeptIn bs (turned bs s b t choice).state (changed b (turned bs s b t choice).change)
    turned_kept = subst (λ (r : Turned). KeptIn bs r.state (changed b r.change)) (sym turned_step) (record { arrays = behind.arrays; fit = fits_behind })
