-- A caller who starts and only ever turns: every state that he meets fits the image, and turn for turn he sees the meaning's run
-- of the image, whatever the tasks and choices.
use Rattle.std.specs.Prelude.{◌≡◌, true, ℕ, Ok}
use Rattle.std.proofs.Math.Path.{refl, ap, ap₂}
use Rattle.std.proofs.Common.{◌∙◌}
use mathlib.Core.List.{List, [], ◌∷◌}
use Rattle.machine.specs.Kinds.{Task, State, Turned}
use Rattle.meaning.specs.Machine as m
use Rattle.meaning.specs.Image.{image_look}
use Rattle.meaning.specs.Bytes.{body_of, rows_of, start_of}
use Rattle.image_rows.specs.Rows.{counts_of}
use Rattle.image_check.specs.Check.{checked}
use Rattle.meaning_laws.specs.Lists.{All}
use Rattle.machine_records.specs.Values.{Values, changed}
use Rattle.machine_records.specs.View.{view}
use Rattle.machine_store.specs.Store.{records_of}
use Rattle.machine_fit.specs.Fitted.{fitting_in}
use Rattle.machine_fit.specs.Laws.Plain.{parts_fitting}
use Rattle.machine.specs.Public.{started, fresh_values, turned}
use Rattle.machine.specs.Runs.{turns, seen_turns}
use Rattle.machine.specs.Laws.Start.{started_plain, started_means, started_kept}
use Rattle.machine.specs.Laws.Meant.{KeptIn, turned_means, turned_kept}

module _ (bs : List ℕ) (good : checked bs ≡ Ok tt) where
  abbrev FitsIn : Turned → Type 0
  FitsIn r = fitting_in (body_of bs) (counts_of bs) r.state.words r.state.cells ≡ true

  pub kept_turns : (ps : List (Task × ℕ)) (s : State) (b : Values) → KeptIn bs s b → All FitsIn (turns bs ps s b)
  unfolding turns
  kept_turns [] s b k = tt
  kept_turns (p ∷ ps) s b k =
      let r = turned bs s b p.0 p.1 in
      let next = turned_kept bs s b p.0 p.1 good k.fit k.arrays in
      (next.fit, kept_turns ps r.state (changed b r.change) next)

  pub same_turns : (ps : List (Task × ℕ)) (s : State) (b : Values) → KeptIn bs s b
      → seen_turns bs ps s b ≡ m.runs (image_look (rows_of bs)) ps (view bs (records_of s) b)
  unfolding seen_turns m.runs
  same_turns [] s b k = refl
  same_turns (p ∷ ps) s b k =
      let e = (turned_means bs s b p.0 p.1 good k.fit k.arrays).same in
      let r = turned bs s b p.0 p.1 in
      let next = turned_kept bs s b p.0 p.1 good k.fit k.arrays in
      let rest = same_turns ps r.state (changed b r.change) next in
      ap₂ ◌∷◌ e (rest ∙ ap (λ r. m.runs (image_look (rows_of bs)) ps r.after) e)

  -- A fresh start is such a state.
  pub start_kept : KeptIn bs (started bs).state fresh_values
  start_kept =
      let k = started_kept bs good in
      let s = (started bs).state in
      record { arrays = k.arrays; fit = parts_fitting (body_of bs) (counts_of bs) s.words s.cells (started_plain bs good) k.fit }

  -- From a fresh start, under every schedule, every state fits,
  pub reached_fits : (ps : List (Task × ℕ)) → All FitsIn (turns bs ps (started bs).state fresh_values)
  reached_fits ps = kept_turns ps (started bs).state fresh_values start_kept

  -- and the turns are the meaning's, from the meaning's fresh start.
  pub reached_means : (ps : List (Task × ℕ)) → seen_turns bs ps (started bs).state fresh_values ≡ m.runs (image_look (rows_of bs)) ps (start_of bs)
  reached_means ps = same_turns ps (started bs).state fresh_values start_kept ∙ ap (m.runs (image_look (rows_of bs)) ps) (started_means bs good (started bs) refl)
