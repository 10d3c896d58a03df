-- Demand 3, over the definitions that the contracts of `translate`, `check`, `start`, `turn` and `stored` cite: for any job text
-- that the translator accepts, its image passes the check, and from a fresh start, under every list of task numbers and choices,
-- image and text give the same event at every turn and agree after it on all that is seen.
use Rattle.std.specs.Prelude.{◌≡◌, refl, true, List, [], ◌∷◌, ◌++◌, map, ℕ, length, take, Ok}
use Rattle.std.proofs.Common.{sym, ap, ◌∙◌}
use Rattle.agreement.specs.Kinds.{Task, Image}
use Rattle.meaning.specs.Machine.{Turned, runs, seen_turn}
use Rattle.meaning.specs.Text.{Job, text_look, text_start}
use Rattle.meaning.specs.Bytes.{body_of, job_image}
use Rattle.image_rows.specs.Rows.{counts_of}
use Rattle.image_check.specs.Check.{checked}
use Rattle.meaning_laws.specs.Lists.{All}
use Rattle.text_reader.specs.Reading.{got, reading}
use Rattle.text_laws.specs.Laws.Accepted.{accepted_passes, accepted_same}
use Rattle.translate.specs.Translated.{translated, written}
use Rattle.translate.specs.Laws.Answered.{Holds, image_written}
use Rattle.machine_fit.specs.Fitted.{fitting_in}
use Rattle.machine.specs.Public.{started, fresh_values}
use Rattle.machine.specs.Runs.{turns, seen_turns}
use Rattle.machine.specs.Laws.Reached.{reached_fits, reached_means}
use Rattle.machine_turns.specs.Schedule.{event_records}
use Rattle.machine_turns.specs.Told.{records_told}
use Rattle.machine_turns.proofs.Single.{records_told_lem}

-- The events of turns, as they are seen.
events_of_lem : {P : Type 0} (rs : List (Turned P)) → map (λ r. r.event) rs ≡ map (λ p. p.0) (map seen_turn rs)
events_of_lem [] = refl
events_of_lem (r ∷ rs) = ap (λ l. r.event ∷ l) (events_of_lem rs)

-- Of a text that is read as a job, with its image behind any bytes.
module _ (text : List ℕ) (job : Job) (end rows : ℕ) (accepted : reading text ≡ got job end rows) (pre : List ℕ) where
  -- The image where it stands in its slice: behind any bytes.
  abbrev slice : List ℕ
  slice = pre ++ job_image job

  -- "its image passes the check",
  pub image_passes : checked slice ≡ Ok tt
  image_passes = accepted_passes text job end rows accepted pre

  -- "under every list of task numbers and choices, image and text give the same event at every turn and agree after it": the
  -- machine's own turns, each with the state and stored values of the one before, and the text's meaning.
  pub text_and_image_agree : (schedule : List (Task × ℕ)) → map seen_turn (runs text_look schedule (text_start job)) ≡ map seen_turn (seen_turns slice schedule (started slice).state fresh_values)
  text_and_image_agree schedule = accepted_same text job end rows accepted pre schedule ∙ ap (map seen_turn) (sym (reached_means slice image_passes schedule))

  -- The same through the call that makes a whole schedule (document 02, E1): its records tell the text's events.
  pub schedule_agrees : (schedule : List (Task × ℕ)) → event_records slice schedule (started slice).state fresh_values ≡ records_told schedule (map (λ r. r.event) (runs text_look schedule (text_start job)))
  schedule_agrees schedule =
      let text's = runs text_look schedule (text_start job) in
      let machine's = seen_turns slice schedule (started slice).state fresh_values in
      records_told_lem slice schedule (started slice).state fresh_values
      ∙ ap (records_told schedule) (events_of_lem machine's ∙ ap (map (λ p. p.0)) (sym (text_and_image_agree schedule)) ∙ sym (events_of_lem text's))

  -- No turn of such a run is refused by 17.
  pub never_unfit : (schedule : List (Task × ℕ)) → All (λ r. fitting_in (body_of slice) (counts_of slice) r.state.words r.state.cells ≡ true) (turns slice schedule (started slice).state fresh_values)
  never_unfit schedule = reached_fits slice image_passes schedule

-- The same over the translation's own answer: a length n for a buffer `out`, and the first n bytes of the buffer afterwards.
module _ (text out : List ℕ) (n : ℕ) (answer : translated text (length out) ≡ Image n) (pre : List ℕ) where
  abbrev holds : Holds out n (reading text) (written text out)
  holds = image_written out n text answer

  abbrev translation : List ℕ
  translation = pre ++ take n (written text out)

  where_it_stands : translation ≡ pre ++ job_image holds.job
  where_it_stands = ap (λ i. pre ++ i) holds.image

  pub translation_passes : checked translation ≡ Ok tt
  translation_passes = ap checked where_it_stands ∙ image_passes text holds.job holds.end holds.rows holds.read pre

  pub translation_agrees : (schedule : List (Task × ℕ)) → map seen_turn (runs text_look schedule (text_start holds.job)) ≡ map seen_turn (seen_turns translation schedule (started translation).state fresh_values)
  translation_agrees schedule =
      text_and_image_agree text holds.job holds.end holds.rows holds.read pre schedule
      ∙ ap (λ bs. map seen_turn (seen_turns bs schedule (started bs).state fresh_values)) (sym where_it_stands)

  pub translation_fits : (schedule : List (Task × ℕ)) → All (λ r. fitting_in (body_of translation) (counts_of translation) r.state.words r.state.cells ≡ true) (turns translation schedule (started translation).state fresh_values)
  translation_fits schedule = reached_fits translation translation_passes schedule
