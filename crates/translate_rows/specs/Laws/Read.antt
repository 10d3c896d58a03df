-- A text that pass 1 has read as a job: its numbers, and how long its image is. Assumes nothing.
use Rattle.std.proofs.Math.Path.{◌≡◌, refl, ap}
use Rattle.text_reader.specs.Laws.Jobs.{sized}
use Rattle.translate_rows.specs.Kinds.{JobSize}
use Rattle.std.proofs.Common.{sym, ◌∙◌, arith}
use Rattle.std.specs.Prelude.{List, ℕ, ◌+◌, ◌≤◌, length, Result, Ok, Err}
use Rattle.meaning.specs.Numbers.{channel_limit, task_limit, row_limit}
use Rattle.meaning.specs.Text.{Job}
use Rattle.meaning.specs.Layout.{rows_t}
use Rattle.meaning.specs.Bytes.{trailer_size, span_of, job_image}
use Rattle.text_reader.specs.Reading.{Part, got, none, bad, job, reading}
use Rattle.text_reader.specs.Answers.{told_job}
use Rattle.text_laws.specs.Laws.Accepted.{reading_proper, accepted_length}
use Rattle.text_laws.specs.Laws.Walk.{reading_ways}
use Rattle.text_reader.specs.Laws.Parts.{bad_got}
use Rattle.translate_rows.specs.Laws.Sections.{job_parts}

pub record IsJob (s : List ℕ) (rows channels tasks : ℕ) : Type 0 where
  pub job : Job
  pub at : ℕ
  pub read : reading s ≡ got job at rows
  pub channels_are : channels ≡ length job.capacities
  pub tasks_are : tasks ≡ length job.tasks

abbrev size_in : Result JobSize (ℕ × ℕ) → JobSize
size_in (Ok z) = z
size_in (Err e) = record { rows = 0; channels = 0; tasks = 0 }

module _ (s : List ℕ) where
  pub is_job : {v : Result JobSize (ℕ × ℕ)} {rows channels tasks : ℕ} → v ≡ sized rows channels tasks → v ≡ told_job (reading s) → IsJob s rows channels tasks
  unfolding told_job
  is_job {rows = rows} {channels} {tasks} q h = go (reading s) refl (sym q ∙ h)
    where
      go : (p : Part Job) → reading s ≡ p → sized rows channels tasks ≡ told_job p → IsJob s rows channels tasks
      go (got j at n) e f =
          let r : rows ≡ n = ap (λ z. (size_in z).rows) f in
          record { job = j; at = at; read = e ∙ ap (λ m. got j at m) (sym r); channels_are = ap (λ z. (size_in z).channels) f; tasks_are = ap (λ z. (size_in z).tasks) f }
      go none e f = absurd (let z : ◌≡◌ {A = ℕ} 0 1 = cc in omega arith)
      go (bad n place) e f = absurd (let z : ◌≡◌ {A = ℕ} 0 1 = cc in omega arith)

  -- Which is then a proper job, by its words alone.
  pub words_read : (j : Job) (at rows : ℕ) → reading s ≡ got j at rows → job s ≡ got j at rows
  words_read j at rows = reading_ways s (λ p. p ≡ got j at rows → job s ≡ got j at rows) (λ _ e. absurd (bad_got e)) (λ _ _ _ e. absurd (bad_got e)) (λ _ _ e. e)

  module _ {rows channels tasks : ℕ} (t : IsJob s rows channels tasks) where
    pub in_limits : (rows ≤ row_limit) × (channels ≤ channel_limit) × (tasks ≤ task_limit)
    in_limits =
        let p = reading_proper s t.job t.at rows t.read in
        let q = p.1 in
        let a = p.0.most_rows in
        let b = p.0.most_channels in
        let c = p.0.most_tasks in
        let d = t.channels_are in
        let e = t.tasks_are in
        (omega arith, omega arith, omega arith)

    pub image_size : length (job_image t.job) ≡ span_of rows channels tasks + trailer_size
    image_size =
        let d = t.channels_are in
        let e = t.tasks_are in
        let l = accepted_length s t.job t.at rows t.read in
        omega arith

    pub job_rows : rows ≡ length (rows_t t.job.tasks 0)
    job_rows = (job_parts s t.job t.at rows (words_read t.job t.at rows t.read)).counted_rows
