-- What the two passes answer and leave, by what pass 1 answers. Assumes nothing.
use Rattle.std.proofs.Math.Path.{◌≡◌}
use Rattle.translate_rows.specs.Kinds.{JobSize}
use Rattle.std.specs.Prelude.{refl, List, ℕ, ◌+◌, ◌≤◌, ◌<◌, length, replicate, Result, Err}
use Rattle.std.proofs.Common.{sym, ◌∙◌, arith}
use borrow.Author.Tests.{le-leb, lt-leb}
use Rattle.std.proofs.lemmas.List.Edits.{sets}
use Rattle.meaning.specs.Numbers.{task_limit}
use Rattle.meaning.specs.Text.{Job}
use Rattle.meaning.specs.Layout.{rows_t}
use Rattle.meaning.specs.Bytes.{trailer_size, span_of, job_image}
use Rattle.text_reader.specs.Reading.{Part, got, none, bad, reading}
use Rattle.text_reader.specs.Answers.{told_job}
use Rattle.translate_rows.specs.Noted.{first_numbers}
use Rattle.translate_rows.specs.Passed.{firsts_of, rows_in}
use Rattle.translate_rows.specs.RowsPut.{rows_put}
use Rattle.translate_rows.specs.Laws.Read.{IsJob, image_size}

module _ (s out : List ℕ) where
  refused_by_lem : (p : Part Job) {n place : ℕ} → Err (n, place) ≡ told_job p → (replicate task_limit 0 ≡ firsts_of p) × (out ≡ rows_in out p)
  unfolding told_job firsts_of rows_in
  refused_by_lem (got j at rows) e = absurd (let z : ◌≡◌ {A = ℕ} 0 1 = cc in omega arith)
  refused_by_lem none e = (refl, refl)
  refused_by_lem (bad n place) e = (refl, refl)

  pub refused_passed : {v : Result JobSize (ℕ × ℕ)} {n place : ℕ} → v ≡ Err (n, place) → v ≡ told_job (reading s) → (replicate task_limit 0 ≡ firsts_of (reading s)) × (out ≡ rows_in out (reading s))
  refused_passed q h = refused_by_lem (reading s) (sym q ∙ h)

  module _ {rows channels tasks : ℕ} (t : IsJob s rows channels tasks) where
    pub firsts_are : firsts_of (reading s) ≡ sets (replicate task_limit 0) 0 (first_numbers t.job.tasks 0)
    unfolding firsts_of
    firsts_are = rw t.read

    pub rows_short : length out < span_of rows channels tasks + trailer_size → rows_in out (reading s) ≡ out
    unfolding rows_in
    rows_short h =
        let l = image_size s t in
        rw (t.read, lt-leb (length (job_image t.job)) (length out) (omega arith))

    pub rows_there : span_of rows channels tasks + trailer_size ≤ length out → rows_in out (reading s) ≡ rows_put out 0 (rows_t t.job.tasks 0)
    unfolding rows_in
    rows_there h =
        let l = image_size s t in
        rw (t.read, le-leb (length (job_image t.job)) (length out) (omega arith))
