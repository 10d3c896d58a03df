-- What a translation answers and leaves in the buffer, by what pass 1 answers. Assumes nothing.
use Rattle.std.proofs.Math.Path.{◌≡◌, sym}
use Rattle.std.specs.Prelude.{refl, List, ℕ, ◌+◌, ◌*◌, ◌≤◌, ◌<◌, length, Result, Ok, Err, IfOk}
use Rattle.std.proofs.Common.{ap, ◌∙◌, arith}
use borrow.Author.Tests.{le-leb, lt-leb}
use Rattle.std.proofs.lemmas.List.Edits.{sets}
use Rattle.meaning.specs.Numbers.{channel_limit, buffer_too_short}
use Rattle.meaning.specs.Text.{Job}
use Rattle.meaning.specs.Bytes.{row_size, trailer_size, span_of, job_image}
use Rattle.translate.specs.Kinds.{JobSize, Passed}
use Rattle.text_reader.specs.declared.Refused.{Refused}
use Rattle.text_reader.specs.Answers.{fault_number}
use Rattle.std.proofs.lemmas.Result.{IfOk-at_ok}
use Rattle.text_reader.specs.Reading.{Part, got, none, bad, chans_from, reading}
use Rattle.text_reader.specs.Answers.{told_job}
use Rattle.translate_rows.specs.Passed.{sizes_of, firsts_of, rows_in}
use Rattle.translate_rows.specs.Laws.Passed.{refused_passed, firsts_are, rows_short, rows_there}
use Rattle.translate_rows.specs.Laws.Read.{IsJob, words_read, in_limits, image_size}
use Rattle.translate_rows.specs.Laws.Sections.{job_parts}
use Rattle.translate.specs.Translated as back
use Rattle.translate.specs.Translated.{Image, translated_to, translated, written_to, written}
use Rattle.translate.specs.Stored.{rest}
use Rattle.translate.specs.Laws.Firsts.{firsts_bytes}
use Rattle.translate.specs.Laws.Joined.{joined, stored_at_start}

-- What the passes answer.
module _ {v : Result Passed Refused} where
  pub passed_got : {p : Passed} → v ≡ Ok p → sizes_of v ≡ Ok p.size
  passed_got e = rw e

  pub passed_bad : {e : Refused} → v ≡ Err e → sizes_of v ≡ Err (fault_number e.why, e.place)
  passed_bad e = rw e

  pub passed_firsts : {p : Passed} {fs : List ℕ} → v ≡ Ok p → IfOk v (λ p. p.firsts ≡ fs) → p.firsts ≡ fs
  passed_firsts {fs = fs} e f = IfOk-at_ok (λ p. p.firsts ≡ fs) e f

-- The number and the place of a refusal.
abbrev err_in : Result JobSize (ℕ × ℕ) → ℕ × ℕ
err_in (Ok z) = (0, 0)
err_in (Err e) = e

module _ (s : List ℕ) where
  refused_by_lem : (p : Part Job) (out : List ℕ) {n place : ℕ} → Err (n, place) ≡ told_job p → (back.Refused n place ≡ translated_to (length out) p) × (out ≡ written_to out p)
  unfolding told_job translated_to written_to
  refused_by_lem (got j at rows) out e = absurd (let z : ◌≡◌ {A = ℕ} 0 1 = cc in omega arith)
  refused_by_lem none out e = (ap (λ r. back.Refused (err_in r).0 (err_in r).1) e, refl)
  refused_by_lem (bad m p) out e = (ap (λ r. back.Refused (err_in r).0 (err_in r).1) e, refl)

  pub refused_as : (out : List ℕ) {new : List ℕ} {v : Result JobSize (ℕ × ℕ)} {n place : ℕ} → v ≡ Err (n, place) → v ≡ told_job (reading s) → new ≡ rows_in out (reading s)
      → (back.Refused n place ≡ translated s (length out)) × (new ≡ written s out)
  unfolding translated written
  refused_as out q h e = let z = refused_by_lem (reading s) out (sym q ∙ h) in (z.0, e ∙ sym (refused_passed s out q h).1 ∙ z.1)

  module _ {rows channels tasks : ℕ} (t : IsJob s rows channels tasks) where
    pub too_short : (out : List ℕ) {new : List ℕ} → length out < span_of rows channels tasks + trailer_size → new ≡ rows_in out (reading s)
        → (back.Refused buffer_too_short (span_of rows channels tasks + trailer_size) ≡ translated s (length out)) × (new ≡ written s out)
    unfolding translated translated_to written written_to
    too_short out h e =
        let l = image_size s t in
        let f = lt-leb (length (job_image t.job)) (length out) (omega arith) in
        (rw (t.read, f, l), e ∙ rows_short s out t h ∙ rw (t.read, f))

    -- The rows that the passes leave, and what is stored behind them, are the image.
    pub image_whole : (out : List ℕ) {fs with_rows new : List ℕ} → span_of rows channels tasks + trailer_size ≤ length out → fs ≡ firsts_of (reading s) → with_rows ≡ rows_in out (reading s)
        → ((ns : List ℕ) (a r : ℕ) → chans_from s channel_limit 0 0 ≡ got ns a r → channels ≡ length ns → new ≡ rest rows channels tasks ns fs with_rows)
        → new ≡ sets out 0 (job_image t.job)
    image_whole out {fs} h q e f =
        let j = t.job in
        let l = image_size s t in
        let m = in_limits s t in
        let p = job_parts s j t.at rows (words_read s j t.at rows t.read) in
        let b = firsts_bytes j.tasks tasks (q ∙ firsts_are s out t) t.tasks_are m.2 in
        joined j out p.counted_rows t.channels_are t.tasks_are (omega arith) (e ∙ rows_there s out t h) refl
        (ap (sets _ (row_size * rows + channels)) b) (f j.capacities p.from 0 p.chans t.channels_are)

    pub translated_as : (out : List ℕ) {new : List ℕ} → span_of rows channels tasks + trailer_size ≤ length out → new ≡ sets out 0 (job_image t.job)
        → (Image (span_of rows channels tasks + trailer_size) ≡ translated s (length out)) × (new ≡ written s out)
    unfolding translated translated_to written written_to
    translated_as out h e =
        let l = image_size s t in
        let f = le-leb (length (job_image t.job)) (length out) (omega arith) in
        (rw (t.read, f, l), rw (t.read, f) (e ∙ stored_at_start (job_image t.job) out (omega arith)))
