-- What an answer of the translation says: an image's length only for a text that is read as a job, whose image then stands at the
-- buffer's start with the later bytes untouched; and a refusal only with the whole buffer untouched.
use Rattle.std.specs.Prelude.{◌≡◌, Bool, true, false, cond, List, ◌++◌, ℕ, leb, length, take, drop}
use Rattle.std.proofs.Math.Path.{refl}
use Rattle.std.proofs.Common.{sym, ap, ◌∙◌, arith}
use Rattle.std.proofs.Math.Seq.{take-append_seam, drop-append_seam}
use Rattle.meaning.specs.Numbers.{buffer_too_short}
use Rattle.meaning.specs.Text.{Job}
use Rattle.meaning.specs.Bytes.{job_image}
use Rattle.text_reader.specs.Reading.{Part, got, none, bad, reading}
use Rattle.translate.specs.Translated.{Image, Refused, translated_to, translated, written_to, written}

no_image : {number place n : ℕ} → Refused number place ≡ Image n → ⊥
no_image e = let z : ◌≡◌ {A = ℕ} 0 1 = cc in omega arith

module _ (out : List ℕ) (n : ℕ) where
  -- The buffer with this job's image, n bytes long, at its start.
  pub record Holds (p : Part Job) (after : List ℕ) : Type 0 where
    pub job : Job
    pub end : ℕ
    pub rows : ℕ
    pub read : p ≡ got job end rows
    pub image : take n after ≡ job_image job
    pub kept : drop n after ≡ drop n out

  by_room : (j : Job) (end rows : ℕ) (b : Bool) → cond b (Image (length (job_image j))) (Refused buffer_too_short (length (job_image j))) ≡ Image n → Holds (got j end rows) (cond b (job_image j ++ drop (length (job_image j)) out) out)
  by_room j end rows true e =
      let l : length (job_image j) ≡ n = cc in
      record {
        job = j;
        end = end;
        rows = rows;
        read = refl;
        image = ap (λ m. take m (job_image j ++ drop (length (job_image j)) out)) (sym l) ∙ take-append_seam (job_image j) (drop (length (job_image j)) out);
        kept = ap (λ m. drop m (job_image j ++ drop (length (job_image j)) out)) (sym l) ∙ drop-append_seam (job_image j) (drop (length (job_image j)) out) ∙ ap (λ m. drop m out) l;
      }
  by_room j end rows false e = absurd (no_image e)

  by_reading : (p : Part Job) → translated_to (length out) p ≡ Image n → Holds p (written_to out p)
  unfolding translated_to written_to
  by_reading (got j end rows) e = by_room j end rows (leb (length (job_image j)) (length out)) e
  by_reading none e = absurd (no_image e)
  by_reading (bad number place) e = absurd (no_image e)

  pub image_written : (text : List ℕ) → translated text (length out) ≡ Image n → Holds (reading text) (written text out)
  unfolding translated written
  image_written text e = by_reading (reading text) e

module _ (out : List ℕ) (number place : ℕ) where
  by_no_room : (j : Job) (b : Bool) → cond b (Image (length (job_image j))) (Refused buffer_too_short (length (job_image j))) ≡ Refused number place → cond b (job_image j ++ drop (length (job_image j)) out) out ≡ out
  by_no_room j true e = absurd (no_image (sym e))
  by_no_room j false e = refl

  by_refusal : (p : Part Job) → translated_to (length out) p ≡ Refused number place → written_to out p ≡ out
  unfolding translated_to written_to
  by_refusal (got j end rows) e = by_no_room j (leb (length (job_image j)) (length out)) e
  by_refusal none e = refl
  by_refusal (bad m p) e = refl

  pub refused_untouched : (text : List ℕ) → translated text (length out) ≡ Refused number place → written text out ≡ out
  unfolding translated written
  refused_untouched text e = by_refusal (reading text) e
