-- The place of a refusal fits two bytes, so that the remainder in an answer changes nothing. Assumes nothing.
use Rattle.std.specs.Prelude.{◌≡◌, Bool, true, false, cond, List, ℕ, ◌≤◌, ◌<◌, leb, length}
use Rattle.std.proofs.Math.Path.{refl}
use Rattle.std.proofs.Common.{◌∙◌}
use native.Mathlib.Omega.{arith}
use Rattle.meaning.specs.Numbers.{buffer_too_short}
use Rattle.meaning.specs.Text.{Job}
use Rattle.meaning.specs.Bytes.{job_image}
use Rattle.text_reader.specs.Reading.{Part, got, none, bad, reading}
use Rattle.text_laws.specs.Laws.Places.{refused_within}
use Rattle.listing_answer.specs.Kinds.{Image}
use Rattle.translate.specs.Translated.{Refused}
use Rattle.translate.specs.Translated.{translated_to, translated}
use Rattle.translate_rows.specs.Laws.Read.{IsJob, in_limits, image_size}

module _ (text : List ℕ) (small : length text ≤ 48000) where
  -- The length that a buffer would need is that of an image.
  room_place : (j : Job) (at rows room n place : ℕ) → reading text ≡ got j at rows → (b : Bool) → cond b (Image (length (job_image j))) (Refused buffer_too_short (length (job_image j))) ≡ Refused n place → place < 65536
  room_place j at rows room n place read true e = absurd (let z : ◌≡◌ {A = ℕ} 0 1 = cc in omega arith)
  room_place j at rows room n place read false e =
      let w : IsJob text rows (length j.capacities) (length j.tasks) = record { job = j; at = at; read = read; channels_are = refl; tasks_are = refl } in
      let h = in_limits text w in
      let l = image_size text w in
      let p : length (job_image j) ≡ place = cc in
      omega arith

  pub place_fits_lem : (room n place : ℕ) → translated text room ≡ Refused n place → place < 65536
  unfolding translated translated_to
  place_fits_lem room n place e = go (reading text) refl e
    where
      go : (p : Part Job) → reading text ≡ p → translated_to room p ≡ Refused n place → place < 65536
      go (got j at rows) q f = room_place j at rows room n place q (leb (length (job_image j)) room) f
      go none q f = let z : 0 ≡ place = cc in omega arith
      go (bad m p) q f =
          let k : n ≡ m = cc in
          let l : place ≡ p = cc in
          let within = refused_within text n place (q ∙ cc) in
          omega arith
