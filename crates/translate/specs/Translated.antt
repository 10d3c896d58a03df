-- Document 01, 'What comes back': "Translation: the image length, image at the buffer's start, later bytes untouched; or a number
-- and a place, buffer untouched."
use Rattle.std.specs.Prelude.{cond, List, ◌++◌, ℕ, leb, length, drop, Result, Ok, Err}
use Rattle.meaning.specs.Numbers.{buffer_too_short}
use Rattle.meaning.specs.Text.{Job}
use Rattle.meaning.specs.Bytes.{job_image}
use Rattle.text_reader.specs.Reading.{Part, got, none, bad, reading}
use Rattle.text_reader.specs.Answers.{fault_number}
use Rattle.translate.specs.Kinds.{NoImage}

-- What comes back: the image's length, or a refusal's number and place.
pub data Translated : Type 0 where
  Image : ℕ → Translated
  Refused : ℕ → ℕ → Translated

-- The number and the place of what the code answers where there is no image.
abbrev pub number_of : NoImage → ℕ
number_of (NoImage.Refused r) = fault_number r.why
number_of (NoImage.BufferTooShort n) = buffer_too_short

abbrev pub place_of : NoImage → ℕ
place_of (NoImage.Refused r) = r.place
place_of (NoImage.BufferTooShort n) = n

abbrev pub answered : Result ℕ NoImage → Translated
answered (Ok n) = Image n
answered (Err e) = Refused (number_of e) (place_of e)

-- 11: "buffer shorter than the image", with the length needed as its place, behind every other refusal. (A whole text is always
-- read or refused; that nothing is there to read is no answer of `reading`.)
unfoldable pub translated_to : ℕ → Part Job → Translated
translated_to room (got j at rows) = cond (leb (length (job_image j)) room) (Image (length (job_image j))) (Refused buffer_too_short (length (job_image j)))
translated_to room none = Refused 0 0
translated_to room (bad n place) = Refused n place

unfoldable pub translated : List ℕ → ℕ → Translated
translated text room = translated_to room (reading text)

-- The buffer afterwards, every byte.
unfoldable pub written_to : List ℕ → Part Job → List ℕ
written_to out (got j at rows) = cond (leb (length (job_image j)) (length out)) (job_image j ++ drop (length (job_image j)) out) out
written_to out none = out
written_to out (bad n place) = out

unfoldable pub written : List ℕ → List ℕ → List ℕ
written text out = written_to out (reading text)
