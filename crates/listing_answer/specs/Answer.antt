-- What an input of the listing program comes to: document 01, 'A listing, whole'.
use Rattle.std.specs.Prelude.{cond, List, ℕ, ◌%◌, ltb, length, take, drop, Option, Some, None, Result, Ok, Err}
use Rattle.listing_answer.specs.Kinds.{Translated, Run, Unlisted, TooLong, BadSchedule}
use Rattle.meaning.specs.Numbers.{input_limit}
use Rattle.translate.specs.Translated as t
use Rattle.translate.specs.Translated.{translated, written}
use Rattle.listing_input.specs.Input.{split_of, schedule_of}
use Rattle.listing_answer.specs.declared.Unlisted.TheVariants.{Refused}

-- "the job text up to a line `run`", and what stands behind that line.
abbrev pub text_in : List ℕ → List ℕ
text_in input = take (split_of input).text input

abbrev pub schedule_in : List ℕ → List ℕ
schedule_in input = drop (split_of input).rest input

-- "A refused text prints only `refused` number place; then a bad or odd schedule prints only `bad schedule`." Places and pairs are
-- numbers of two bytes.
unfoldable pub scheduled : ℕ → ℕ → Option ℕ → Result Run Unlisted
scheduled n from None = Err BadSchedule
scheduled n from (Some k) = Ok (record { length = n; pairs = k % 65536; from = from })

abbrev pub answered_as : List ℕ → Translated → Result Run Unlisted
answered_as input (t.Refused number place) = Err (Refused number (place % 65536))
answered_as input (t.Image n) = scheduled n (split_of input).rest (schedule_of (schedule_in input))

-- "reads up to 48,000 bytes of standard input (more: the line `input too long`)"
unfoldable pub answered : List ℕ → ℕ → Result Run Unlisted
answered input room = cond (ltb input_limit (length input)) (Err TooLong) (answered_as input (translated (text_in input) room))

-- The image buffer afterwards, every byte.
unfoldable pub image_after : List ℕ → List ℕ → List ℕ
image_after input out = cond (ltb input_limit (length input)) out (written (text_in input) out)
