-- The translation computes. Texts and buffers, each with the answer and every byte of the buffer afterwards: one table, one claim. The
-- images are written out by hand from document 01, 'Step image'.
use Rattle.std.specs.Prelude.{◌≡◌, refl, List, [], ◌∷◌, ◌++◌, map, ℕ, length, replicate}
use Rattle.meaning.specs.Layout.{case_count, size_b, entry, case_rows, default_row, rows_b, rows_t, first_rows}
use Rattle.meaning.specs.Bytes.{fields_of, row_bytes, first_bytes, image_bytes, job_image}
use Rattle.text_words.specs.Words.{word_at, first_not_allowed, kind_of, value_of, start_at, next_at, bytes_at, numeral, decimal, is_number, only_digits, leading_zero, place_of, differs, same_word, reserved, run, in_word, is_allowed, is_letter, is_digit, is_blank}
use Rattle.text_reader.specs.Reading.{bind, many, number_by, closed_by, port_by, op_by, second_by, case_op, case_by, last_by, cases_from, stmt_by, body_from, chan_by, chans_from, task_end, task_by, tasks_from, job, reading}
use Rattle.translate.specs.Translated.{Translated, Image, Refused, translated_to, translated, written_to, written}

record Example : Type 0 where
  text : List ℕ
  buffer : List ℕ
  answer : Translated
  after : List ℕ

abbrev example : List ℕ → List ℕ → Translated → List ℕ → Example
example text buffer answer after = record { text = text; buffer = buffer; answer = answer; after = after }

-- A buffer of n bytes 7.
abbrev sevens : ℕ → List ℕ
sevens n = replicate n 7

-- `task end`, and its image
abbrev task_ends : List ℕ
task_ends = 116 ∷ 97 ∷ 115 ∷ 107 ∷ 32 ∷ 101 ∷ 110 ∷ 100 ∷ []

abbrev its_image : List ℕ
its_image = 12 ∷ 0 ∷ 0 ∷ 0 ∷ 0 ∷ 0 ∷ 0 ∷ 0 ∷ 0 ∷ 0 ∷ 1 ∷ 0 ∷ 0 ∷ 1 ∷ 10 ∷ 0 ∷ 0x5A ∷ 1 ∷ []

abbrev examples : List Example
examples =
    -- an image of 18 bytes at the buffer's start, later bytes untouched; a buffer that just fits
    example task_ends (sevens 20) (Image 18) (its_image ++ 7 ∷ 7 ∷ [])
    ∷ example task_ends (sevens 18) (Image 18) its_image
    -- 11, the length needed as its place: the buffer untouched
    ∷ example task_ends (sevens 17) (Refused 11 18) (sevens 17)
    ∷ example task_ends [] (Refused 11 18) []
    -- `task`, `task Z`: refused behind nothing written, and ahead of 11
    ∷ example (116 ∷ 97 ∷ 115 ∷ 107 ∷ []) (sevens 20) (Refused 9 4) (sevens 20)
    ∷ example (116 ∷ 97 ∷ 115 ∷ 107 ∷ 32 ∷ 90 ∷ []) (sevens 3) (Refused 2 5) (sevens 3)
    -- `chan 3 task recv 0 end`: row, stop row, capacity, first row, trailer
    ∷ example (99 ∷ 104 ∷ 97 ∷ 110 ∷ 32 ∷ 51 ∷ 32 ∷ 116 ∷ 97 ∷ 115 ∷ 107 ∷ 32 ∷ 114 ∷ 101 ∷ 99 ∷ 118 ∷ 32 ∷ 48 ∷ 32 ∷ 101 ∷ 110 ∷ 100 ∷ []) (sevens 28) (Image 27)
    ((3 ∷ 0 ∷ 0 ∷ 0 ∷ 1 ∷ 0 ∷ 0 ∷ 0 ∷ []) ++ (12 ∷ 0 ∷ 0 ∷ 0 ∷ 0 ∷ 0 ∷ 0 ∷ 0 ∷ []) ++ (3 ∷ 0 ∷ 0 ∷ []) ++ (2 ∷ 0 ∷ 1 ∷ 1 ∷ 19 ∷ 0 ∷ 0x5A ∷ 1 ∷ []) ++ 7 ∷ [])
    ∷ []

found : Example → Translated × List ℕ
found e = (translated e.text (length e.buffer), written e.text e.buffer)

examples_hold : map found examples ≡ map (λ e. (e.answer, e.after)) examples
unfolding found translated translated_to written written_to reading job tasks_from task_by task_end chans_from chan_by body_from stmt_by cases_from last_by case_by case_op second_by op_by port_by closed_by number_by many bind word_at first_not_allowed kind_of value_of start_at next_at bytes_at numeral decimal is_number only_digits leading_zero place_of differs same_word reserved run in_word is_allowed is_letter is_digit is_blank case_count size_b entry case_rows default_row rows_b rows_t first_rows fields_of row_bytes first_bytes image_bytes job_image
examples_hold = refl
