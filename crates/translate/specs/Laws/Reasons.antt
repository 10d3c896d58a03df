-- Each reason for which there is no image has a number of its own: what `answered` tells, it tells of one answer alone.
use Rattle.std.specs.Prelude.{◌≡◌, refl, List, [], ◌∷◌, ℕ, cond, eqb, get_or, Result, Ok, Err}
use Rattle.std.proofs.Common.{sym, ap, ◌∙◌}
use Rattle.text_reader.specs.declared.Fault.{Fault}
use Rattle.text_reader.specs.declared.Fault.TheVariants.{TextTooLong, ByteNotAllowed, WordOutOfPlace, NumberDue, NumberOverRange, OneTooMany, TooDeep, RowsFull, CutShort, NoTask}
use Rattle.text_reader.specs.Answers.{fault_number}
use Rattle.translate.specs.Kinds.{NoImage}
use Rattle.translate.specs.Translated.{Translated, Image, Refused, number_of, place_of, answered}

-- The reason that has a number, in the order of document 01's table, and the answer that is told so.
abbrev fault_of : ℕ → Fault
fault_of n =
    get_or (TextTooLong ∷ TextTooLong ∷ ByteNotAllowed ∷ WordOutOfPlace ∷ NumberDue ∷ NumberOverRange ∷ OneTooMany ∷ TooDeep ∷ RowsFull ∷ CutShort ∷ NoTask ∷ []) n NoTask

abbrev no_image_of : ℕ → ℕ → NoImage
no_image_of n place = cond (eqb n 11) (NoImage.BufferTooShort place) (NoImage.Refused (record { why = fault_of n; place = place }))

abbrev answer_of : Translated → Result ℕ NoImage
answer_of (Image n) = Ok n
answer_of (Refused n place) = Err (no_image_of n place)

by_why : (why : Fault) (place : ℕ) → no_image_of (fault_number why) place ≡ NoImage.Refused (record { why = why; place = place })
by_why TextTooLong place = refl
by_why ByteNotAllowed place = refl
by_why WordOutOfPlace place = refl
by_why NumberDue place = refl
by_why NumberOverRange place = refl
by_why OneTooMany place = refl
by_why TooDeep place = refl
by_why RowsFull place = refl
by_why CutShort place = refl
by_why NoTask place = refl

told_back : (a : Result ℕ NoImage) → answer_of (answered a) ≡ a
told_back (Ok n) = refl
told_back (Err (NoImage.Refused r)) = ap Err (by_why r.why r.place)
told_back (Err (NoImage.BufferTooShort n)) = refl

pub one_answer : (a b : Result ℕ NoImage) → answered a ≡ answered b → a ≡ b
one_answer a b e = sym (told_back a) ∙ ap answer_of e ∙ told_back b
