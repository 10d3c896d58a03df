-- What the answers behind a `?` and a `let .. else` say of the part that they stand for.
use Rattle.std.specs.Prelude.{◌≡◌, Option, Some, Result, Ok, Err, IsErrAnd}
use Rattle.std.proofs.Common.{ap, ◌∙◌}
use Rattle.std.proofs.lemmas.Result.{err_from_is_err_and}
use Rattle.translate_rows.specs.Kinds.{Refused, Got}
use Rattle.text_reader.specs.Reading.{got}
use Rattle.text_reader.specs.Answers.{part_of}
use Rattle.text_reader.specs.Laws.Answered.{part_some}

-- The exit of a `?` hands the refusal on.
pub exit : {A : Type 0} {e : Refused} (w : Result A Refused) → IsErrAnd w (λ y. y ≡ e) → w ≡ Err e
exit w h = let p = err_from_is_err_and w h in p.1 ∙ ap (λ y. Err y) p.2

-- A head that was read, by which it is.
pub part_as : {A : Type 0} {v : Result (Option (Got A)) Refused} {o : Option (Got A)} {g : Got A} {x : A} → v ≡ Ok o → o ≡ Some g → g.value ≡ x → part_of 0 v ≡ got x g.next 0
part_as {g = g} e f h = part_some 0 e f ∙ ap (λ y. got y g.next 0) h
