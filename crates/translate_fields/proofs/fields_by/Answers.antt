use Rattle.translate_fields.proofs.Laws.{low_bytes}
use Rattle.translate_fields.proofs.fields_by.Goals as goal

pub returns : goal.returns
returns c = low_bytes _ _ _ _ _
