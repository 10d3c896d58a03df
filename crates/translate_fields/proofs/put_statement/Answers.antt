use mathlib.Core.Path.{◌∙◌}
use Rattle.translate_fields.proofs.Laws.{put_alike}
use Rattle.translate_fields.proofs.put_statement.Goals as goal

pub returns : goal.returns
returns c = c.put_fields.ensures ∙ put_alike _ _ _ _ c.statement_fields.ensures
