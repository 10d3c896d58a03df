use mathlib.Core.Path.{◌∙◌}
use Rattle.translate_fields.proofs.Laws.{put_alike}
use Rattle.translate_fields.specs.Rows.{case_fields}
use Rattle.translate_fields.proofs.put_case.Goals as goal

pub returns : goal.returns
unfolding case_fields
returns c =
    c.put_fields.ensures
    ∙ put_alike _ _ _ _ (rw (
      c.fields_by.ensures,
      c.op_in.ensures,
      c.chan_in.ensures,
      c.first_of-body.ensures,
      c.less.ensures,
    ))
