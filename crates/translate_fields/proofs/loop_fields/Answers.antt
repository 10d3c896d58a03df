use Rattle.translate_fields.proofs.loop_fields.Goals as goal

pub returns : goal.returns
returns c = rw (c.fields_by.ensures, c.first_of-body.ensures, c.less.ensures)
