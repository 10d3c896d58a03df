use Rattle.translate_fields.proofs.ifok_fields.Goals as goal

pub returns : goal.returns
returns c =
    rw (c.fields_by.ensures, c.first_of-second.ensures, c.less-2.ensures, c.less.ensures, c.first_of-first.ensures)
