use Rattle.translate_rows.specs.Laws.RowsPut.{set_past}
use Rattle.translate.proofs.bytes.put_byte.Goals as goal

pub returns-else-i-out : goal.returns-else-i-out
returns-else-i-out c = set_past _ _ _ c.if-i-out.false
