use native.Mathlib.Numerals.{add-one}
use Rattle.translate.proofs.bytes.put_two.Goals as goal

pub returns : goal.returns
returns c = rw (c.put_byte-2.ensures, c.put_byte.ensures, add-one)
