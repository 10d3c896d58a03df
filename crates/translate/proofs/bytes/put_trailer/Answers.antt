use native.Mathlib.Numerals.{towards_suc}
use Rattle.translate.proofs.bytes.put_trailer.Goals as goal

pub returns : goal.returns
returns c = rw (c.put_byte-4.ensures, c.put_byte-3.ensures, c.put_two-2.ensures, c.put_byte-2.ensures, c.put_byte.ensures, c.put_two.ensures) (simp towards_suc)
