use mathlib.Core.Path.{◌≡◌}
use mathlib.Core.List.{List}
use Prim.Native.Nat.{ℕ, ◌+◌, ◌-◌}
use lib.ListN.{length}
use lib.Seq.{sets}
use Rattle.meaning.specs.Numbers.{channel_limit}
use Rattle.text_reader.specs.Reading.{got, chans_from}
use Rattle.translate.proofs.writing.lay_capacities.Given as goal

abbrev pub invariant-loop-n : goal.invariant-loop-n
invariant-loop-n l =
    (length l.out ≡ length l.initial.out)
    × ((ns : List ℕ) (a r : ℕ) → chans_from l.text channel_limit 0 0 ≡ got ns a r → l.channels ≡ length ns
    → (ds : List ℕ) × (chans_from l.text (channel_limit - l.n) l.at 0 ≡ got ds a r) × (l.channels ≡ l.n + length ds) × (sets l.out (l.base + l.n) ds ≡ sets l.initial.out l.base ns))
