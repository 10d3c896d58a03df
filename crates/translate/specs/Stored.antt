-- What stands behind the rows: what the functions that write it leave in the buffer.
use Rattle.std.specs.Prelude.{◌≡◌, List, [], ◌∷◌, ◌++◌, ℕ, ◌+◌, ◌*◌, length, take}
use Rattle.std.proofs.lemmas.List.Edits.{sets}
use Rattle.meaning.specs.Numbers.{channel_limit}
use Rattle.meaning.specs.Bytes.{row_size, two, trailer}
use Rattle.text_reader.specs.Reading.{got, chans_from}

abbrev pub CapacitiesStored : List ℕ → ℕ → ℕ → List ℕ → List ℕ → Type 0
CapacitiesStored s channels base out new = (ns : List ℕ) (a r : ℕ) → chans_from s channel_limit 0 0 ≡ got ns a r → channels ≡ length ns → new ≡ sets out base ns

-- Two bytes for each number.
unfoldable pub pairs : List ℕ → List ℕ
pairs [] = []
pairs (n ∷ ns) = two n ++ pairs ns

abbrev pub FirstsStored : List ℕ → ℕ → ℕ → List ℕ → List ℕ → Type 0
FirstsStored fs tasks base out new = new ≡ sets out base (pairs (take tasks fs))

-- With capacities ns and first rows fs.
abbrev pub rest : ℕ → ℕ → ℕ → List ℕ → List ℕ → List ℕ → List ℕ
rest rows channels tasks ns fs out =
    sets (sets (sets out (row_size * rows) ns) (row_size * rows + channels) (pairs (take tasks fs))) (row_size * rows + channels + 2 * tasks) (trailer rows channels tasks)

abbrev pub RestStored : List ℕ → ℕ → ℕ → ℕ → List ℕ → List ℕ → List ℕ → Type 0
RestStored s rows channels tasks fs out new =
    (ns : List ℕ) (a r : ℕ) → chans_from s channel_limit 0 0 ≡ got ns a r → channels ≡ length ns → new ≡ rest rows channels tasks ns fs out
