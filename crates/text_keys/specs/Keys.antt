-- The key of a list of bytes, and sixteen words searched by key.
use Rattle.std.specs.Prelude.{Bool, cond, List, [], ◌∷◌, ℕ, zero, suc, ◌+◌, ◌-◌, ◌*◌, ◌/◌, ◌%◌, ◌^◌, eqb, ltb, get_or, Option, Some, None}

-- Bytes gathered as a number base 256, modulo 256 ^ 8: the last eight count.
abbrev pub key_more : ℕ → ℕ → ℕ
key_more key b = key % 256 ^ 7 * 256 + b

unfoldable pub gathered : ℕ → List ℕ → ℕ
gathered key [] = key
gathered key (b ∷ w) = gathered (key_more key b) w

abbrev pub key_of : List ℕ → ℕ
key_of w = gathered 0 w

-- The key of the first n bytes of a row of eight.
abbrev pub cut_key : List ℕ → ℕ → ℕ
cut_key row n = key_of row / 2 ^ (64 - 8 * n)

-- The first of the n places from k on that passes, the place behind them where none does.
unfoldable pub first_from : (ℕ → Bool) → ℕ → ℕ → ℕ
first_from p zero k = k
first_from p (suc n) k = cond (p k) k (first_from p n (k + 1))

-- "The sixteen reserved words"
abbrev pub places : ℕ
places = 16

-- So many words, each known by its key and its size: the place of the first with a key, if it has the size n, and the number behind
-- the last place otherwise.
abbrev pub keyed : (ℕ → ℕ) → ℕ → ℕ → Bool
keyed keys key k = eqb key (keys k)

unfoldable pub searched : (ℕ → ℕ) → (ℕ → ℕ) → ℕ → ℕ → ℕ
searched keys sizes key n = cond (eqb n (sizes (first_from (keyed keys key) places 0))) (first_from (keyed keys key) places 0) places

-- The words of a table: rows of eight bytes, and how many of the eight count.
abbrev pub row_key : List (List ℕ) → List ℕ → ℕ → ℕ
row_key words lengths k = cut_key (get_or words k []) (get_or lengths k 0)

abbrev pub row_size : List ℕ → ℕ → ℕ
row_size lengths k = get_or lengths k 0

unfoldable pub place_in : List (List ℕ) → List ℕ → ℕ → ℕ → ℕ
place_in words lengths key n = searched (row_key words lengths) (row_size lengths) key n

-- A place of the table, and none behind the last.
abbrev pub found : ℕ → Option ℕ
found k = cond (ltb k places) (Some k) None
