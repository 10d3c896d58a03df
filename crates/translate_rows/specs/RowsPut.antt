-- Rows stored in a buffer, one behind the other from a row on; every other byte as it was.
use Rattle.std.specs.Prelude.{List, [], ◌∷◌, ℕ, suc}
use Rattle.translate_rows.specs.Kinds.{Statement}
use Rattle.meaning.specs.Image.{row_no}
use Rattle.image_rows.specs.Rows.{row_put}

unfoldable pub rows_put : List ℕ → ℕ → List Statement → List ℕ
rows_put out i [] = out
rows_put out i (x ∷ xs) = rows_put (row_put out (row_no i) x) (suc i) xs
