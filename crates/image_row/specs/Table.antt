-- The table of the rows, asked line by line: what each op wants of a row's fields, which of them are 0, in range or a target. The
-- contracts of the row's own functions cite it; laws/Table shows each line to be what `row_good` says at its op.
use Rattle.std.specs.Prelude.{Bool, cond, ◌&&◌, List, ℕ, suc, eqb, leb, ltb}
use Rattle.image_row.specs.Kinds.{Fields}
use Rattle.meaning.specs.Numbers.{case_limit, lap_limit, depth_limit}
use Rattle.meaning.specs.Image.{row_no}
use Rattle.meaning.specs.Bytes.{port_of}
use Rattle.image_row.specs.Row.{port_good, is_target, cases_follow}

abbrev pub stop_good : Fields → Bool
stop_good f = eqb f.chan 0 && (eqb f.arg 0 && (eqb f.next 0 && eqb f.other 0))

module _ (rs : List ℕ) (rows : ℕ) where
  abbrev pub targets_good : Fields → Bool
  targets_good f = is_target rs rows (row_no f.next) && is_target rs rows (row_no f.other)

  abbrev pub repeat_good : Fields → Bool
  repeat_good f = ltb f.chan depth_limit && (leb f.arg lap_limit && targets_good f)

  abbrev pub ifok_good : Fields → Bool
  ifok_good f = eqb f.chan 0 && (eqb f.arg 0 && targets_good f)

  abbrev pub default_good : Fields → Bool
  default_good f = cond (eqb f.arg 1) (is_target rs rows (row_no f.next)) (eqb f.arg 0 && eqb f.next 0)

  abbrev pub select_good : ℕ → Fields → Bool
  select_good i f = eqb f.other 0 && (leb f.chan case_limit && (default_good f && cases_follow rs rows f.chan (suc i)))

  module _ (channels : ℕ) where
    abbrev pub send_good : Fields → Bool
    send_good f = eqb f.other 0 && (port_good channels (port_of f.chan) && is_target rs rows (row_no f.next))

    abbrev pub forward_good : Fields → Bool
    forward_good f = eqb f.arg 0 && send_good f

    abbrev pub range_good : Fields → Bool
    range_good f = eqb f.arg 0 && (port_good channels (port_of f.chan) && targets_good f)
