-- `Proper` excludes nothing that document 01 allows: a job at its limits is proper.
use Rattle.std.specs.Prelude.{◌∷◌, ℕ, zero, suc, ◌≤◌, replicate}
use Rattle.std.proofs.Common.{arith}
use Rattle.image_laws.specs.Kinds.{Port, Nil, On, Send, Forward, Recv}
use Rattle.meaning.specs.Numbers.{channel_limit, capacity_limit, case_limit, value_limit, lap_limit}
use Rattle.meaning.specs.Text.{operate, close, stop, range, repeat, ifok, select, Body, empty, ◌▸◌, Cases, default, case, Job}
use Rattle.meaning.specs.Layout.{case_count, rows_t, rows_s, rows_b, rows_c, case_rows, default_row, entry}
use Rattle.meaning_laws.specs.Laws.Lists.{all_replicate}
use Rattle.image_laws.specs.Proper.{ProperB, ProperC, Proper}

abbrev last : Port
last = On (record { 0 = 15 })

-- Eight cases, ahead of a default with two blocks more.
unfoldable cases : ℕ → Cases
cases zero = default (repeat lap_limit (range Nil (operate (Send last value_limit) ▸ empty) ▸ empty) ▸ empty)
cases (suc n) = case (Send last value_limit) empty (cases n)

-- Six blocks, one in the other.
abbrev deep : Body
deep = repeat lap_limit (range last (ifok (select (cases case_limit) ▸ close Nil ▸ empty) (operate (Forward last) ▸ operate (Recv Nil) ▸ stop ▸ empty) ▸ empty) ▸ empty) ▸ empty

abbrev full : Job
full = record { capacities = replicate channel_limit capacity_limit; tasks = deep ∷ replicate 15 empty }

full_proper : Proper full
unfolding cases case_count rows_t rows_s rows_b rows_c case_rows default_row entry
full_proper = record {
  most_channels = omega arith;
  capacities = all_replicate (λ n. n ≤ capacity_limit) channel_limit capacity_limit (omega arith);
  some_tasks = omega arith;
  most_tasks = omega arith;
  most_rows = omega arith;
  bodies = (
    ((omega arith, omega arith, ((omega arith, omega arith, ((omega arith, ((omega arith, omega arith, inner case_limit), (tt, tt)), (omega arith, (tt, (tt, tt)))), tt)), tt)), tt),
    all_replicate (λ b. ProperB channel_limit b 0) 15 empty tt,
  );
}
  where
    inner : (n : ℕ) → ProperC channel_limit (cases n) 4
    inner zero = ((omega arith, omega arith, ((omega arith, tt, ((omega arith, omega arith), tt)), tt)), tt)
    inner (suc n) = ((omega arith, omega arith), tt, inner n)
