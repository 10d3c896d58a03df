-- On a sound image every task stands at a row that is no case row, with six lap counts of at most 255 each: a fresh start does,
-- and every turn keeps it.
use Rattle.std.specs.Prelude.{◌≡◌, Bool, cond, List, map, length, get_or, set, replicate}
use Rattle.std.proofs.Math.Path.{refl}
use Rattle.std.proofs.Common.{◌∙◌, arith, length-set}
use Rattle.std.proofs.Math.Bool.{true, false}
use Prim.Native.Nat.{ℕ, zero, suc, ◌+◌, ◌≤◌, ◌<◌}
use Rattle.std.proofs.Math.Dec.{ltb}
use Rattle.std.proofs.lemmas.List.{length-replicate}
use borrow.Author.Tests.{ltb-true}
use Rattle.image_laws.specs.Kinds.{Task, Row, Otherwise, Wait, Go, Statement, Do, Close, Range, Repeat, Ifok, Select, Case, Stop}
use Rattle.meaning.specs.Numbers.{lap_limit, depth_limit}
use Rattle.meaning.specs.Machine.{Standing, Machine, turn}
use Rattle.meaning.specs.Image.{Spot, spot, row_no, image_case, image_cases, image_default, image_repeat, image_statement, image_look, image_start, task_no}
use Rattle.meaning.specs.Bytes.{body_of, row_count, channel_count, task_count, rows_in, rows_of, tabulate, first_row_in, first_rows_of, capacities_of, start_of}
use Rattle.image_check.specs.Sound.{Target, OtherwiseSound, Followed, StatementSound, Sound}
use Rattle.meaning_laws.specs.Lists.{All}
use Rattle.meaning_laws.specs.Laws.Lists.{all_set, all_weaken, all_along, all_append, all_replicate}
use Rattle.meaning_laws.specs.Laws.Points.{Default, Leads, Standings, points_fresh, points_turn}

-- A spot at a row that is no case row, with lap counts of the kind L.
pub record Placed (bs : List ℕ) (L : List ℕ → Type 0) (s : Spot) : Type 0 where
  pub row : Target (body_of bs) (row_count bs) s.row
  pub laps : L s.laps

all_listed : {A : Type 0} (Q : A → Type 0) (f : ℕ → A) (n i : ℕ) → ((k : ℕ) → i ≤ k → k < i + n → Q (f k)) → All Q (tabulate f n i)
unfolding tabulate
all_listed Q f zero i h = tt
all_listed Q f (suc n) i h = (h i (omega arith) (omega arith), all_listed Q f n (suc i) (λ k a b. h k (omega arith) (omega arith)))

-- L is any kind of lap counts that is kept where one of them is set to at most 255.
module _ (bs : List ℕ) (sound : Sound bs) (L : List ℕ → Type 0) (keeps : (laps : List ℕ) (d n : ℕ) → L laps → n ≤ lap_limit → L (set laps d n)) where
  abbrev To : Row → Type 0
  To r = Target (body_of bs) (row_count bs) r

  abbrev Z : Spot → Type 0
  Z s = Placed bs L s

  module _ (laps : List ℕ) (fine : L laps) where
    placed : (r : Row) → To r → Z (spot laps r)
    placed r h = record { row = h; laps = fine }

    default_leads : (e : Otherwise) → OtherwiseSound (body_of bs) (row_count bs) e → Default Z (image_default laps e)
    unfolding image_default
    default_leads Wait h = tt
    default_leads (Go n) h = placed n h

    case_leads : (i : ℕ) (s : Statement) → StatementSound (body_of bs) (row_count bs) (channel_count bs) i s → All (λ k. Z k.hit × Z k.miss) (image_case laps s)
    unfolding image_case
    case_leads i (Do o n) h = tt
    case_leads i (Close p n) h = tt
    case_leads i (Range p n a) h = tt
    case_leads i (Repeat d k n a) h = tt
    case_leads i (Ifok n a) h = tt
    case_leads i (Select k e) h = tt
    case_leads i (Case o n) h = ((placed n h.1, placed n h.1), tt)
    case_leads i Stop h = tt

    cases_lead : (k i : ℕ) → Followed (body_of bs) (row_count bs) k i → All (λ c. Z c.hit × Z c.miss) (image_cases (rows_in (body_of bs)) laps k i)
    unfolding image_cases
    cases_lead zero i f = tt
    cases_lead (suc k) i f = all_append (λ c. Z c.hit × Z c.miss) (image_case laps (rows_in (body_of bs) (row_no i))) _ (case_leads i _ (sound.statements i f.0)) (cases_lead k (suc i) f.2)

    repeat_leads : (d k : ℕ) (n a : Row) → k ≤ lap_limit → To n → To a → Leads Z (image_repeat laps d k n a)
    unfolding image_repeat
    repeat_leads d k n a h body after = go (ltb (get_or laps d 0) k) refl
      where
        go : (b : Bool) → ltb (get_or laps d 0) k ≡ b → Z (cond b (spot (set laps d (suc (get_or laps d 0))) n) (spot (set laps d 0) a))
        go true e = record { row = body; laps = keeps laps d (suc (get_or laps d 0)) fine (omega (arith, h, ltb-true (get_or laps d 0) k e)) }
        go false e = record { row = after; laps = keeps laps d 0 fine (omega arith) }

    statement_leads : (i : ℕ) (s : Statement) → StatementSound (body_of bs) (row_count bs) (channel_count bs) i s → Leads Z (image_statement (rows_in (body_of bs)) laps i s)
    unfolding image_statement
    statement_leads i (Do o n) h = (((placed n h.1, placed n h.1), tt), tt)
    statement_leads i (Close p n) h = placed n h.1
    statement_leads i (Range p n a) h = (((placed n h.1, placed a h.2), tt), tt)
    statement_leads i (Repeat d k n a) h = repeat_leads d k n a h.1 h.2 h.3
    statement_leads i (Ifok n a) h = (placed n h.0, placed a h.1)
    statement_leads i (Select k e) h = (cases_lead k (suc i) h.2, default_leads e h.1)
    statement_leads i (Case o n) h = tt
    statement_leads i Stop h = tt

  -- The look at a spot of the kind leads to such spots alone.
  look_leads : (s : Spot) → Z s → Leads Z (image_look (rows_of bs) s)
  unfolding image_look rows_of
  look_leads s p = statement_leads s.laps p.laps s.row.0 (rows_in (body_of bs) s.row) (sound.statements s.row.0 p.row.below)

  placed_turn : (t : Task) (choice : ℕ) (m : Machine Spot) → Standings Z m → Standings Z (turn (image_look (rows_of bs)) t choice m).after
  placed_turn t choice m h = points_turn Z (image_look (rows_of bs)) look_leads t choice m h

  placed_start : L (replicate depth_limit 0) → Standings Z (start_of bs)
  unfolding start_of image_start first_rows_of
  placed_start fine =
      let first : ℕ → Row = λ t. first_row_in (body_of bs) (row_count bs) (channel_count bs) (task_no t) in
      let rows = all_listed To first (task_count bs) 0 (λ k a b. sound.firsts k (omega (arith, b))) in
      let spots = all_along To Z (spot (replicate depth_limit 0)) (tabulate first (task_count bs) 0) (λ r h. placed (replicate depth_limit 0) fine r h) rows in
      points_fresh Z (capacities_of bs) (map (spot (replicate depth_limit 0)) (tabulate first (task_count bs) 0)) spots

-- THE ROWS ALONE

abbrev pub OnRow : List ℕ → Spot → Type 0
OnRow bs s = Target (body_of bs) (row_count bs) s.row

abbrev Any : List ℕ → Type 0
Any laps = Unit {0}

module _ (bs : List ℕ) (sound : Sound bs) where
  pub rows_turn : (t : Task) (choice : ℕ) (m : Machine Spot) → Standings (OnRow bs) m → Standings (OnRow bs) (turn (image_look (rows_of bs)) t choice m).after
  rows_turn t choice m h =
      let g = placed_turn bs sound Any (λ laps d n l b. tt) t choice m (all_weaken (λ (x : Standing Spot). OnRow bs x.point) (λ x. Placed bs Any x.point) m.tasks (λ x q. record { row = q; laps = tt }) h) in
      all_weaken (λ (x : Standing Spot). Placed bs Any x.point) (λ x. OnRow bs x.point) (turn (image_look (rows_of bs)) t choice m).after.tasks (λ x q. q.row) g

  pub rows_start : Standings (OnRow bs) (start_of bs)
  rows_start = all_weaken (λ (x : Standing Spot). Placed bs Any x.point) (λ x. OnRow bs x.point) (start_of bs).tasks (λ x q. q.row) (placed_start bs sound Any (λ laps d n l b. tt) tt)

-- THE ROWS AND THE LAP COUNTS

pub record Laps (laps : List ℕ) : Type 0 where
  pub count : length laps ≡ depth_limit
  pub low : All (λ n. n ≤ lap_limit) laps

laps_set : (laps : List ℕ) (d n : ℕ) → Laps laps → n ≤ lap_limit → Laps (set laps d n)
laps_set laps d n l h = record { count = length-set laps d n ∙ l.count; low = all_set (λ k. k ≤ lap_limit) laps d n l.low h }

module _ (bs : List ℕ) (sound : Sound bs) where
  pub closed_turn : (t : Task) (choice : ℕ) (m : Machine Spot) → Standings (Placed bs Laps) m → Standings (Placed bs Laps) (turn (image_look (rows_of bs)) t choice m).after
  closed_turn t choice m h = placed_turn bs sound Laps laps_set t choice m h

  pub closed_start : Standings (Placed bs Laps) (start_of bs)
  closed_start = placed_start bs sound Laps laps_set (record { count = length-replicate {A = ℕ} depth_limit 0; low = all_replicate (λ k. k ≤ lap_limit) depth_limit 0 (omega arith) })
