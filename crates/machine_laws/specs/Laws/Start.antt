-- Fresh records stand for the meaning's fresh start of the image, and fit it. The cells behind the image's tasks and the values are
-- not asked.
use Rattle.std.specs.Prelude.{◌≡◌, refl, false, length, get_or, replicate}
use Rattle.std.proofs.Math.Path.{sym, ap}
use Rattle.std.proofs.Common.{subst, ◌∙◌, le_of_suc-le-suc, not-suc-le-zero, arith}
use mathlib.Core.List.{List, [], ◌∷◌, map}
use Prim.Native.Nat.{ℕ, zero, suc, ◌%◌, ◌≤◌, ◌<◌}
use Rattle.std.proofs.Math.ListN.{take}
use Rattle.std.proofs.lemmas.List.{get_or-replicate}
use Rattle.machine_laws.specs.Kinds.{Row, Able, TaskState, ChanState}
use Rattle.meaning.specs.Numbers.{task_limit, channel_limit, depth_limit, no_fault}
use Rattle.meaning.specs.Machine.{Standing, Channel, fresh}
use Rattle.meaning.specs.Image.{Spot, spot, image_start, image_look, task_no}
use Rattle.meaning.specs.Bytes.{row_count, channel_count, task_count, body_of, first_row_in, tabulate, rows_of, capacities_of, first_rows_of, start_of}
use Rattle.image_check.specs.Sound.{Sound}
use Rattle.meaning_laws.specs.Laws.Points.{Standings}
use Rattle.meaning_laws.specs.Fits.{Fits}
use Rattle.image_laws.specs.Laws.Whole.{whole_start}
use Rattle.image_laws.specs.Laws.Closed.{OnRow, rows_start}
use Rattle.machine_records.specs.Records.{Records, blank_chan}
use Rattle.machine_records.specs.Values.{Values}
use Rattle.machine_records.specs.View.{standing_of, channels_of, view_in, view}
use Rattle.machine_laws.specs.Laws.Fit.{Arrays, Fit}
use Rattle.machine_laws.specs.Laws.Capacities.{capacity_count}
use Rattle.machine_laws.specs.Laws.Meant.{Kept, fit_kept}

-- "A fresh start": registers 0, ok marks off, lap counts 0, nobody waiting, channels open and empty, no fault, stamp 0.
abbrev fresh_task : Row → TaskState
fresh_task r = record { status = Able; ok = false; register = 0; row = r; laps = replicate depth_limit 0 }

pub record Fresh (bs : List ℕ) (s : Records) : Type 0 where
  pub tasks : take (task_count bs) s.tasks ≡ tabulate (λ t. fresh_task (first_row_in (body_of bs) (row_count bs) (channel_count bs) (task_no t))) (task_count bs) 0
  pub taskcount : s.taskcount ≡ task_count bs
  pub chans : s.chans ≡ replicate channel_limit blank_chan
  pub chancount : s.chancount ≡ channel_count bs
  pub waiting : s.waiting ≡ 0
  pub fault : s.fault ≡ no_fault
  pub named : s.named ≡ task_no 0
  pub stamp : s.stamp ≡ 0

map-tabulate : {A B : Type 0} (g : A → B) (f : ℕ → A) (n i : ℕ) → map g (tabulate f n i) ≡ tabulate (λ j. g (f j)) n i
unfolding tabulate
map-tabulate g f zero i = refl
map-tabulate g f (suc n) i = ap (λ l. g (f i) ∷ l) (map-tabulate g f n (suc i))

abbrev open_channel : ℕ → Channel
open_channel n = record { capacity = n; closed = false; buffer = [] }

open_channels : (caps : List ℕ) (n : ℕ) (b : Values) → length caps ≤ n → length caps ≤ length b
    → channels_of caps (replicate n blank_chan) b ≡ map open_channel caps
open_channels [] n b h k = refl
open_channels (c ∷ cs) zero b h k = absurd (not-suc-le-zero h)
open_channels (c ∷ cs) (suc n) [] h k = absurd (not-suc-le-zero k)
open_channels (c ∷ cs) (suc n) (r ∷ rs) h k = ap (λ l. open_channel c ∷ l) (open_channels cs n rs (le_of_suc-le-suc h) (le_of_suc-le-suc k))

module _ (bs : List ℕ) (sound : Sound bs) (s : Records) (b : Values) (f : Fresh bs s) (a : Arrays s b) where
  abbrev first_row : ℕ → Row
  first_row t = first_row_in (body_of bs) (row_count bs) (channel_count bs) (task_no t)

  abbrev standing : Spot → Standing Spot
  standing p = record { status = Able; register = 0; ok = false; point = p }

  fresh_tasks_lem : map standing_of (take s.taskcount s.tasks) ≡ map standing (map (spot (replicate depth_limit 0)) (first_rows_of bs))
  unfolding first_rows_of
  fresh_tasks_lem =
      ap (λ n. map standing_of (take n s.tasks)) f.taskcount
      ∙ ap (map standing_of) f.tasks
      ∙ map-tabulate standing_of (λ t. fresh_task (first_row t)) (task_count bs) 0
      ∙ sym (ap (map standing) (map-tabulate (spot (replicate depth_limit 0)) first_row (task_count bs) 0) ∙ map-tabulate standing _ (task_count bs) 0)

  few : length (capacities_of bs) ≤ channel_limit
  few = omega (arith, capacity_count bs, sound.most_channels)

  fresh_channels : channels_of (capacities_of bs) s.chans b ≡ map open_channel (capacities_of bs)
  fresh_channels = ap (λ l. channels_of (capacities_of bs) l b) f.chans ∙ open_channels (capacities_of bs) channel_limit b few (omega (arith, few, a.rows16))

  pub fresh_view : view bs s b ≡ start_of bs
  unfolding view_in start_of image_start fresh
  fresh_view = λ i. record {
    tasks = fresh_tasks_lem i;
    order = take (f.waiting i % suc task_limit) s.order;
    channels = fresh_channels i;
    fault = f.fault i;
    named = f.named i;
    stamp = f.stamp i;
  }

  fresh_lengths : (c : ℕ) → c < channel_count bs → (get_or s.chans c blank_chan).len ≡ 0
  fresh_lengths c h =
      ap (λ (l : List ChanState). (get_or l c blank_chan).len) f.chans
      ∙ ap (λ (k : ChanState). k.len) (get_or-replicate channel_limit c blank_chan blank_chan (omega (arith, h, sound.most_channels)))

  fresh_fit : Fit bs s b
  fresh_fit = record {
    taskcount = f.taskcount;
    chancount = f.chancount;
    waiting = omega (arith, f.waiting);
    lengths = λ c h. omega (arith, fresh_lengths c h);
    rows = subst (Standings (OnRow bs)) (sym fresh_view) (rows_start bs sound);
    fits = subst (Fits (image_look (rows_of bs))) (sym fresh_view) (whole_start bs sound).fits;
  }

  pub fresh_kept : Kept bs s b
  fresh_kept = fit_kept bs sound s b a fresh_fit
