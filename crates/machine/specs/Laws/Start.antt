-- A started state reads as fresh records, and stands for the meaning's fresh start of the image.
use Rattle.std.specs.Prelude.{◌≡◌, refl, cond, List, [], ◌∷◌, ℕ, zero, suc, ◌≤◌, ltb, length, take, replicate, Ok}
use Rattle.std.proofs.Math.Path.{ap, subst}
use Rattle.std.proofs.Common.{sym, ◌∙◌, arith, lt-ltb}
use Rattle.std.proofs.lemmas.List.{get_or-replicate}
use Rattle.machine.specs.Kinds.{Row, TaskState, Started}
use Rattle.meaning.specs.Numbers.{task_limit, channel_limit, capacity_limit}
use Rattle.meaning.specs.Image.{row_no, task_no}
use Rattle.meaning.specs.Bytes.{row_count, channel_count, task_count, body_of, first_row_in, tabulate, start_of}
use Rattle.image_rows.specs.Rows.{counts_in, counts_of}
use Rattle.image_check.specs.Check.{checked}
use Rattle.image_check.specs.Laws.Sound.{good_sound}
use Rattle.machine_records.specs.Records.{Records, blank_task}
use Rattle.machine_records.specs.View.{view}
use Rattle.machine_records.specs.Laws.Sized.{Sized}
use Rattle.machine_laws.specs.Laws.Fit.{Arrays}
use Rattle.machine_laws.specs.Laws.Meant.{Kept}
use Rattle.machine_laws.specs.Laws.Start.{Fresh, fresh_view, fresh_kept}
use Rattle.machine_store.specs.Store.{records_of, Plain}
use Rattle.machine_store.specs.Laws.Tables.{table_same, table_at, table-length}
use Rattle.machine_store.specs.Laws.Again.{records_again, again_plain}
use Rattle.machine.specs.Public.{fresh_task, fresh_tasks, fresh_records, fresh_state, started_as, started, fresh_values}

take_table : {A : Type 0} (f : ℕ → A) (n m i : ℕ) → n ≤ m → take n (tabulate f m i) ≡ tabulate f n i
unfolding tabulate
take_table f zero m i h = refl
take_table f (suc n) zero i h = absurd (omega arith)
take_table f (suc n) (suc m) i h = ap (λ l. f i ∷ l) (take_table f n m (suc i) (omega arith))

module _ (bs : List ℕ) where
  abbrev tasks : List TaskState
  tasks = fresh_tasks (body_of bs) (counts_of bs) (task_count bs)

  -- The records of a fresh start.
  abbrev pub first : Records
  first = fresh_records tasks (task_count bs) (channel_count bs)

  first_sized : Sized first
  first_sized = record {
    tasks16 = table-length _ task_limit 0;
    chans16 = refl;
    order16 = refl;
    laps6 = λ t l. ap (λ (x : TaskState). length x.laps) (table_at _ task_limit 0 t blank_task l);
  }

  first_arrays : Arrays first fresh_values
  first_arrays = record {
    tasks16 = first_sized.tasks16;
    chans16 = refl;
    order16 = refl;
    rows16 = refl;
    cells16 = λ c h. ap (λ (l : List ℕ). length l) (get_or-replicate channel_limit c (replicate capacity_limit 0) [] h);
  }

  module _ (good : checked bs ≡ Ok tt) where
    started_first : (started bs).state ≡ fresh_state (body_of bs) (counts_of bs)
    unfolding started
    started_first = ap (λ a. (started_as (body_of bs) (counts_of bs) a).state) good

    -- A started state reads as them,
    pub started_reads : records_of (started bs).state ≡ first
    unfolding fresh_state counts_of counts_in task_count channel_count
    started_reads = ap records_of started_first ∙ records_again first first_sized

    pub started_plain : Plain (started bs).state.cells
    unfolding fresh_state counts_of counts_in task_count channel_count
    started_plain = subst (λ s. Plain s.cells) (sym started_first) (again_plain first first_sized)

    abbrev first_row : ℕ → Row
    first_row t = first_row_in (body_of bs) (row_count bs) (channel_count bs) (task_no t)

    at_first : take (task_count bs) tasks ≡ tabulate (λ t. fresh_task (first_row t)) (task_count bs) 0
    unfolding counts_of counts_in row_count channel_count
    at_first =
        let n = task_count bs in
        take_table _ n task_limit 0 (good_sound bs good).most_tasks
        ∙ table_same (λ t. fresh_task (first_row t)) (λ t. fresh_task (cond (ltb t n) (first_row t) (row_no 0))) n 0 (λ t a l. rw (lt-ltb t n (omega arith)))

    first_fresh : Fresh bs first
    first_fresh = record { tasks = at_first; taskcount = refl; chans = refl; chancount = refl; waiting = refl; fault = refl; named = refl; stamp = refl }

    -- which stand for the meaning's fresh start, and fit the image.
    pub started_means : (r : Started) → r ≡ started bs → view bs (records_of r.state) fresh_values ≡ start_of bs
    started_means r e =
        ap (λ (q : Started). view bs (records_of q.state) fresh_values) e
        ∙ ap (λ s. view bs s fresh_values) started_reads
        ∙ fresh_view bs (good_sound bs good) first fresh_values first_fresh first_arrays

    pub started_kept : Kept bs (records_of (started bs).state) fresh_values
    started_kept = subst (λ s. Kept bs s fresh_values) (sym started_reads) (fresh_kept bs (good_sound bs good) first fresh_values first_fresh first_arrays)
