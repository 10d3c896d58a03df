-- One lap of the loops over channels and tasks, and a job. Assumes nothing.
use Rattle.std.specs.Prelude.{◌≡◌, Bool, true, false, cond, ℕ, suc, ◌+◌, eqb, ⊤, Result, Ok, Err}
use Rattle.std.proofs.Math.Path.{refl, sym, ap}
use Rattle.std.proofs.Common.{◌∙◌, arith}
use mathlib.Core.List.{List, [], ◌∷◌}
use Rattle.std.proofs.lemmas.Bool.{eqb-false}
use Rattle.std.proofs.Math.ListN.{length}
use Rattle.meaning.specs.Numbers.{channel_limit, capacity_limit, task_limit, word_out_of_place, one_too_many, no_task_given}
use Rattle.meaning.specs.Text.{Body}
use Rattle.meaning.specs.Laws.Tests.{cond_all}
use Rattle.text_reader.specs.Kinds.{Word, JobSize}
use Rattle.text_words.specs.Words.{no_kind, chan_kind, task_kind, word_at}
use Rattle.text_reader.specs.Reading.{Part, got, none, bad, bind, number, body, chan_by, chans_from, task_end, task_by, tasks_from, job_of, job}
use Rattle.text_reader.specs.Answers.{told, counted, ChanTold, ChansTold, task_head, TaskHeadTold, TaskTold, TasksTold, told_job}
use Rattle.text_reader.specs.Laws.Parts.{Stops, told_got, All, ways_all}
use Rattle.text_reader.specs.Laws.Many.{many_more, many_end, many_bad, counted_done}
use Rattle.text_reader.specs.Laws.Heads.{Kept, number_kept}

-- CHANNELS AND TASKS

-- One more was allowed.
abbrev Left : {A : Type 0} → ℕ → A → ℕ → Type 0
Left left x r = left ≡ 0 → ⊥

all_left : {A : Type 0} (left : ℕ) (p : Part A) → (left ≡ 0 → ⊥) → All (Left left) p
all_left left (got x at rows) n = n
all_left left none n = tt
all_left left (bad m place) n = tt

-- One lap of the loop over channels, by what is told of one, with no row.
module _ (s : List ℕ) where
  chan_kept : (left rows : ℕ) (w : Word) → All (Kept rows) (chan_by s left w rows)
  unfolding chan_by
  chan_kept left rows w =
      ways_all (Kept rows) (eqb w.kind chan_kind) _ _ rows
      (λ _. ways_all (Kept rows) (eqb left 0) _ _ rows (λ _. tt) (λ _. number_kept s capacity_limit rows (word_at s w.next)))
      (λ _. tt)

  chan_left : (left rows : ℕ) (w : Word) → All (Left left) (chan_by s left w rows)
  unfolding chan_by
  chan_left left rows w =
      ways_all (Left left) (eqb w.kind chan_kind) _ _ rows
      (λ _. ways_all (Left left) (eqb left 0) _ _ rows (λ _. tt) (λ n. all_left left (number s capacity_limit w.next rows) (eqb-false left 0 n)))
      (λ _. tt)

  pub chans_step : (left at n : ℕ) {x a r : ℕ} {v : Part ℕ} → v ≡ got x a r → ChanTold s at left v → (left ≡ 0 → ⊥) × ((j : ℕ) → suc j ≡ left → counted length (n + 1) (chans_from s j a 0) ≡ counted length n (chans_from s left at 0))
  unfolding chans_from told
  chans_step left at n {x} {a} {r} e h =
      let g : got x a r ≡ chan_by s left (word_at s at) 0 = sym e ∙ h in
      let l : All (Left left) (got x a r) = rw (← g) at (chan_left left 0 (word_at s at)) in
      let z : All (Kept 0) (got x a r) = rw (← g) at (chan_kept left 0 (word_at s at)) in
      (l, many_more _ _ _ length left at 0 n (ap told e ∙ ap (got tt a) z) (ap told h) (λ x xs. refl))

  pub chans_end : (left at n : ℕ) {v : Part ℕ} → v ≡ none → ChanTold s at left v → got n at 0 ≡ counted length n (chans_from s left at 0)
  unfolding chans_from told
  chans_end left at n e h = many_end _ _ _ length left at 0 n [] refl refl (ap told e) (ap told h)

  pub chans_refused : (left at n : ℕ) {v : Part ℕ} {m place : ℕ} → v ≡ bad m place → ChanTold s at left v → bad m place ≡ counted length n (chans_from s left at 0)
  unfolding chans_from told
  chans_refused left at n e h = many_bad _ _ _ length left at 0 n (ap told e) (ap told h)

-- The same of tasks, at any rows.
module _ (s : List ℕ) (channels : ℕ) where
  task_left : (left rows : ℕ) (w : Word) → All (Left left) (task_by s channels left w rows)
  unfolding task_by
  task_left left rows w =
      ways_all (Left left) (eqb w.kind task_kind) _ _ rows
      (λ _. ways_all (Left left) (eqb left 0) _ _ rows (λ _. tt) (λ n. all_left left (bind (body s channels w.next rows) (λ b at r. task_end s b (word_at s at) r)) (eqb-false left 0 n)))
      (λ _. cond_all (All (Left left)) (eqb w.kind no_kind) (λ _. tt) (λ _. tt))

  pub tasks_step : (left at rows n : ℕ) {a r : ℕ} {v : Part ⊤} → v ≡ got tt a r → TaskTold s channels at rows left v → (left ≡ 0 → ⊥) × ((j : ℕ) → suc j ≡ left → counted length (n + 1) (tasks_from s channels j a r) ≡ counted length n (tasks_from s channels left at rows))
  unfolding tasks_from
  tasks_step left at rows n {a} {r} e h =
      let g = told_got (task_by s channels left (word_at s at) rows) (sym e ∙ h) in
      let l : All (Left left) (got g.0 a r) = rw g.1 at (task_left left rows (word_at s at)) in
      (l, many_more _ _ _ length left at rows n e h (λ x xs. refl))

  pub tasks_end : (left at rows n : ℕ) {v : Part ⊤} → v ≡ none → TaskTold s channels at rows left v → got n at rows ≡ counted length n (tasks_from s channels left at rows)
  unfolding tasks_from
  tasks_end left at rows n e h = many_end _ _ _ length left at rows n [] refl refl e h

  pub tasks_refused : (left at rows n : ℕ) {v : Part ⊤} {m place : ℕ} → v ≡ bad m place → TaskTold s channels at rows left v → bad m place ≡ counted length n (tasks_from s channels left at rows)
  unfolding tasks_from
  tasks_refused left at rows n e h = many_bad _ _ _ length left at rows n e h

-- A task by its head.
module _ (s : List ℕ) (channels at rows left : ℕ) {v : Part ⊤} (h : TaskHeadTold s at rows left v) where
  pub task_stop : Stops v → v ≡ told (task_by s channels left (word_at s at) rows)
  unfolding task_by task_head told
  task_stop q = go (eqb w.kind task_kind) (eqb left 0) (eqb w.kind no_kind) h
    where
      w : Word
      w = word_at s at

      go : (b c d : Bool) → v ≡ cond b (cond c (bad one_too_many w.start) (got (tt {0}) w.next rows)) (cond d none (bad word_out_of_place w.start))
          → v ≡ told (cond {A = ℕ → Part Body} b (cond c (λ rows. bad one_too_many w.start) (λ rows. bind (body s channels w.next rows) (λ b at r. task_end s b (word_at s at) r)))
          (λ rows. cond d none (bad word_out_of_place w.start)) rows)
      go true true d e = e
      go true false d e = absurd (rw e at q)
      go false c true e = e
      go false c false e = e

  pub task_begun : {next n : ℕ} → v ≡ got tt next n → (n ≡ rows) × (task_by s channels left (word_at s at) rows ≡ bind (body s channels next n) (λ b at r. task_end s b (word_at s at) r))
  unfolding task_by task_head
  task_begun {next} {n} q = go (eqb w.kind task_kind) (eqb left 0) (eqb w.kind no_kind) (sym q ∙ h)
    where
      w : Word
      w = word_at s at

      go : (b c d : Bool) → got (tt {0}) next n ≡ cond b (cond c (bad one_too_many w.start) (got (tt {0}) w.next rows)) (cond d none (bad word_out_of_place w.start))
          → (n ≡ rows) × (cond {A = ℕ → Part Body} b (cond c (λ rows. bad one_too_many w.start) (λ rows. bind (body s channels w.next rows) (λ b at r. task_end s b (word_at s at) r)))
          (λ rows. cond d none (bad word_out_of_place w.start)) rows ≡ bind (body s channels next n) (λ b at r. task_end s b (word_at s at) r))
      go true true d e = absurd (let z : ◌≡◌ {A = ℕ} 0 1 = cc in omega arith)
      go true false d e =
          let a : w.next ≡ next = cc in
          let m : n ≡ rows = cc in
          (m, rw (a, m))
      go false c true e = absurd (let z : ◌≡◌ {A = ℕ} 0 1 = cc in omega arith)
      go false c false e = absurd (let z : ◌≡◌ {A = ℕ} 0 1 = cc in omega arith)

-- A JOB

-- The answer of a job with so many rows, channels and tasks.
abbrev pub sized : ℕ → ℕ → ℕ → Result JobSize (ℕ × ℕ)
sized rows channels tasks = Ok (record { rows = rows; channels = channels; tasks = tasks })

module _ (s : List ℕ) {w : Part ℕ} (e : ChansTold s w) where
  pub job_refused : {n place : ℕ} → w ≡ bad n place → Err (n, place) ≡ told_job (job s)
  unfolding job bind counted told_job
  job_refused {n} {place} d = go (chans_from s channel_limit 0 0) (sym d ∙ e)
    where
      go : (p : Part (List ℕ)) → bad n place ≡ counted length 0 p → Err (n, place) ≡ told_job (bind p (λ caps at r. bind (tasks_from s (length caps) task_limit at r) (λ bs at r. job_of s caps bs at r)))
      go (got xs a r) q = cc
      go none q = cc
      go (bad m place') q = cc

  module _ {a r n : ℕ} (d : w ≡ got n a r) {t : Part ℕ} (f : TasksTold s n a r t) where
    job_tasks : (caps : List ℕ) × (n ≡ length caps) × (told_job (job s) ≡ told_job (bind (tasks_from s n task_limit a r) (λ bs at r. job_of s caps bs at r)))
    unfolding job bind
    job_tasks = let g = counted_done length (chans_from s channel_limit 0 0) (sym d ∙ e) in (g.0, g.2, go (chans_from s channel_limit 0 0) g.0 g.1 g.2)
      where
        go : (p : Part (List ℕ)) (caps : List ℕ) → p ≡ got caps a r → n ≡ length caps
            → told_job (bind p (λ caps at r. bind (tasks_from s (length caps) task_limit at r) (λ bs at r. job_of s caps bs at r))) ≡ told_job (bind (tasks_from s n task_limit a r) (λ bs at r. job_of s caps bs at r))
        go p caps q y = rw (q, y)

    pub tasks_cut : {m place : ℕ} → t ≡ bad m place → Err (m, place) ≡ told_job (job s)
    unfolding bind counted told_job
    tasks_cut {m} {place} q = let j = job_tasks in go j.0 (tasks_from s n task_limit a r) (sym q ∙ f) ∙ sym j.2
      where
        go : (caps : List ℕ) (p : Part (List Body)) → bad m place ≡ counted length 0 p → Err (m, place) ≡ told_job (bind p (λ bs at r. job_of s caps bs at r))
        go caps (got xs a r) q = cc
        go caps none q = cc
        go caps (bad m place') q = cc

    module _ {b q m : ℕ} (c : t ≡ got m b q) where
      pub no_task : m ≡ 0 → Err (no_task_given, length s) ≡ told_job (job s)
      unfolding bind told_job
      no_task z =
          let j = job_tasks in
          let g = counted_done length (tasks_from s n task_limit a r) (sym c ∙ f) in
          go j.0 g.0 (omega arith) ∙ sym (j.2 ∙ ap (λ (p : Part (List Body)). told_job (bind p (λ bs at r. job_of s j.0 bs at r))) g.1)
        where
          go : (caps : List ℕ) (bs : List Body) → length bs ≡ 0 → Err (no_task_given, length s) ≡ told_job (job_of s caps bs b q)
          go caps [] z = refl
          go caps (x ∷ bs) z = absurd (omega arith)

      pub job_done : (m ≡ 0 → ⊥) → sized q n m ≡ told_job (job s)
      unfolding bind told_job
      job_done z =
          let j = job_tasks in
          let g = counted_done length (tasks_from s n task_limit a r) (sym c ∙ f) in
          go j.0 g.0 j.1 g.2 ∙ sym (j.2 ∙ ap (λ (p : Part (List Body)). told_job (bind p (λ bs at r. job_of s j.0 bs at r))) g.1)
        where
          go : (caps : List ℕ) (bs : List Body) → n ≡ length caps → m ≡ length bs → sized q n m ≡ told_job (job_of s caps bs b q)
          go caps [] y x = absurd (z x)
          go caps (x ∷ bs) y w = rw (y, w)
