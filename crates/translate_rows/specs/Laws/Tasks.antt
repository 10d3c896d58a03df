-- One lap over tasks that the definitions read and pass 1 notes, by what the reader answers there. Assumes nothing.
use Rattle.std.specs.Prelude.{◌≡◌, refl, List, [], ◌∷◌, ◌++◌, eqb, ltb, length, set, ⊤, Err}
use Rattle.std.proofs.Math.Path.{sym, ap, subst}
use Rattle.std.proofs.Common.{◌∙◌, append_assoc}
use Prim.Native.Nat.{ℕ, suc, ◌+◌, ◌-◌, ◌*◌, ◌≤◌, ◌<◌}
use native.Mathlib.Omega.{arith}
use Rattle.std.proofs.Math.ListN.{length-append}
use Rattle.std.proofs.lemmas.List.Edits.{sets}
use Rattle.translate_rows.specs.Kinds.{Word}
use Rattle.meaning.specs.Numbers.{channel_limit, task_limit, row_limit}
use Rattle.meaning.specs.Text.{Body, empty, Job}
use Rattle.meaning.specs.Layout.{size_b, first_rows}
use Rattle.meaning.specs.Laws.Tests.{cond_all}
use Rattle.text_words.specs.Words.{no_kind, task_kind, end_kind, word_at}
use Rattle.text_reader.specs.Reading.{Part, got, none, bad, body_from, body, task_end, task_by, chans_from, tasks_from, job}
use Rattle.text_reader.specs.Answers.{counted, TaskTold, TaskEndTold, ChansTold, told_job}
use Rattle.text_reader.specs.Laws.Parts.{none_got, bad_got, same_got, told_got, Stops, All, bind_all, ways_all, row_all, Sure}
use Rattle.text_reader.specs.Laws.Many.{many_got, many_last, counted_done}
use Rattle.text_reader.specs.Laws.Sizes.{SizedB, body_sized}
use Rattle.translate_notes.specs.Notes.{notes_b, noted, all_of}
use Rattle.translate_notes.specs.Laws.Notes.{noted_in, notes_b_length}
use Rattle.translate_rows.specs.Noted.{stop_notes, first_numbers, Unmoved, TaskNoted, TasksNoted, JobNoted}
use Rattle.translate_rows.specs.Laws.Jobs.{closed_notes}
use Rattle.translate_rows.specs.Laws.Laps.{body_size}
use Rattle.translate_rows.specs.Laws.Notes.{stored_on}
use Rattle.translate_rows.specs.Laws.Noted.{stop_got, sure_told}
use Rattle.translate_rows.specs.Laws.Sections.{job_parts}

-- A TASK

module _ (s : List ℕ) (channels : ℕ) where
  abbrev SizedT : ℕ → Body → ℕ → Type 0
  SizedT rows b n = (n ≡ suc (rows + size_b b)) × (n ≤ row_limit)

  task_sized : (left : ℕ) (w : Word) (rows : ℕ) → All (SizedT rows) (task_by s channels left w rows)
  unfolding task_by task_end
  task_sized left w rows =
      ways_all (SizedT rows) (eqb w.kind task_kind) _ _ rows
      (λ _. ways_all (SizedT rows) (eqb left 0) _ _ rows (λ _. tt)
      (λ _. bind_all (SizedB rows) (SizedT rows) (body s channels w.next rows) _ (body_sized (suc row_limit) s channels 0 w.next rows)
      (λ b a r e. ways_all (SizedT rows) (eqb (word_at s a).kind end_kind) _ _ r (λ _. row_all (SizedT rows) (word_at s a) _ r (λ h. (omega arith, omega arith)))
      (λ _. cond_all (All (SizedT rows)) (eqb (word_at s a).kind no_kind) (λ _. tt) (λ _. tt)))))
      (λ _. cond_all (All (SizedT rows)) (eqb w.kind no_kind) (λ _. tt) (λ _. tt))

  -- An `end` that is there leaves the body as it is, and has a row.
  pub end_got : (b : Body) (w : Word) (rows : ℕ) {c : Body} {a r : ℕ} → task_end s b w rows ≡ got c a r → (b ≡ c) × (rows < row_limit)
  unfolding task_end
  end_got b w rows {c} {a} {r} e =
      let Ended : Body → ℕ → Type 0 = λ c r. (b ≡ c) × (rows < row_limit) in
      let z : All Ended (task_end s b w rows) =
      ways_all Ended (eqb w.kind end_kind) _ _ rows (λ _. row_all Ended w _ rows (λ h. (refl, h)))
      (λ _. cond_all (All Ended) (eqb w.kind no_kind) (λ _. tt) (λ _. tt)) in
      subst (All Ended) e z

  pub task_noted : (at rows : ℕ) (x b : Body) {n a : ℕ} (old : List ℕ) {mid new : List ℕ} → body_from (suc row_limit) s channels 0 at rows ≡ got x a n → (x ≡ b) × (n < row_limit)
      → mid ≡ sets old (3 * rows) (notes_b x 0) → new ≡ noted mid n 12 0 1 → new ≡ sets old (3 * rows) (notes_b b 0 ++ stop_notes)
  task_noted at rows x b {n} old {mid} e q f g =
      let m = body_size (suc row_limit) s channels 0 at rows e in
      let l = notes_b_length x 0 in
      rw (← q.0) (g ∙ noted_in mid n 12 0 1 q.1 ∙ ap (λ (z : List ℕ). sets z (3 * n) stop_notes) f ∙ stored_on (notes_b x 0) stop_notes old (3 * rows) (3 * n) (omega arith))

  module _ (at rows left : ℕ) {v : Part ⊤} (old new : List ℕ) where
    -- An answer that is not `Done`: nothing is left to say of the notes.
    pub stopped_task : Stops v → TaskTold s channels at rows left v → Unmoved old new v → TaskTold s channels at rows left v × TaskNoted s channels at rows left old new × Unmoved old new v
    stopped_task h f u = (f, λ b a r e. absurd (stop_got (task_by s channels left (word_at s at) rows) h f e), u)

  end_sure : (b : Body) (w : Word) (rows : ℕ) → Sure (task_end s b w rows)
  unfolding task_end
  end_sure b w rows =
      cond_all (λ (way : ℕ → Part Body). Sure (way rows)) (eqb w.kind end_kind)
      (λ _. cond_all (λ (way : ℕ → Part Body). Sure (way (rows + 1))) (ltb rows row_limit) (λ _. tt) (λ _. tt))
      (λ _. cond_all Sure (eqb w.kind no_kind) (λ _. tt) (λ _. tt))

  pub end_some : (at rows : ℕ) {v : Part ⊤} (old new : List ℕ) → TaskEndTold s at rows v → Unmoved old new v
  end_some at rows old new f e = absurd (sure_told (task_end s empty (word_at s at) rows) (end_sure empty (word_at s at) rows) (sym e ∙ f empty))

-- SEVERAL TASKS

-- The first of them, and the rest.
pub record TaskLap (s : List ℕ) (channels left at rows a' n : ℕ) (bs : List Body) (a r : ℕ) : Type 0 where
  pub one : Body
  pub rest : List Body
  pub fewer : ℕ
  pub left_is : left ≡ suc fewer
  pub is : task_by s channels left (word_at s at) rows ≡ got one a' n
  pub rest_is : tasks_from s channels fewer a' n ≡ got rest a r
  pub whole : bs ≡ one ∷ rest
  pub size : n ≡ suc (rows + size_b one)

module _ (s : List ℕ) (channels left at rows : ℕ) where
  pub task_lap : {a' n : ℕ} {v : Part ⊤} {bs : List Body} {a r : ℕ} → (left ≡ 0 → ⊥) → v ≡ got tt a' n → TaskTold s channels at rows left v → tasks_from s channels left at rows ≡ got bs a r
      → TaskLap s channels left at rows a' n bs a r
  unfolding tasks_from
  task_lap {a'} {n} l q h e =
      let g = told_got (task_by s channels left (word_at s at) rows) (sym q ∙ h) in
      let b : All (SizedT s channels rows) (got g.0 a' n) = rw g.1 at (task_sized s channels left (word_at s at) rows) in
      let z : suc (left - 1) ≡ left = omega (arith, l) in
      let y = many_got _ _ _ left at rows e g.1 (left - 1) z in
      record { one = g.0; rest = y.0; fewer = left - 1; left_is = sym z; is = g.1; rest_is = y.1; whole = y.2; size = b.0 }

  pub tasks_done : {v : Part ⊤} {bs : List Body} {a r : ℕ} → Stops v → TaskTold s channels at rows left v → tasks_from s channels left at rows ≡ got bs a r → bs ≡ []
  unfolding tasks_from
  tasks_done q h e = sym (same_got (many_last _ _ _ left at rows e (rw h at q))).0

-- A task is noted: what is left is the others.
module _ {s : List ℕ} {channels left at rows a' n : ℕ} {bs : List Body} {a r : ℕ} (t : TaskLap s channels left at rows a' n bs a r) where
  pub tasks_next : (old : List ℕ) {new : List ℕ} → new ≡ sets old (3 * rows) (notes_b t.one 0 ++ stop_notes)
      → sets new (3 * n) (notes_b (all_of t.rest) 0) ≡ sets old (3 * rows) (notes_b (all_of bs) 0)
  unfolding all_of
  tasks_next old e =
      let q = t.size in
      let l = notes_b_length t.one 0 in
      let m = length-append (notes_b t.one 0) stop_notes in
      rw (e, t.whole, closed_notes t.one (all_of t.rest) 0)
      (stored_on (notes_b t.one 0 ++ stop_notes) (notes_b (all_of t.rest) 0) old (3 * rows) (3 * n) (omega arith)
      ∙ ap (sets old (3 * rows)) (append_assoc (notes_b t.one 0) stop_notes (notes_b (all_of t.rest) 0)))

  pub firsts_next : (old : List ℕ) (k : ℕ) → sets (set old k rows) (k + 1) (first_numbers t.rest n) ≡ sets old k (first_numbers bs rows)
  unfolding first_rows
  firsts_next old k = let p : k + 1 ≡ suc k = omega arith in rw (t.whole, t.size, p)

pub tasks_none : (bs : List Body) (old : List ℕ) (i rows k : ℕ) (oldf : List ℕ) → bs ≡ [] → (old ≡ sets old i (notes_b (all_of bs) 0)) × (oldf ≡ sets oldf k (first_numbers bs rows))
unfolding all_of notes_b first_rows
tasks_none bs old i rows k oldf e = (rw e, rw e)

pub tasks_refusal : (p : Part (List Body)) {n place : ℕ} {bs : List Body} {a r : ℕ} → bad n place ≡ counted length 0 p → p ≡ got bs a r → ⊥
unfolding counted
tasks_refusal (got xs a r) h e = let z : ◌≡◌ {A = ℕ} 0 1 = cc in omega arith
tasks_refusal none h e = none_got e
tasks_refusal (bad n place) h e = bad_got e

-- A WHOLE TEXT

job_cut : (p : Part Job) {n place : ℕ} {j : Job} {a r : ℕ} → Err (n, place) ≡ told_job p → p ≡ got j a r → ⊥
unfolding told_job
job_cut (got x a r) h e = let z : ◌≡◌ {A = ℕ} 0 1 = cc in omega arith
job_cut none h e = none_got e
job_cut (bad n place) h e = bad_got e

pub stopped_job : (p : Part Job) (old new oldf newf : List ℕ) {n place : ℕ} → Err (n, place) ≡ told_job p → (Err (n, place) ≡ told_job p) × JobNoted p old new oldf newf
stopped_job p old new oldf newf f = (f, λ j a r e. absurd (job_cut p f e))

pub job_noted : (s : List ℕ) (old new oldf newf : List ℕ) {v : Part ℕ} {from before n : ℕ} → v ≡ got n from before → ChansTold s v → TasksNoted s n from before old new oldf newf → JobNoted (job s) old new oldf newf
job_noted s old new oldf newf {v} {from} {before} {n} q h f j a r e =
    let p = job_parts s j a r e in
    let d = counted_done length (chans_from s channel_limit 0 0) (sym q ∙ h) in
    let w = same_got (sym d.1 ∙ p.chans) in
    let c : n ≡ length j.capacities = d.2 ∙ ap length w.0 in
    let t : tasks_from s n task_limit from before ≡ got j.tasks a r = rw (w.1, w.2, c) p.tasks in
    let g = f j.tasks a r t in
    let y = w.2 in
    let z : 3 * before ≡ 0 = omega arith in
    (g.0 ∙ ap (λ (i : ℕ). sets old i (notes_b (all_of j.tasks) 0)) z, g.1 ∙ ap (λ (i : ℕ). sets oldf 0 (first_numbers j.tasks i)) y)
