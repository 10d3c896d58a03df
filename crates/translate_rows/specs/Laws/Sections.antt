-- The parts of a job that the definitions read, by what pass 1 answers. Assumes nothing.
use Rattle.std.specs.Prelude.{◌≡◌, refl, List, [], ◌∷◌, ℕ, suc, length}
use Rattle.std.proofs.Common.{ap, subst}
use Rattle.meaning.specs.Numbers.{channel_limit, task_limit}
use Rattle.meaning.specs.Text.{Body, Job}
use Rattle.meaning.specs.Layout.{rows_t}
use Rattle.text_reader.specs.Reading.{got, bind, chans_from, tasks_from, job_of, job}
use Rattle.text_laws.specs.Laws.Kept.{Kept, Anywhere, ChansRead, JobRead}
use Rattle.text_laws.specs.Laws.Walk.{chans_kept, job_kept}
use Rattle.text_reader.specs.Laws.Parts.{bad_got, same_got, bind_got}

-- The channels from the text's first byte on, and the tasks behind them, which no row stands ahead of.
pub record Parts (s : List ℕ) (j : Job) (a rows : ℕ) : Type 0 where
  pub from : ℕ
  pub chans : chans_from s channel_limit 0 0 ≡ got j.capacities from 0
  pub tasks : tasks_from s (length j.capacities) task_limit from 0 ≡ got j.tasks a rows
  pub counted_rows : rows ≡ length (rows_t j.tasks 0)

module _ (s : List ℕ) where
  job_is : (caps : List ℕ) (bs : List Body) {at r : ℕ} {j : Job} {a rows : ℕ} → job_of s caps bs at r ≡ got j a rows → (caps ≡ j.capacities) × (bs ≡ j.tasks) × (at ≡ a) × (r ≡ rows)
  job_is caps [] e = absurd (bad_got e)
  job_is caps (b ∷ bs) e = let q = same_got e in (ap (λ (j : Job). j.capacities) q.0, ap (λ (j : Job). j.tasks) q.0, q.1, q.2)

  no_rows : {caps : List ℕ} {at r : ℕ} → chans_from s channel_limit 0 0 ≡ got caps at r → r ≡ 0
  no_rows e = (subst (Kept s Anywhere (ChansRead (suc channel_limit))) e (chans_kept s Anywhere (λ _. tt) channel_limit 0 0 tt refl)).1.first

  parts_of : {caps : List ℕ} {at r : ℕ} {bs : List Body} {a' r' : ℕ} {j : Job} {a rows : ℕ} → chans_from s channel_limit 0 0 ≡ got caps at r → tasks_from s (length caps) task_limit at r ≡ got bs a' r' → job_of s caps bs a' r' ≡ got j a rows → rows ≡ length (rows_t j.tasks 0) → Parts s j a rows
  parts_of {caps} {at} {r} {bs} e f g n =
      let q = job_is caps bs g in
      let z = no_rows e in
      record { from = at; chans = rw (z, q.0) at e; tasks = rw (z, q.0, q.1, q.2, q.3) at f; counted_rows = n }

  pub job_parts : (j : Job) (a rows : ℕ) → job s ≡ got j a rows → Parts s j a rows
  unfolding job
  job_parts j a rows e =
      let g = bind_got (chans_from s channel_limit 0 0) (λ caps at r. bind (tasks_from s (length caps) task_limit at r) (λ bs at r. job_of s caps bs at r)) e in
      let f = bind_got (tasks_from s (length g.0) task_limit g.1 g.2) (λ bs at r. job_of s g.0 bs at r) g.4 in
      let k = (subst (Kept s Anywhere JobRead) e (job_kept s Anywhere (λ _. tt) tt)).1 in
      parts_of g.3 f.3 f.4 k.rows
