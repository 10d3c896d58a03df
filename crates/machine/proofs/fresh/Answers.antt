use mathlib.Core.Path.{◌≡◌, refl, sym, subst, ap, ◌∙◌}
use Prim.Native.Nat.{ℕ}
use borrow.Author.Rules.{rules}
use Rattle.machine_records.specs.Records.{Records}
use Rattle.machine_store.specs.Store.{Plain, Whole}
use Rattle.machine.specs.Kinds.{State}
use Rattle.machine.specs.Public.{fresh_tasks, fresh_records, fresh_state}
use Rattle.machine.specs.Laws.Told.{state_again}
use Rattle.machine.proofs.Laws.{blank_plain, fresh_counted, fresh_lap}
use Rattle.machine_store.specs.Store.{records_of}
use Rattle.machine_records.specs.Records.{with_counts}
use Rattle.machine.proofs.fresh.Goals as goal

pub loop-t-init : goal.loop-t-init
loop-t-init c =
    let a = c.args in
    let e = c.put_counts.ensures.made in
    let z = c.no_state-state.ensures in (
      fresh_counted a.body.now a.k a.k.tasks a.k.channels _ (e.same ∙ ap (λ (s : State). with_counts (records_of s) a.k.tasks a.k.channels) z),
      (e.plain (subst (λ (s : State). Plain s.cells) (sym z) blank_plain), e.whole (subst (λ (s : State). Whole s) (sym z) (refl, refl))),
    )

pub loop-t-preserved : goal.loop-t-preserved
loop-t-preserved c =
    let a = c.args in
    let l = c.loop-t in
    let r = c.first_row_in-row in
    let e = c.went.ensures in (
      fresh_lap a.body.now a.k l.t (search rules) r.result r.ensures a.k.tasks a.k.channels _ _ l.invariant.0 e.same,
      (e.plain l.invariant.1.0, e.whole l.invariant.1.1),
    )

pub returns : goal.returns
unfolding fresh_state
returns c =
    let a = c.args in
    let l = c.loop-t in
    let e : l.t ≡ a.k.tasks = search rules in
    let fresh : ℕ → Records = λ n. fresh_records (fresh_tasks a.body.now a.k n) a.k.tasks a.k.channels in
    state_again l.state l.invariant.1.1.0 l.invariant.1.1.1 l.invariant.1.0 (fresh a.k.tasks) (l.invariant.0 ∙ ap fresh e)
