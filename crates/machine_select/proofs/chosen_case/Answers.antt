use Rattle.machine_store.specs.Store.{records_of}
use Rattle.machine_records.specs.Rules.{ready_rows, chosen_case}
use Rattle.machine_select.proofs.Laws.{chosen_none, chosen_some}
use Prim.Native.Nat.{◌+◌}
use mathlib.Core.Path.{sym, ◌∙◌}
use Rattle.machine_select.proofs.chosen_case.Goals as goal

pub returns-then-n-eq0 : goal.returns-then-n-eq0
unfolding chosen_case
returns-then-n-eq0 c =
    let a = c.args in
    sym (chosen_none a.body.now a.rows (records_of a.state.now) a.choice (ready_rows a.body.now a.rows (records_of a.state.now) a.k (a.row.0 + 1)) (sym c.count_ready-n.ensures ∙ c.if-n-eq0.true))

pub returns : goal.returns
unfolding chosen_case
returns c =
    let a = c.args in
    rw (
      chosen_some a.body.now a.rows (records_of a.state.now) a.choice (ready_rows a.body.now a.rows (records_of a.state.now) a.k (a.row.0 + 1)) (λ z. c.if-n-eq0.false (c.count_ready-n.ensures ∙ z)),
      ← c.count_ready-n.ensures,
      ← c.nth_ready.ensures,
    ) c.case_offer.ensures
