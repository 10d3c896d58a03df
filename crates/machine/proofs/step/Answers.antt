use borrow.Author.Rules.{rules}
use Rattle.machine_records.specs.Step.{stepped}
use Rattle.machine_store.specs.Store.{records_of, Whole}
use Rattle.machine_fit.specs.Laws.Plain.{fitting_parts}
use Rattle.machine.specs.Laws.Told.{turn_told}
use Rattle.machine.proofs.step.Goals as goal

pub returns : goal.returns
returns c =
    let a = c.args in
    let n = c.step_in-m in
    let d = stepped a.body.now a.k.rows (records_of a.s) a.values.now a.task a.choice in
    let p = n.ensures.plain (fitting_parts a.body.now a.k a.s.words a.s.cells c.requires).0 in
    let whole : Whole a.s = (search rules, search rules) in
    let l = n.ensures.whole whole in
    turn_told n.new.state l.0 l.1 p n.result d n.ensures.same
