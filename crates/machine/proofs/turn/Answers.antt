use mathlib.Core.Path.{◌≡◌, sym, subst}
use borrow.Author.Rules.{rules}
use Rattle.image_rows.specs.Rows.{counts_of}
use Rattle.machine_records.specs.Laws.Cells.{length_mapped}
use Rattle.machine_laws.specs.Laws.Fit.{Arrays}
use Rattle.machine_store.specs.Store.{records_of}
use Rattle.machine_store.specs.Laws.Again.{records_sized}
use Rattle.machine.specs.Public.{turned, Means}
use Rattle.machine.specs.Laws.Meant.{turned_means}
use Rattle.machine.specs.Laws.Told.{rows-length}
use Rattle.machine.proofs.turn.Goals as goal

pub returns : goal.returns
unfolding turned counts_of
returns c =
    let a = c.args in
    let bs = a.image.now in
    let known = c.well_formed.1.1.0 in
    let z = records_sized a.s.words a.s.cells in
    let check = c.check-answer.ensures in
    let body = c.body_of.ensures in
    let trailer = c.trailer_of.ensures in
    let counts = c.counts_in.ensures in
    let e : c.turn_after.result ≡ turned bs a.s a.values a.task a.choice = rw (← check, ← trailer, ← counts, ← body) c.turn_after.ensures in
    let arrays : Arrays (records_of a.s) a.values = record {
      tasks16 = z.tasks16;
      chans16 = z.chans16;
      order16 = z.order16;
      rows16 = search (rules, length_mapped, known);
      cells16 = rows-length a.values _ known;
    } in
    let means = turned_means bs a.s a.values a.task a.choice in
    (e, λ good fit. subst (Means bs a.s a.values a.task a.choice) (sym e) (means good fit arrays))
