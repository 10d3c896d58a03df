use borrow.Author.Rules.{rules}
use Rattle.machine_records.specs.Laws.Cells.{length_mapped}
use Rattle.machine.specs.Laws.Told.{rows-length}
use Rattle.machine_schedule.proofs.sixteen.Goals as goal

pub returns : goal.returns
returns c =
    let known = c.well_formed.0 in
    record { rows = search (rules, length_mapped, known); cells = rows-length c.args.values _ known }
