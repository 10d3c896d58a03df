use mathlib.Core.Path.{◌≡◌}
use Prim.Native.Nat.{◌≤◌, ◌%◌}
use Rattle.machine_records.specs.Records.{Records, with_tasks}
use Rattle.machine_store.specs.Store.{records_of, Plain, Whole}
use Rattle.machine_shut.specs.Moves.{Began}
use Rattle.machine_shut.specs.Laws.Moves.{WalkedSo}
use Rattle.machine_shut.proofs.wake_all.Given as goal

abbrev pub invariant-loop-i : goal.invariant-loop-i
invariant-loop-i l =
    let s₀ = records_of l.initial.state in
    let s₁ = records_of l.state in
    (l.w ≤ l.i) × ((l.n ≡ s₀.waiting % 17) × ((s₁ ≡ with_tasks s₀ s₁.tasks) × ((Plain l.initial.state.cells → Plain l.state.cells) × ((Whole l.initial.state → Whole l.state) × ((s : Records) → Began l.before s s₀ → WalkedSo l.body l.c s s₀.tasks s₁.tasks l.kept l.w l.i)))))
