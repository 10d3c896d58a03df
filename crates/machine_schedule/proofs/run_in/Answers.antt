use mathlib.Core.Path.{◌≡◌, ap, subst, ◌∙◌}
use Prim.Native.Nat.{ℕ, ◌+◌, ◌*◌, ◌<◌}
use native.Mathlib.Omega.{arith}
use lib.ListN.{length, get_or}
use borrow.Author.Rules.{rules}
use Rattle.meaning.specs.Image.{task_no}
use Rattle.meaning.specs.Bytes.{body_of}
use Rattle.meaning.specs.Events.{numbers}
use Rattle.events.specs.Record.{record_put}
use Rattle.image_rows.specs.Rows.{counts_in, counts_of}
use Rattle.machine_records.specs.Step.{stepped}
use Rattle.machine_store.specs.Store.{MadeTurn}
use Rattle.machine_turns.proofs.Laps.{Ahead, ahead_begin, ahead_lap, ahead_end}
use Rattle.machine_schedule.proofs.run_in.Goals as goal

pub loop-i-init : goal.loop-i-init
loop-i-init c =
    let a = c.args in
    ahead_begin a.image.now a.state.now a.values.now a.pairs.now a.records.now c.requires

pub loop-i-preserved : goal.loop-i-preserved
unfolding counts_of
loop-i-preserved c =
    let a = c.args in
    let bs = a.image.now in
    let ps = a.pairs.now in
    let l = c.loop-i in
    let step = c.step_in-m in
    let body = c.body_of-body.ensures in
    let counts : c.counts_in-k.result ≡ counts_of bs = c.counts_in-k.ensures ∙ ap counts_in c.trailer_of.ensures in
    let more : 2 * l.i + 1 < length ps = search rules in
    let made : MadeTurn l.state step.new.state step.result
    (λ z. stepped (body_of bs) (counts_of bs).rows z l.values (task_no (get_or ps (2 * l.i) 0)) (get_or ps (2 * l.i + 1) 0))
    = rw (← body, ← counts) step.ensures in
    let six : 6 * l.i ≡ 3 * (2 * l.i) = omega arith in
    let put = c.put_record.ensures ∙ ap (λ (n : ℕ). record_put l.records n (task_no (get_or ps (2 * l.i) 0)) (numbers step.result.event)) six in
    let next : 2 * l.i + 2 ≡ 2 * (l.i + 1) = omega arith in
    subst (Ahead bs a.state.now a.values.now ps a.records.now step.new.state c.store_in.new.values c.put_record.new.out) next
    (ahead_lap bs a.state.now a.values.now ps a.records.now c.requires.good l.state l.values l.records (2 * l.i) l.invariant more step.new.state step.result made c.requires.room _ c.store_in.ensures _ put)

pub returns : goal.returns
returns c =
    let a = c.args in
    let l = c.loop-i in
    ahead_end a.image.now a.state.now a.values.now a.pairs.now a.records.now c.requires.good l.state l.values l.records (2 * l.i) l.invariant (omega (arith, c.loop-i-test.false, c.requires.even))
