use mathlib.Core.Path.{refl, ap}
use mathlib.Core.Bool.{true}
use Rattle.machine_records.specs.Records.{with_chan, task_went, chan_shut}
use Rattle.machine_records.specs.Plans.{woken_all, did, applied}
use Rattle.machine_store.specs.Store.{records_of}
use Rattle.machine_store.specs.Laws.Store.{made_then, made_as, turn_then, turn_as_lem}
use Rattle.machine_shut.specs.Laws.Moves.{began_here}
use Rattle.machine_shut.specs.Kinds.{ChanState, Closed, Keep}
use Rattle.machine_shut.proofs.shut.Goals as goal

pub returns : goal.returns
unfolding applied
returns c =
    let a = c.args in
    let s = records_of a.state.now in
    let closed = made_as (λ s. chan_shut s a.c) c.put_channel.ensures.made (ap (λ (k : ChanState). with_chan s a.c (record { closed = true; len = k.len })) c.channel-k.ensures) in
    let moved = made_then closed c.went.ensures in
    let woken = c.wake_all-woken.ensures s (began_here moved refl refl) in
    let made = made_as (λ s. woken_all a.body.now s a.c (task_went (chan_shut s a.c) a.me a.next)) (made_then moved woken.made) refl in
    turn_as_lem _ (turn_then made c.done.ensures) (ap (λ n. did (Closed a.c n) (woken_all a.body.now s a.c (task_went (chan_shut s a.c) a.me a.next)) Keep) woken.counted)
