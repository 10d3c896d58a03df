use mathlib.Core.Path.{◌≡◌, refl, ap, ◌∙◌}
use Prim.Native.Nat.{suc, ◌+◌, ◌-◌}
use native.Mathlib.Omega.{arith}
use native.Mathlib.Nat.{add-zero}
use lib.ListN.{length}
use Rattle.meaning.specs.Numbers.{channel_limit, capacity_limit}
use Rattle.translate.specs.Laws.Channels.{chan_lap, lap_capacities, nothing_left, number_within, same_number, no_number}
use Rattle.translate.proofs.writing.lay_capacities.Goals as goal

pub loop-n-init : goal.loop-n-init
loop-n-init c = (refl, λ ns a r e q. (ns, e, omega arith, rw add-zero))

pub returns-in_default : goal.returns-in_default
returns-in_default c = λ ns a r e q. let z = c.loop-n.invariant.1 ns a r e q in let y = z.2 in let k = c.loop-n-test.true in let t = chan_lap _ (channel_limit - c.loop-n.n) c.loop-n.at z.0 (omega arith) c.word_at-w.ensures z.1 in absurd (no_number _ capacity_limit _ c.read_number.result c.in_default.not-Ok c.read_number.ensures t.is)

pub overflow_add-base : goal.overflow_add-base
overflow_add-base c = omega arith

pub overflow_cast-capacity : goal.overflow_cast-capacity
overflow_cast-capacity c = let k = number_within _ capacity_limit _ c.in-Ok.is c.read_number.ensures in omega arith

pub loop-n-preserved : goal.loop-n-preserved
loop-n-preserved c = (
  c.put_byte.auto.out ∙ c.loop-n.invariant.0,
  λ ns a t e q.
      let z = c.loop-n.invariant.1 ns a t e q in
      let y = z.2 in
      let k = c.loop-n-test.true in
      let w = chan_lap _ (channel_limit - c.loop-n.n) c.loop-n.at z.0 (omega arith) c.word_at-w.ensures z.1 in
      let u = same_number _ capacity_limit _ c.in-Ok.is c.read_number.ensures w.is in
      let f = w.left_is in
      let p : w.fewer ≡ channel_limit - (c.loop-n.n + 1) = omega arith in
      let l : length z.0 ≡ suc (length w.rest) = ap length w.whole in
      (w.rest, rw (← p, u.1) w.rest_is, omega arith, lap_capacities w _ _ c.loop-n.n u.0 c.put_byte.ensures ∙ z.3),
)

pub returns : goal.returns
returns c = λ ns a r e q. let z = c.loop-n.invariant.1 ns a r e q in let y = z.2 in let k = c.loop-n-test.false in nothing_left z.0 _ _ (omega arith) ∙ z.3
