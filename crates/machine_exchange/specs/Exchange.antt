-- What an operation gives or gets, and a receive that finds a sender: words for the contracts of this crate.
use Rattle.std.specs.Prelude.{cond, List, ℕ, ltb}
use Rattle.machine_exchange.specs.Kinds.{Chan, Row, Op, Send, Forward, Recv, Waiter, Plan, Exchange, Gives, Gets}
use Rattle.machine_records.specs.Records.{Records}
use Rattle.machine_records.specs.Values.{Values}
use Rattle.machine_records.specs.Rules.{sent_by, send_to, receive_from}
use Rattle.machine_records.specs.Step.{or_wait}

abbrev pub exchange_of : Op → ℕ → Exchange
exchange_of (Send p v) register = Gives p v
exchange_of (Forward p) register = Gives p register
exchange_of (Recv p) register = Gets p

module _ (rs : List ℕ) (rows : ℕ) (s : Records) (b : Values) where
  abbrev pub exchanged : Exchange → Row → Row → Plan
  exchanged (Gives p v) hit miss = or_wait (send_to rs rows s p v hit)
  exchanged (Gets p) hit miss = or_wait (receive_from rs s b p hit miss)

abbrev pub received_from : Records → Chan → Row → ℕ → ℕ → Waiter → Plan
received_from s c hit v len w = cond (ltb 0 len) (Plan.Refill c v hit w.task (sent_by s w) w.offer.hit) (Plan.Receive c (sent_by s w) hit w.task w.offer.hit)
