-- No waiting task could proceed, said of the records: where a task waits to receive the channel is open and empty, where one waits
-- to send it is open and full, and nobody waits on one side while another task waits on the other.
use Rattle.std.specs.Prelude.{◌≡◌, Bool, false, List, []}
use Rattle.std.proofs.Math.Option.{some}
use Rattle.std.proofs.Math.ListN.{get_elem?}
use Rattle.meaning_laws.specs.Kinds.{Task, Chan, Op, Waiting}
use Rattle.meaning.specs.Machine.{Case, Look, Standing, Channel, Machine, receives_on, sends_on, channel_at, has_room, without, queue, cases_of, first_case}

pub record WaitsAt {P : Type 0} (xs : List (Standing P)) (t : Task) (x : Standing P) : Type 0 where
  pub at : get_elem? xs t.0 ≡ some x
  pub status : x.status ≡ Waiting

abbrev pub Empty : Channel → Type 0
Empty c = (c.buffer ≡ []) × (c.closed ≡ false)

abbrev pub Full : Channel → Type 0
Full c = (c.closed ≡ false) × (has_room c ≡ false)

module _ {P : Type 0} (look : P → Look P) where
  -- A task that stands so has this as its first case that fits.
  pub record Offers (fits : Op → Bool) (x : Standing P) (k : Case P) : Type 0 where
    pub first : first_case fits (cases_of (look x.point)) ≡ some k

module _ {P : Type 0} (look : P → Look P) where
  -- Where one waits to receive, the channel is open and empty; where one waits to send, it is open and full; and nobody waits to
  -- receive where another waits to send.
  pub record Calm (xs : List (Standing P)) (cs : List Channel) : Type 0 where
    pub empty : (c : Chan) (t : Task) (x : Standing P) (k : Case P) → WaitsAt xs t x → Offers look (receives_on c) x k → Empty (channel_at cs c)
    pub full : (c : Chan) (t : Task) (x : Standing P) (k : Case P) → WaitsAt xs t x → Offers look (sends_on c) x k → Full (channel_at cs c)
    pub apart : (c : Chan) (t u : Task) (x y : Standing P) (k j : Case P) → WaitsAt xs t x → Offers look (receives_on c) x k → WaitsAt xs u y → Offers look (sends_on c) y j → t.0 ≡ u.0

module _ {P : Type 0} where
  -- The machine where this task does not stand in the order.
  unfoldable pub aside : Task → Machine P → Machine P
  aside t m = queue (without t m.order) m
