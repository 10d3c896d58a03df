-- What the records mean: the machine of the meaning that a state and its values stand for, on an image.
use Rattle.std.specs.Prelude.{List, [], ◌∷◌, map, ℕ, take}
use Rattle.meaning.specs.Machine.{Standing, Channel, Machine, Turned}
use Rattle.meaning.specs.Image.{Spot, spot}
use Rattle.meaning.specs.Bytes.{capacities_of}
use Rattle.machine_records.specs.Kinds.{TaskState, ChanState}
use Rattle.machine_records.specs.Records.{Records, order_of}
use Rattle.machine_records.specs.Values.{Values, changed}
use Rattle.machine_records.specs.Plans.{Done}

abbrev pub standing_of : TaskState → Standing Spot
standing_of x = record { status = x.status; register = x.register; ok = x.ok; point = spot x.laps x.row }

-- The first cells of a row, as many as the length says, are the buffer.
abbrev pub channel_of : ℕ → ChanState → List ℕ → Channel
channel_of capacity k cells = record { capacity = capacity; closed = k.closed; buffer = take k.len cells }

-- As many channels as capacities.
abbrev pub channels_of : List ℕ → List ChanState → Values → List Channel
channels_of [] ks b = []
channels_of (n ∷ ns) [] b = []
channels_of (n ∷ ns) (k ∷ ks) [] = []
channels_of (n ∷ ns) (k ∷ ks) (r ∷ rs) = channel_of n k r ∷ channels_of ns ks rs

unfoldable pub view_in : List ℕ → Records → Values → Machine Spot
view_in capacities s b = record {
  tasks = map standing_of (take s.taskcount s.tasks);
  order = order_of s;
  channels = channels_of capacities s.chans b;
  fault = s.fault;
  named = s.named;
  stamp = s.stamp;
}

abbrev pub view : List ℕ → Records → Values → Machine Spot
view bs = view_in (capacities_of bs)

-- A turn's answer over the records, as the meaning's answer: the event, and the machine after it.
abbrev pub turned_of : List ℕ → Values → Done → Turned Spot
turned_of bs b r = record { event = r.event; after = view bs r.after (changed b r.change) }
