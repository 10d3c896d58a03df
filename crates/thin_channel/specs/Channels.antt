-- Document 01, 'Shape of the store': one channel record, lent for append and take. "Both answer no, nothing changed, where
-- the .. room or value isn't there, a length is over its capacity or a capacity is over 16."
use Rattle.std.specs.Prelude.{Bool, cond, ◌&&◌, List, ℕ, ◌+◌, ◌-◌, leb, ltb, get_or, set, take, Option, Some, None}
use Rattle.meaning.specs.Numbers.{capacity_limit}
use Rattle.machine_records.specs.Values.{shifted}
use Rattle.thin_channel.specs.Kinds.{Channel}

-- The values that a channel holds, oldest first.
abbrev pub contents : Channel → List ℕ
contents c = take c.len c.values

-- "Length below capacity", the capacity not over its limit.
abbrev pub has_room : Channel → Bool
has_room c = leb c.capacity capacity_limit && ltb c.len c.capacity

-- A value is there, the length not over the capacity, the capacity not over its limit.
abbrev pub has_value : Channel → Bool
has_value c = leb c.capacity capacity_limit && (leb c.len c.capacity && leb 1 c.len)

abbrev pub oldest : Channel → ℕ
oldest c = get_or c.values 0 0

-- With v behind its youngest value; without its oldest, the cells behind the rest 0.
abbrev pub longer : Channel → ℕ → Channel
longer c v = record { capacity = c.capacity; closed = c.closed; len = c.len + 1; values = set c.values c.len v }

abbrev pub shorter : Channel → Channel
shorter c = record { capacity = c.capacity; closed = c.closed; len = c.len - 1; values = shifted c.values c.len }

-- The channel behind an append, where there is room; and behind a take: as it was, where there is no value.
abbrev pub appended_to : Channel → ℕ → Option Channel
appended_to c v = cond (has_room c) (Some (longer c v)) None

abbrev pub shortened : Channel → Channel
shortened c = cond (has_value c) (shorter c) c

-- What a take hands out.
abbrev pub taken_from : Channel → Option ℕ
taken_from c = cond (has_value c) (Some (oldest c)) None
