-- Document 01, 'What comes back', the turn events: the number, channel, value and partner of each.
use Rattle.std.specs.Prelude.{ℕ}
use Rattle.meaning.specs.Kinds.{EventNumbers, Port, Nil, On, Event, Appended, Handed, Taken, Refilled, Received, Drained, Closed, Waits, Branched, Finished, Faulted, Refused}

abbrev pub event : ℕ → ℕ → ℕ → ℕ → EventNumbers
event n c v q = record { number = n; channel = c; value = v; partner = q }

-- "255, 0, 255 where unused"
abbrev pub no_channel : ℕ
no_channel = 255

abbrev pub no_value : ℕ
no_value = 0

abbrev pub no_partner : ℕ
no_partner = 255

-- nil stands as 255, in an event and in a row
abbrev pub port_number : Port → ℕ
port_number Nil = 255
port_number (On c) = c.0

unfoldable pub numbers : Event → EventNumbers
numbers (Appended c v) = event 1 c.0 v no_partner
numbers (Handed c v q) = event 2 c.0 v q.0
numbers (Taken c v) = event 3 c.0 v no_partner
numbers (Refilled c v q) = event 3 c.0 v q.0
numbers (Received c v q) = event 4 c.0 v q.0
numbers (Drained c) = event 5 c.0 no_value no_partner
numbers (Closed c n) = event 6 c.0 n no_partner
numbers Waits = event 7 no_channel no_value no_partner
numbers Branched = event 8 no_channel no_value no_partner
numbers Finished = event 9 no_channel no_value no_partner
numbers (Faulted p f t) = event 10 (port_number p) f t.0
numbers (Refused n) = event n no_channel no_value no_partner
