-- The fields of an operation, alone or as a case, by the three ops that send, forward and recv have there.
use Rattle.std.specs.Prelude.{ℕ}
use Rattle.image_put.specs.Kinds.{Row, Op, Send, Forward, Recv, Fields}
use Rattle.meaning.specs.Events.{port_number}
use Rattle.meaning.specs.Bytes.{fields}

unfoldable pub op_fields : ℕ → ℕ → ℕ → Op → Row → Fields
op_fields send forward recv (Send p v) next = fields send (port_number p) v next.0 0
op_fields send forward recv (Forward p) next = fields forward (port_number p) 0 next.0 0
op_fields send forward recv (Recv p) next = fields recv (port_number p) 0 next.0 0
