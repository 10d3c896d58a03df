-- Document 01, 'Step image': the ops of the rows, by the kinds that code names.
use Rattle.std.specs.Prelude.{◌≡◌, ℕ, ◌<◌, Result, MatchResult}
use Rattle.meaning.specs.declared.ops.RowKind.{RowKind}
use Rattle.meaning.specs.declared.ops.RowKind.TheVariants.{Send, Forward, Recv, Close, Range, Repeat, Ifok, Select, CaseSend, CaseForward, CaseRecv, Stop}
use Rattle.meaning.specs.declared.ops.UnknownOp.{UnknownOp}

abbrev pub op_number : RowKind → ℕ
op_number Send = 1
op_number Forward = 2
op_number Recv = 3
op_number Close = 4
op_number Range = 5
op_number Repeat = 6
op_number Ifok = 7
op_number Select = 8
op_number CaseSend = 9
op_number CaseForward = 10
op_number CaseRecv = 11
op_number Stop = 12

-- The kind that has this number, or the number itself where it is none of 1 to 12.
abbrev pub Decodes : ℕ → Result RowKind UnknownOp → Type 0
Decodes op r = MatchResult r (λ kind. op_number kind ≡ op) (λ e. (e.0 ≡ op) × ((op ≡ 0 → ⊥) → 12 < op))
