use borrow.Author.Tests.{eq-eqb, ne_eqb}
use Rattle.text_reader.specs.Answers.{is_statement}
use Rattle.text_heads.proofs.is_statement.Goals as goal

pub returns-then-is_op : goal.returns-then-is_op
unfolding is_statement
returns-then-is_op c = rw (← c.is_op.ensures, c.if-is_op.true)

pub returns-then-kind-eq-CLOSE : goal.returns-then-kind-eq-CLOSE
unfolding is_statement
returns-then-kind-eq-CLOSE c = rw (← c.is_op.ensures, c.if-is_op.false, eq-eqb _ _ c.if-kind-eq-CLOSE.true)

pub returns-then-kind-eq-STOP : goal.returns-then-kind-eq-STOP
unfolding is_statement
returns-then-kind-eq-STOP c = rw (← c.is_op.ensures, c.if-is_op.false, ne_eqb _ _ c.if-kind-eq-CLOSE.false, eq-eqb _ _ c.if-kind-eq-STOP.true)

pub returns : goal.returns
unfolding is_statement
returns c = rw (← c.is_op.ensures, c.if-is_op.false, ne_eqb _ _ c.if-kind-eq-CLOSE.false, ne_eqb _ _ c.if-kind-eq-STOP.false) c.is_block.ensures
