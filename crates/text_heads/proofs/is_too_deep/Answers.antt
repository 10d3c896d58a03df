use Rattle.text_reader.specs.Answers.{is_too_deep}
use Rattle.text_heads.proofs.is_too_deep.Goals as goal

pub returns-then-is_block : goal.returns-then-is_block
unfolding is_too_deep
returns-then-is_block c = rw (← c.is_block.ensures, c.if-is_block.true)

pub returns-else-is_block : goal.returns-else-is_block
unfolding is_too_deep
returns-else-is_block c = rw (← c.is_block.ensures, c.if-is_block.false)
