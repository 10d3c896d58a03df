use borrow.Author.Tests.{le-leb, lt-leb}
use Rattle.text_words.specs.Words.{is_letter}
use Rattle.text_words.proofs.bytes.is_letter.Goals as goal

pub returns-then-b-ge97 : goal.returns-then-b-ge97
unfolding is_letter
returns-then-b-ge97 c = rw (le-leb _ _ c.if-b-ge97.true)

pub returns-else-b-ge97 : goal.returns-else-b-ge97
unfolding is_letter
returns-else-b-ge97 c = rw (lt-leb _ _ c.if-b-ge97.false)
