-- "reads up to 48,000 bytes of standard input (more: the line `input too long`)": 48,001 bytes are too many.
use Rattle.std.specs.Prelude.{◌≡◌, refl, replicate, Err}
use Rattle.listing_answer.specs.Kinds.{TooLong}
use Rattle.listing_answer.specs.Answer.{answered}

too_long : answered (replicate 48001 65) 0 ≡ Err TooLong
unfolding answered
too_long = refl
