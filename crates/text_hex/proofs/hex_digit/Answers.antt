use Rattle.text_hex.specs.Hexadecimal.{hex_digit}
use Rattle.text.proofs.Rules.{picks}
use Rattle.text_hex.proofs.hex_digit.Goals as goal

pub returns-then-d-lt10 : goal.returns-then-d-lt10
unfolding hex_digit
returns-then-d-lt10 c = search picks

pub returns : goal.returns
unfolding hex_digit
returns c = search picks
