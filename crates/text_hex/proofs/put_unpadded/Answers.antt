use Rattle.std.proofs.Common.{arith}
use Rattle.text_hex.specs.Hexadecimal.{unpadded_of}
use Rattle.text.proofs.Rules.{picks}
use Rattle.text_hex.proofs.put_unpadded.Goals as goal

pub returns-then-n-lt16 : goal.returns-then-n-lt16
unfolding unpadded_of
returns-then-n-lt16 c = (omega arith, search (picks, c.put_hex.ensures.1))

pub returns-then-n-lt256 : goal.returns-then-n-lt256
unfolding unpadded_of
returns-then-n-lt256 c = (omega arith, search (picks, c.put_hex-then-n-lt256.ensures.1))

pub returns-then-n-lt4096 : goal.returns-then-n-lt4096
unfolding unpadded_of
returns-then-n-lt4096 c = (omega arith, search (picks, c.put_hex-then-n-lt4096.ensures.1))

pub returns-else-n-lt4096 : goal.returns-else-n-lt4096
unfolding unpadded_of
returns-else-n-lt4096 c = (omega arith, search (picks, c.put_hex-else-n-lt4096.ensures.1))
