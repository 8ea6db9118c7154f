use Rattle.text.specs.Numerals.{numbers_line}
use Rattle.std.proofs.Common.{refl, append_assoc}
use Rattle.text.proofs.decimals.numbers_line.Goals as goal

pub returns : goal.returns
unfolding numbers_line
returns c = simp (c.push-3.ensures, c.put_number-3.ensures.1, c.push-2.ensures, c.put_number-2.ensures.1, c.push.ensures, c.put_number.ensures.1, c.new-text.ensures, append_assoc) refl
