use Rattle.c_answers.specs.Packed.{packed_pair}
use native.Mathlib.Omega.{arith}
use borrow.Author.Rules.{rules}
use Rattle.c_answers.proofs.pack_pair.Goals as goal

pub returns : goal.returns
unfolding packed_pair
returns c = omega (arith, c.pack-packed.ensures)
