use Rattle.c_answers.specs.Packed.{packed_counted}
use native.Mathlib.Omega.{arith}
use borrow.Author.Rules.{rules}
use Rattle.c_answers.proofs.pack_counted.Goals as goal

pub returns : goal.returns
unfolding packed_counted
returns c = omega (arith, c.pack-low.ensures)
