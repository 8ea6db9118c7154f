use Rattle.c_answers.specs.Packed.{packed_place}
use native.Mathlib.Omega.{arith}
use borrow.Author.Rules.{rules}
use Rattle.c_answers.proofs.pack_place.Goals as goal

pub returns : goal.returns
unfolding packed_place
returns c = omega (arith, c.pack-answer.ensures, c.bit.ensures.0)
