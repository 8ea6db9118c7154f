use Rattle.c_answers.specs.Packed.{packed_field}
use native.Mathlib.Omega.{arith}
use borrow.Author.Rules.{rules}
use Rattle.c_answers.proofs.pack_field.Goals as goal

pub returns : goal.returns
unfolding packed_field
returns c = omega (arith, c.pack-answer.ensures, c.bit.ensures.0)
