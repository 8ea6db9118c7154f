use Rattle.c_answers.specs.Packed.{packed}
use native.Mathlib.Omega.{arith}
use borrow.Author.Rules.{rules}
use Rattle.c_answers.proofs.pack.Goals as goal

pub returns : goal.returns
unfolding packed
returns c = omega arith
