use Rattle.table.specs.Meaning.{limit}
use Rattle.c_answers.specs.Packed.{packed_rewritten}
use native.Mathlib.Omega.{arith}
use borrow.Author.Rules.{rules}
use Rattle.c_answers.proofs.pack_rewritten.Goals as goal

pub overflow_mul-result : goal.overflow_mul-result
unfolding limit
overflow_mul-result c = search rules

pub overflow_add-result : goal.overflow_add-result
unfolding limit
overflow_add-result c = search rules

pub returns : goal.returns
unfolding packed_rewritten
returns c = omega (arith, c.pack-answer.ensures)
