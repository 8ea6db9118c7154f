use native.Mathlib.Omega.{arith}
use Rattle.reads_whole.specs.Whole.{left_of}
use Rattle.reads_whole.proofs.lists.left_of.Goals as goal

pub returns : goal.returns
unfolding left_of
returns c = omega (arith, c.first_of.ensures, c.many_of.ensures, c.saturating_sub.ensures)
