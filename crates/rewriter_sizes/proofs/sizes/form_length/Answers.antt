use native.Mathlib.Omega.{arith}
use Rattle.table.specs.Meaning.{form_length}
use Rattle.rewriter_sizes.proofs.sizes.form_length.Goals as goal

pub returns : goal.returns
unfolding form_length
returns c = (omega (arith, c.heap_start.ensures.0, c.heap_size.ensures.0), omega (arith, c.heap_start.ensures.1, c.heap_size.ensures.1))
