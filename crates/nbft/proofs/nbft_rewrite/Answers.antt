use Rattle.nbft.proofs.Laws.{rewrite-fits}
use Rattle.c_answers.specs.Packed.{packed_rewritten}
use lib.ListN.{length}
use native.Mathlib.Omega.{arith}
use mathlib.Core.Path.{ap, ◌∙◌}
use Rattle.nbft.proofs.nbft_rewrite.Goals as goal

pub pack_rewritten-requires : goal.pack_rewritten-requires
pack_rewritten-requires c =
    let a = c.args in
    rw c.rewrite.ensures.0
    (rewrite-fits a.t.now (λ i. omega (arith, c.type_inv.t i)) (length a.out.now))

pub returns : goal.returns
returns c = let e = c.rewrite.ensures in (c.pack_rewritten.ensures ∙ ap packed_rewritten e.0, e.1)
