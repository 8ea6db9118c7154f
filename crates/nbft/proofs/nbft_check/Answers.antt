use native.Mathlib.Omega.{arith}
use mathlib.Core.Path.{ap, ◌∙◌}
use Rattle.laws.specs.Positions.{check-placed}
use Rattle.c_answers.specs.Packed.{packed}
use Rattle.nbft.proofs.nbft_check.Goals as goal

pub pack-requires : goal.pack-requires
pack-requires c = rw c.check.ensures (check-placed c.args.t.now (λ i. omega (arith, c.type_inv.t i)))

pub returns : goal.returns
returns c = c.pack.ensures ∙ ap packed c.check.ensures
