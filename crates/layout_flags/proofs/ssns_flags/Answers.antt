use native.Mathlib.Omega.{arith}
use Rattle.layout_flags.proofs.Laws.{ssns-flags}
use Rattle.layout_flags.proofs.ssns_flags.Goals as goal

pub returns : goal.returns
returns c =
    rw (ssns-flags c.args.t.now c.args.a
    (λ i. omega (arith, c.type_inv.t i))) (cc)
