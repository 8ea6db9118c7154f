use native.Mathlib.Omega.{arith}
use Rattle.builder_hfi.proofs.Laws.{identity-size-is}
use Rattle.builder_hfi.proofs.identity_size.Goals as goal

pub returns : goal.returns
returns c =
    let a = c.args in
    (identity-size-is a.there a.iaid.now a.duid.now c.own_size.result c.own_size.ensures.0, omega (arith, c.own_size.ensures.1, c.requires))
