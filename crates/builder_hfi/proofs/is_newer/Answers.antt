use mathlib.Core.Path.{refl}
use native.Mathlib.Omega.{arith}
use Rattle.builder_hfi.proofs.Laws.{version-is}
use Rattle.builder_hfi.proofs.is_newer.Goals as goal

pub returns : goal.returns
returns c =
    rw (version-is c.args.info.now (λ i. omega (arith, c.type_inv.info i))) refl
