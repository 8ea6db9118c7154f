use mathlib.Core.Path.{refl}
use Rattle.table.specs.FixedLayouts.{hfi_extended}
use Rattle.builder_hfi.specs.HfiParts.{own_need}
use Rattle.builder_hfi.proofs.own_need.Goals as goal

pub returns-then-there : goal.returns-then-there
unfolding own_need hfi_extended
returns-then-there c =
    rw c.if-there.true c.identity_need.ensures

pub returns : goal.returns
unfolding own_need
returns c =
    rw c.if-there.false refl
