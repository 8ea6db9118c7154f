use Rattle.table.specs.FixedLayouts.{hfi_extended}
use Rattle.laws.specs.Fields.{image_in}
use Rattle.layout_needs.proofs.Laws.{identity-need}
use Rattle.layout_needs.proofs.identity_need.Goals as goal

pub returns : goal.returns
returns c =
    rw (← identity-need (image_in hfi_extended c.args.bytes.now 0) c.args.off) (cc)
