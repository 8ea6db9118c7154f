use Rattle.table.specs.FixedLayouts.{security}
use Rattle.laws.specs.Fields.{image_in}
use Rattle.layout_needs.proofs.Laws.{security-need}
use Rattle.layout_flags.proofs.Laws.{security-secret}
use Rattle.layout_needs.proofs.security_need.Goals as goal

pub returns : goal.returns
returns c =
    rw (
      ← security-need (image_in security c.args.t.now c.args.a) c.args.off,
      security-secret c.args.t.now c.args.a,
    ) (cc)
