use Rattle.show_values.specs.Values.{quoted}
use mathlib.Core.Path.{refl, sym}
use Rattle.show_values.proofs.FormLaws.{quoted-uncounted, quoted-other}
use Rattle.show_values.proofs.kinds.is_quoted.Goals as goal

pub returns-in-Position : goal.returns-in-Position
returns-in-Position c = sym (quoted-uncounted c.args.form c.in-Position.is)

pub returns-in-HfiCount : goal.returns-in-HfiCount
unfolding quoted
returns-in-HfiCount c = rw c.in-HfiCount.is refl

pub returns-in_default : goal.returns-in_default
returns-in_default c =
    let o = c.in_default in
    sym (quoted-other c.args.form o.not-Position o.not-Number o.not-Signed o.not-Flag o.not-IsTwo o.not-NumberIf o.not-OrNull o.not-OrOut o.not-IfThere o.not-HfiCount)
