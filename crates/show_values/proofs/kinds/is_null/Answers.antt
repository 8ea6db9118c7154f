use Rattle.show_values.specs.Values.{is_null}
use mathlib.Core.Path.{refl}
use Rattle.show_values.proofs.FormLaws.{is_null-other}
use Rattle.show_values.proofs.kinds.is_null.Goals as goal

pub returns-in-OrNull : goal.returns-in-OrNull
unfolding is_null
returns-in-OrNull c = rw c.in-OrNull.is refl

pub returns-in-IfThere : goal.returns-in-IfThere
unfolding is_null
returns-in-IfThere c = rw c.in-IfThere.is refl

pub returns-in_default : goal.returns-in_default
returns-in_default c = is_null-other c.args.form c.args.n c.args.there c.in_default.not-OrNull c.in_default.not-IfThere
