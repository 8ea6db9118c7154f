use Rattle.show_values.specs.Values.{left_out}
use mathlib.Core.Path.{ap, refl}
use mathlib.Core.Bool.{not}
use Rattle.show_values.proofs.FormLaws.{left_out-other}
use Rattle.show_values.proofs.kinds.is_left_out.Goals as goal

pub returns-in-OrOut : goal.returns-in-OrOut
unfolding left_out
returns-in-OrOut c = rw c.in-OrOut.is refl

pub returns-in-NidType : goal.returns-in-NidType
unfolding left_out
returns-in-NidType c = rw c.in-NidType.is (ap not c.is_named_type.ensures)

pub returns-in_default : goal.returns-in_default
returns-in_default c = left_out-other c.args.form c.args.n c.in_default.not-OrOut c.in_default.not-NidType
