use mathlib.Core.Path.{refl, sym}
use lib.ListN.{get_or-eq_default}
use Rattle.show_table.specs.declared.forms.Form.TheVariants.{Nothing}
use Rattle.show_table.specs.Numbered.{form_of, forms}
use Rattle.show_table.proofs.forms.FormFromU64.from.Goals as goal

pub returns-then-number-ge37 : goal.returns-then-number-ge37
unfolding form_of
returns-then-number-ge37 c = sym (get_or-eq_default forms Nothing c.if-number-ge37.true)

pub returns : goal.returns
unfolding form_of
returns c = refl
