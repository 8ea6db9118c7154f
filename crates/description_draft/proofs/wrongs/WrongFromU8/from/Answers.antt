use mathlib.Core.Path.{sym}
use lib.ListN.{get_or-eq_default}
use Rattle.std.proofs.lemmas.List.{get_or_default}
use Rattle.description_words.specs.declared.Form.TheVariants.{Number, List as list_form}
use Rattle.description_draft.specs.declared.wrongs.Wrong.TheVariants.{Value}
use Rattle.description_draft.specs.Numbered.{wrong_of, wrongs}
use Rattle.description_draft.proofs.wrongs.WrongFromU8.from.Goals as goal

pub returns-then-number-ge19 : goal.returns-then-number-ge19
unfolding wrong_of
returns-then-number-ge19 c = sym (get_or-eq_default wrongs (Value list_form) c.if-number-ge19.true)

pub returns : goal.returns
unfolding wrong_of
returns c = get_or_default wrongs c.args.number (Value Number) (Value list_form) c.if-number-ge19.false
