use Rattle.std.proofs.Common.{◌∙◌}
use Rattle.show_values.specs.Values.{primary_of}
use Rattle.show_values.proofs.WordLaws.{word_is}
use Rattle.show_values.proofs.choices.primary_text.Goals as goal

pub returns : goal.returns
unfolding primary_of
returns c = c.word_of.ensures ∙ word_is "not indicated" "unselected" "selected" c.args.value
