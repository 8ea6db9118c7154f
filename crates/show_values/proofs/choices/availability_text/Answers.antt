use Rattle.std.proofs.Common.{◌∙◌}
use Rattle.show_values.specs.Values.{availability_of}
use Rattle.show_values.proofs.WordLaws.{word_is}
use Rattle.show_values.proofs.choices.availability_text.Goals as goal

pub returns : goal.returns
unfolding availability_of
returns c = c.word_of.ensures ∙ word_is "not indicated" "available" "unavailable" c.args.value
