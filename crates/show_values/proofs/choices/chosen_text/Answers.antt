use Rattle.std.proofs.Common.{◌∙◌}
use Rattle.show_values.specs.Values.{chosen_of}
use Rattle.show_values.proofs.WordLaws.{word_is}
use Rattle.show_values.proofs.choices.chosen_text.Goals as goal

pub returns : goal.returns
unfolding chosen_of
returns c = c.word_of.ensures ∙ word_is "nobody" "driver" "administrator" c.args.value
