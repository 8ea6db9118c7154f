use Rattle.std.proofs.Common.{◌∙◌}
use Rattle.show_values.specs.Values.{wanted_of}
use Rattle.show_values.proofs.WordLaws.{word_is}
use Rattle.show_values.proofs.choices.wanted_text.Goals as goal

pub returns : goal.returns
unfolding wanted_of
returns c = c.word_of.ensures ∙ word_is "not supported" "not required" "required" c.args.value
