use mathlib.Core.Path.{ap, ◌∙◌}
use Rattle.show_values.specs.Values.{bits_of}
use Rattle.show_values.proofs.bits_in.Goals as goal

pub returns : goal.returns
returns c =
    c.bits_of.ensures ∙ ap (bits_of c.args.weight c.args.modulus) c.number_of.ensures.0
