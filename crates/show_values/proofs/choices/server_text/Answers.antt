use mathlib.Core.Path.{ap, sym, ◌∙◌}
use Rattle.show_values.specs.Values.{bits_of, server_of}
use borrow.Author.Tests.{eq-eqb, ne_eqb}
use Rattle.show_values.proofs.choices.server_text.Goals as goal

pub returns-then-bits_of-eq1 : goal.returns-then-bits_of-eq1
unfolding server_of
returns-then-bits_of-eq1 c =
    let bits = c.bits_of.ensures ∙ ap (bits_of c.args.weight 2) c.number_of.ensures.0 in
    rw (eq-eqb _ _ (sym bits ∙ c.if-bits_of-eq1.true)) c.address.ensures

pub returns : goal.returns
unfolding server_of
returns c =
    let bits = c.bits_of.ensures ∙ ap (bits_of c.args.weight 2) c.number_of.ensures.0 in
    rw (ne_eqb _ _ (λ e. c.if-bits_of-eq1.false (bits ∙ e))) c.new.ensures
