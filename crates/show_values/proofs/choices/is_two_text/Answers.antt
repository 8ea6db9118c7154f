use mathlib.Core.Path.{ap, sym, ◌∙◌}
use Rattle.show_values.specs.Values.{bits_of, is_two_of}
use borrow.Author.Tests.{eq-eqb, ne_eqb}
use Rattle.show_values.proofs.choices.is_two_text.Goals as goal

pub returns-then-bits_of-eq2 : goal.returns-then-bits_of-eq2
unfolding is_two_of
returns-then-bits_of-eq2 c =
    let bits = c.bits_of.ensures ∙ ap (bits_of c.args.weight 4) c.number_of.ensures.0 in
    rw (eq-eqb _ _ (sym bits ∙ c.if-bits_of-eq2.true)) c.decimal.ensures.1

pub returns : goal.returns
unfolding is_two_of
returns c =
    let bits = c.bits_of.ensures ∙ ap (bits_of c.args.weight 4) c.number_of.ensures.0 in
    rw (ne_eqb _ _ (λ e. c.if-bits_of-eq2.false (bits ∙ e))) c.decimal-2.ensures.1
