use Rattle.show_values.specs.Values.{transport_of}
use borrow.Author.Tests.{ne_eqb}
use Rattle.show_values.proofs.choices.transport_text.Goals as goal

pub returns-then-value-eq3 : goal.returns-then-value-eq3
unfolding transport_of
returns-then-value-eq3 c = rw c.if-value-eq3.true c.of.ensures

pub returns : goal.returns
unfolding transport_of
returns c = rw (ne_eqb _ _ c.if-value-eq3.false) c.decimal.ensures.1
