use mathlib.Core.Path.{refl}
use borrow.Author.Tests.{ne_eqb}
use Rattle.builder_state.proofs.in_place.Goals as goal

pub returns-then-kind-eq-HOST : goal.returns-then-kind-eq-HOST
returns-then-kind-eq-HOST c = rw c.if-kind-eq-HOST.true refl

pub returns-then-kind-eq-FINISHING : goal.returns-then-kind-eq-FINISHING
returns-then-kind-eq-FINISHING c = rw c.if-kind-eq-FINISHING.true refl

pub returns : goal.returns
returns c =
    rw (
      ne_eqb c.args.kind 2 c.if-kind-eq-HOST.false,
      ne_eqb c.args.kind 7 c.if-kind-eq-FINISHING.false,
    ) c.in_list.ensures
