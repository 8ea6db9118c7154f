use mathlib.Core.Path.{refl}
use borrow.Author.Tests.{eq-eqb, ne_eqb}
use Rattle.builder_told.proofs.objects.fault_under.Goals as goal

pub returns-then-len-eq0 : goal.returns-then-len-eq0
returns-then-len-eq0 c = rw (c.in-Required.is, eq-eqb c.args.len 0 c.if-len-eq0.true) refl

pub returns-else-len-eq0 : goal.returns-else-len-eq0
returns-else-len-eq0 c = rw (c.in-Required.is, ne_eqb c.args.len 0 c.if-len-eq0.false) refl
