use borrow.Author.Tests.{eq-eqb, ne_eqb}
use Rattle.std.proofs.Common.{refl}
use Rattle.text_addresses.specs.Addresses.{mapped}
use Rattle.text_addresses.proofs.is_mapped.Goals as goal

pub returns-then-first-eq5 : goal.returns-then-first-eq5
unfolding mapped
returns-then-first-eq5 c = rw (← c.requires.1, eq-eqb c.args.first 5 c.if-first-eq5.true, ← c.group_at.ensures.0) refl

pub returns-else-first-eq5 : goal.returns-else-first-eq5
unfolding mapped
returns-else-first-eq5 c = rw (← c.requires.1, ne_eqb c.args.first 5 c.if-first-eq5.false) refl
