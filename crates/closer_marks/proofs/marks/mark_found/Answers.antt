use mathlib.Core.Path.{refl}
use native.Mathlib.Omega.{arith}
use borrow.Author.Tests.{eq-eqb, ne_eqb}
use Rattle.closer_marks.proofs.marks.mark_found.Goals as goal

pub returns-then-found-eq0 : goal.returns-then-found-eq0
returns-then-found-eq0 c = rw (eq-eqb c.args.found.len 0 c.if-found-eq0.true) refl

pub overflow_sub-found : goal.overflow_sub-found
overflow_sub-found c =
    let p = c.requires (omega arith) in
    p.0

pub mark_all-requires : goal.mark_all-requires
mark_all-requires c =
    let p = c.requires (omega arith) in
    (p.1, p.2)

pub returns : goal.returns
returns c =
    rw (ne_eqb c.args.found.len 0 c.if-found-eq0.false) c.mark_all.ensures
