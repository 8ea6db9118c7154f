use Rattle.table.specs.Reads.{no_place}
use Rattle.table.specs.declared.Region.{Region}
use borrow.Author.Tests.{eq-eqb, ne_eqb}
use mathlib.Core.Path.{refl, ap, ◌∙◌}
use Rattle.reads_seats.proofs.objects.ref_place.Goals as goal

pub returns-then-len-eq0 : goal.returns-then-len-eq0
returns-then-len-eq0 c =
    let reference-at = c.reference_at-named in
    let e = ap (λ (n : Region). n.len) reference-at.ensures.0 in
    rw (← e, eq-eqb reference-at.result.len 0 c.if-len-eq0.true)
    (c.no_place.ensures ∙ ap no_place c.done-answer.ensures)

pub returns : goal.returns
returns c = let n = c.reference_at-named in let e = ap (λ (x : Region). x.len) n.ensures.0 in let f = ap (λ (x : Region). x.at) n.ensures.0 in
    rw (← e, ne_eqb n.result.len 0 c.if-len-eq0.false, ← f, c.done-answer.ensures) refl
