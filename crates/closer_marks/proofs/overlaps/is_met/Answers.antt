use mathlib.Core.Path.{sym}
use native.Mathlib.Omega.{arith}
use Rattle.closer_marks.proofs.OverlapLaws.{met-behind, met-else, met-none}
use Rattle.closer_marks.proofs.overlaps.is_met.Goals as goal

pub returns-then-found-eq0 : goal.returns-then-found-eq0
returns-then-found-eq0 c = let a = c.args in sym (met-none a.x.off a.x.len a.found c.if-found-eq0.true)

pub returns-then-x-found : goal.returns-then-x-found
returns-then-x-found c =
    let a = c.args in
    sym (met-behind a.x.off a.x.len a.found (λ e. omega (arith, c.if-found-eq0.false, e)) c.if-x-found.true)

pub returns : goal.returns
returns c =
    let a = c.args in
    sym (met-else a.x.off a.x.len a.found (λ e. omega (arith, c.if-found-eq0.false, e)) (omega (arith, c.if-x-found.false)))
