use mathlib.Core.Path.{refl}
use mathlib.Core.Bool.{true, false}
use native.Mathlib.Omega.{arith}
use borrow.Author.Tests.{ne_eqb}
use Rattle.laws.specs.Fields.{Bytes}
use Rattle.closing_laws.specs.Whole.{hits}
use Rattle.closer_sites.specs.declared.Walk.{Walk}
use Rattle.closer_sites.specs.Walk.{begun, sites_within}
use Rattle.closer_sites.proofs.WalkLaws.{left-few}
use Rattle.closer_marks.proofs.OverlapLaws.{within_all}
use mathlib.Core.Path.{◌≡◌, sym, ap, ◌∙◌}
use Rattle.closer_sites.proofs.WalkLaws.{going-first}
use Rattle.closer_marks.proofs.overlaps.is_shared.Goals as goal

pub is_hit-requires : goal.is_hit-requires
is_hit-requires c =
    rw c.first.ensures (c.requires.0, going-first c.args.t.now c.requires.0, c.requires.2, c.requires.3)

pub returns-then-is_hit : goal.returns-then-is_hit
returns-then-is_hit c =
    let t = c.args.t.now in
    let x = c.args.x in
    let h : hits x.off x.len (sites_within t begun c.args.before) ≡ true =
    ap (λ (w : Walk). hits x.off x.len (sites_within t w c.args.before)) (sym c.first.ensures) ∙ sym c.is_hit.ensures ∙ c.if-is_hit.true in
    rw (h, ne_eqb x.kind 0 (λ e. omega (arith, c.if-x-eq0.false, e)), ne_eqb x.len 0 (λ e. omega (arith, c.if-x-eq0-2.false, e))) refl

pub returns : goal.returns
returns c =
    let t = c.args.t.now in
    let x = c.args.x in
    let b : Bytes t = λ i. omega (arith, c.type_inv.t i) in
    let h : hits x.off x.len (sites_within t begun c.args.before) ≡ false =
    ap (λ (w : Walk). hits x.off x.len (sites_within t w c.args.before)) (sym c.first.ensures) ∙ sym c.is_hit.ensures ∙ c.if-is_hit.false in
    rw (h, ne_eqb x.kind 0 (λ e. omega (arith, c.if-x-eq0.false, e)), ne_eqb x.len 0 (λ e. omega (arith, c.if-x-eq0-2.false, e)))
    (c.is_hit-2.ensures ∙ ap (hits x.off x.len) (within_all t c.requires.0 b 1000000 c.args.behind c.requires.1 (omega (arith, left-few t c.args.behind c.requires.1))))
