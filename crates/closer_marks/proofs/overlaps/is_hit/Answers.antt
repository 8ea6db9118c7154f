use mathlib.Core.Path.{◌≡◌, sym, ap, ◌∙◌}
use mathlib.Core.Bool.{true, false}
use Prim.Native.Nat.{ℕ, ◌+◌, ◌-◌, ◌<◌}
use native.Mathlib.Omega.{arith}
use Rattle.laws.specs.Fields.{Bytes}
use Rattle.reader.proofs.AcceptedLaws.{laid}
use Rattle.closing_laws.specs.Whole.{hits}
use Rattle.closer_sites.specs.declared.Stepped.{Stepped}
use Rattle.closer_sites.specs.Walk.{site_of, sites_within, step_of}
use Rattle.closer_sites.proofs.WalkLaws.{going_on, going-walkable}
use Rattle.closer_marks.proofs.OverlapLaws.{turn, within_end, within_none}
use Rattle.closer_marks.proofs.overlaps.is_hit.Goals as goal

pub loop-init : goal.loop-init
loop-init c =
    let a = c.args in
    let z : a.steps ≡ a.steps - 0 = omega arith in
    (c.requires.1, ap (λ (n : ℕ). hits a.x.off a.x.len (sites_within a.t.now a.from n)) z)

pub returns-then-w-eq-END : goal.returns-then-w-eq-END
returns-then-w-eq-END c =
    let l = c.loop in
    let a = c.args in
    sym (l.invariant.1 ∙ ap (hits a.x.off a.x.len) (within_end a.t.now l.w (a.steps - l.counter) c.if-w-eq-END.true))

pub step-s-requires : goal.step-s-requires
step-s-requires c =
    let l = c.loop in
    (laid c.args.t.now c.requires.0, going-walkable c.args.t.now l.w l.invariant.0, omega (arith, l.invariant.0.upto, c.if-w-eq-END.false))

pub is_met-requires : goal.is_met-requires
is_met-requires c =
    (c.requires.2, c.requires.3, c.step-s.ensures.1, c.step-s.ensures.2)

pub returns-then-is_met : goal.returns-then-is_met
returns-then-is_met c =
    let l = c.loop in
    let a = c.args in
    let x = a.x in
    let e = ap (λ (y : Stepped). hits x.off x.len (site_of y.named)) (sym c.step-s.ensures.0) ∙ sym c.is_met.ensures ∙ c.if-is_met.true in
    sym (l.invariant.1 ∙ turn a.t.now x.off x.len l.w a.steps l.counter (omega (arith, l.invariant.0.upto, c.if-w-eq-END.false)) c.loop-test.true true e)

pub loop-preserved : goal.loop-preserved
loop-preserved c =
    let l = c.loop in
    let t = c.args.t.now in
    let x = c.args.x in
    let h : l.w.list < 7 = omega (arith, l.invariant.0.upto, c.if-w-eq-END.false) in
    let b : Bytes t = λ i. omega (arith, c.type_inv.t i) in
    let e : step_of t l.w ≡ c.step-s.result = sym c.step-s.ensures.0 in (
      rw e at (going_on t c.requires.0 b l.w l.invariant.0 h),
      l.invariant.1 ∙ turn t x.off x.len l.w c.args.steps l.counter h c.loop-test.true false
          (ap (λ (y : Stepped). hits x.off x.len (site_of y.named)) e ∙ sym c.is_met.ensures ∙ c.if-is_met.false)
          ∙ ap (λ (y : Stepped). hits x.off x.len (sites_within t y.walk (c.args.steps - (l.counter + 1)))) e,
    )

pub returns : goal.returns
returns c =
    let l = c.loop in
    let a = c.args in
    let z : a.steps - l.counter ≡ 0 = omega (arith, c.loop-test.false) in
    sym (l.invariant.1 ∙ ap (λ (n : ℕ). hits a.x.off a.x.len (sites_within a.t.now l.w n)) z ∙ ap (hits a.x.off a.x.len) (within_none a.t.now l.w))
