use mathlib.Core.Path.{◌≡◌, sym, ap, ◌∙◌}
use mathlib.Core.List.{List, ◌++◌}
use Prim.Native.Nat.{◌+◌, ◌<◌}
use native.Mathlib.Omega.{arith}
use Rattle.table.specs.Closing.{Site}
use Rattle.laws.specs.Fields.{Bytes}
use Rattle.reader.proofs.AcceptedLaws.{laid}
use Rattle.closing_laws.specs.Whole.{whole_hits}
use Rattle.closer_sites.specs.declared.Stepped.{Stepped}
use Rattle.closer_sites.specs.Walk.{begun, rest_of, site_of, sites_within}
use Rattle.closer_sites.specs.Going.{Going, left}
use Rattle.closer_sites.proofs.WalkLaws.{going-first, going_on, going-walkable, left-few, left_less, rest_end, rest-step}
use Rattle.closer_marks.proofs.OverlapLaws.{none_found, reached-first, reached-found, reached-on, shared-no, shared-yes}
use Rattle.closer_marks.proofs.overlaps.is_overlapped.Goals as goal

pub loop-w-init : goal.loop-w-init
loop-w-init c =
    let t = c.args.t.now in
    let g = going-first t c.requires in
    rw c.first-w.ensures (g, omega (arith, left-few t begun g), reached-first t, none_found t)

pub step-s-requires : goal.step-s-requires
step-s-requires c =
    let l = c.loop-w in
    let t = c.args.t.now in
    (laid t c.requires, going-walkable t l.w l.invariant.0, omega (arith, l.invariant.0.upto, c.loop-w-test.true))

pub is_shared-requires : goal.is_shared-requires
is_shared-requires c =
    let l = c.loop-w in
    let t = c.args.t.now in
    let h : l.w.list < 7 = omega (arith, l.invariant.0.upto, c.loop-w-test.true) in
    let b : Bytes t = λ i. omega (arith, c.type_inv.t i) in
    let g : Going t c.step-s.result.walk = rw (← c.step-s.ensures.0) at (going_on t c.requires b l.w l.invariant.0 h) in
    (c.requires, g, c.step-s.ensures.1, c.step-s.ensures.2)

pub returns-then-is_shared : goal.returns-then-is_shared
returns-then-is_shared c =
    let l = c.loop-w in
    let t = c.args.t.now in
    let h : l.w.list < 7 = omega (arith, l.invariant.0.upto, c.loop-w-test.true) in
    let x : Stepped = c.step-s.result in
    let e : rest_of t l.w ≡ site_of x.named ++ rest_of t x.walk = rw (← c.step-s.ensures.0) at (rest-step t l.w l.invariant.0 h) in
    sym (l.invariant.3 ∙ ap (whole_hits (sites_within t begun l.i)) e
    ∙ shared-yes x.named (sites_within t begun l.i) (rest_of t x.walk) (sym c.is_shared.ensures ∙ c.if-is_shared.true))

pub overflow_add-i : goal.overflow_add-i
overflow_add-i c = omega (arith, c.loop-w.invariant.1)

pub loop-w-smaller : goal.loop-w-smaller
loop-w-smaller c =
    let l = c.loop-w in
    let t = c.args.t.now in
    let h : l.w.list < 7 = omega (arith, l.invariant.0.upto, c.loop-w-test.true) in
    rw (← c.step-s.ensures.0) at (left_less t l.w l.invariant.0 h)

pub loop-w-preserved : goal.loop-w-preserved
loop-w-preserved c =
    let l = c.loop-w in
    let t = c.args.t.now in
    let h : l.w.list < 7 = omega (arith, l.invariant.0.upto, c.loop-w-test.true) in
    let b : Bytes t = λ i. omega (arith, c.type_inv.t i) in
    let x : Stepped = c.step-s.result in
    let pre = sites_within t begun l.i in
    let m : left x.walk < left l.w = rw (← c.step-s.ensures.0) at (left_less t l.w l.invariant.0 h) in
    let e : rest_of t l.w ≡ site_of x.named ++ rest_of t x.walk = rw (← c.step-s.ensures.0) at (rest-step t l.w l.invariant.0 h) in
    let p : sites_within t begun (l.i + 1) ≡ pre ++ site_of x.named = rw (← c.step-s.ensures.0) at (reached-found t l.i l.w h l.invariant.2) in (
      rw (← c.step-s.ensures.0) at (going_on t c.requires b l.w l.invariant.0 h),
      omega (arith, l.invariant.1, m),
      rw (← c.step-s.ensures.0) at (reached-on t l.i l.w h l.invariant.2),
      l.invariant.3 ∙ ap (whole_hits pre) e ∙ shared-no x.named pre (rest_of t x.walk) (sym c.is_shared.ensures ∙ c.if-is_shared.false)
          ∙ ap (λ (ss : List Site). whole_hits ss (rest_of t x.walk)) (sym p),
    )

pub returns : goal.returns
returns c =
    let l = c.loop-w in
    let t = c.args.t.now in
    sym (l.invariant.3 ∙ ap (whole_hits (sites_within t begun l.i)) (rest_end t l.w l.invariant.0 c.loop-w-test.false))
