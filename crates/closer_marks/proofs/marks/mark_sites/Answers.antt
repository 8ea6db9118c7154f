use mathlib.Core.Path.{◌≡◌, refl, sym, subst, ◌∙◌}
use mathlib.Core.List.{List}
use Prim.Native.Nat.{ℕ, ◌-◌, ◌<◌}
use native.Mathlib.Omega.{arith}
use lib.ListN.{length}
use lib.Dec.{eqb}
use Rattle.table.specs.Bytes.{num, pick}
use Rattle.laws.specs.Fields.{Bytes}
use Rattle.reader.proofs.AcceptedLaws.{laid}
use Rattle.bytes_bits.specs.Bits.{with_bits}
use Rattle.closer_sites.specs.declared.Named.{Named}
use Rattle.closer_sites.specs.declared.Walk.{Walk}
use Rattle.closer_sites.specs.Walk.{step_of}
use Rattle.closer_sites.proofs.WalkLaws.{going-walkable, left_less}
use Rattle.closer_marks.proofs.MarkLaws.{Marked, found-fits, marked-end, marked-first, marked_step}
use Rattle.closer_marks.proofs.marks.mark_sites.Goals as goal

pub u32_at-start-requires : goal.u32_at-start-requires
u32_at-start-requires c =
    omega (arith, (laid c.args.t.now c.requires.0).lent)

pub loop-w-init : goal.loop-w-init
loop-w-init c =
    let a = c.args in
    let t : List ℕ = a.t.now in
    let map : List ℕ = a.map.now in
    (subst (Marked t (length map) map) (sym c.first-w.ensures) (marked-first t c.requires.0 map c.requires.2), refl)

pub step-s-requires : goal.step-s-requires
step-s-requires c =
    let t : List ℕ = c.args.t.now in
    let g = c.loop-w.invariant.0.going in
    (laid t c.requires.0, going-walkable t c.loop-w.w g, omega (arith, g.upto, c.loop-w-test.true))

pub mark_found-requires : goal.mark_found-requires
mark_found-requires c =
    let t : List ℕ = c.args.t.now in
    let b : Bytes t = λ i. omega (arith, c.type_inv.t i) in
    let inv = c.loop-w.invariant in
    let w : Walk = c.loop-w.w in
    let h : w.list < 7 = omega (arith, inv.0.going.upto, c.loop-w-test.true) in
    let m : ℕ = length c.args.map.now in
    let f = found-fits t c.requires.0 b m c.loop-w.map w inv.0 h c.requires.1 in
    rw (c.step-s.ensures.0, c.u32_at-start.ensures.0, inv.1) f

pub loop-w-smaller : goal.loop-w-smaller
loop-w-smaller c =
    let t : List ℕ = c.args.t.now in
    let g = c.loop-w.invariant.0.going in
    rw c.step-s.ensures.0 (left_less t c.loop-w.w g (omega (arith, g.upto, c.loop-w-test.true)))

pub loop-w-preserved : goal.loop-w-preserved
loop-w-preserved c =
    let t : List ℕ = c.args.t.now in
    let b : Bytes t = λ i. omega (arith, c.type_inv.t i) in
    let inv = c.loop-w.invariant in
    let w : Walk = c.loop-w.w in
    let map : List ℕ = c.loop-w.map in
    let next : List ℕ = c.mark_found.new.map in
    let h : w.list < 7 = omega (arith, inv.0.going.upto, c.loop-w-test.true) in
    let m : ℕ = length c.args.map.now in
    let x : Named = (step_of t w).named in
    let e : next ≡ pick (eqb x.len 0) map (with_bits map (x.off - num t 36 4) x.len) = rw (c.step-s.ensures.0, c.u32_at-start.ensures.0) at c.mark_found.ensures in
    (rw c.step-s.ensures.0 (marked_step t c.requires.0 b m map w inv.0 h c.requires.1 next e), c.mark_found.auto.map ∙ inv.1)

pub returns : goal.returns
returns c =
    let t : List ℕ = c.args.t.now in
    marked-end t c.requires.0 (length c.args.map.now) c.loop-w.map c.loop-w.w c.loop-w.invariant.0 c.loop-w-test.false
