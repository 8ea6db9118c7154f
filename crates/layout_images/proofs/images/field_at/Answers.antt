use mathlib.Core.Path.{◌≡◌, sym, ap, ◌∙◌, ap₂}
use mathlib.Core.List.{List}
use Prim.Native.Nat.{ℕ, ◌+◌, ◌<◌}
use native.Mathlib.Omega.{arith}
use lib.Bits.{bit_and}
use lib.ListN.{length, get_or, replicate}
use Rattle.table.specs.Bytes.{part}
use Rattle.table.specs.FixedLayouts.{layout_of}
use Rattle.laws.specs.Fields.{image_in, length-image_in}
use Rattle.laws.specs.ListWalk.{base-small}
use Rattle.layout_images.specs.Masks.{masks_for, over}
use Rattle.layout_images.proofs.Laws.{masked-byte, over-more, over-padded, part-long, part-byte}
use Rattle.layout_images.proofs.images.field_at.Goals as goal

pub bounds-masks-off : goal.bounds-masks-off
bounds-masks-off c =
    omega (arith, c.requires.1, c.loop-i-test.true, base-small c.args.kind)

pub loop-i-preserved : goal.loop-i-preserved
loop-i-preserved c =
    let a = c.args in
    let s = image_in (layout_of a.kind) a.x.now 0 in
    let n = length-image_in (layout_of a.kind) a.x.now 0 in
    let l = part-long s a.off a.width (omega (arith, n, c.requires.1)) in
    let h : c.loop-i.i < a.width = c.loop-i-test.true in
    let v : bit_and (get_or a.x.now (a.off + c.loop-i.i) 0)
    (get_or c.masks_of-masks.result (a.off + c.loop-i.i) 0) ≡ get_or s (a.off + c.loop-i.i) 0 =
    ap (λ (m : List ℕ). bit_and (get_or a.x.now (a.off + c.loop-i.i) 0) (get_or m (a.off + c.loop-i.i) 0))
    (c.masks_of-masks.ensures ∙ ap₂ (masks_for a.kind) c.counts_more.ensures c.counts_newer.ensures) ∙ masked-byte
    a.kind a.x.now (a.off + c.loop-i.i) (omega (arith, h, c.requires.1)) in
    let w = v ∙ sym (part-byte s a.off a.width c.loop-i.i h) in
    rw (c.loop-i.invariant, w) (over-more (replicate 16 0) (part s a.off a.width) c.loop-i.i (omega (arith, l, h)) (omega (arith, h, c.requires.2)))

pub returns : goal.returns
returns c =
    let a = c.args in
    let s = image_in (layout_of a.kind) a.x.now 0 in
    let n = length-image_in (layout_of a.kind) a.x.now 0 in
    let l = part-long s a.off a.width (omega (arith, n, c.requires.1)) in
    let e : c.loop-i.i ≡ length (part s a.off a.width) = omega (arith, l) in
    c.loop-i.invariant
    ∙ ap (over (replicate 16 0) (part s a.off a.width)) e
    ∙ over-padded 16 (part s a.off a.width) (omega (arith, l, c.requires.2))
