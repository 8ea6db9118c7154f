use mathlib.Core.Path.{◌≡◌, refl, ap, ap₂, ◌∙◌}
use mathlib.Core.List.{List}
use Prim.Native.Nat.{ℕ, ◌<◌}
use native.Mathlib.Omega.{arith}
use lib.Bits.{bit_and}
use lib.ListN.{length, get_or, length-set}
use lib.Seq.{paste-zero}
use Rattle.table.specs.FixedLayouts.{layout_of}
use Rattle.laws.specs.Fields.{image_in, length-image_in}
use Rattle.laws.specs.ListWalk.{base-small}
use Rattle.bytes_writer.proofs.StoreLaws.{paste_more, paste-done}
use Rattle.layout_images.specs.Masks.{masks_for}
use Rattle.layout_images.proofs.Laws.{masked-byte}
use Rattle.table.proofs.Rules.{picks}
use Rattle.layout_images.proofs.images.put_image.Goals as goal

pub loop-i-init : goal.loop-i-init
loop-i-init c = let a = c.args in (paste-zero a.out.now a.d (image_in (layout_of a.kind) a.x.now 0), refl)

pub bounds-masks-i : goal.bounds-masks-i
bounds-masks-i c =
    omega (
      arith,
      c.loop-i-test.true,
      c.base_size-n.ensures,
      base-small c.args.kind,
    )

pub loop-i-preserved : goal.loop-i-preserved
loop-i-preserved c =
    let a = c.args in
    let s = image_in (layout_of a.kind) a.x.now 0 in
    let n = length-image_in (layout_of a.kind) a.x.now 0 in
    let i = c.loop-i.i in
    let h : i < length s = omega (arith, n, c.loop-i-test.true, c.base_size-n.ensures) in
    let v : bit_and (get_or a.x.now i 0) (get_or c.masks_of-masks.result i 0) ≡ get_or s i 0 =
    ap (λ (m : List ℕ). bit_and (get_or a.x.now i 0) (get_or m i 0))
    (c.masks_of-masks.ensures ∙ ap₂ (masks_for a.kind) c.counts_more.ensures c.counts_newer.ensures) ∙ masked-byte a.kind
    a.x.now i (omega (arith, n, h)) in (
      rw (c.loop-i.invariant.0, v) (paste_more a.out.now a.d s i (omega (arith, n, c.requires)) h),
      simp length-set (search picks),
    )

pub returns : goal.returns
returns c = let a = c.args in let s = image_in (layout_of a.kind) a.x.now 0 in
    let n = length-image_in (layout_of a.kind) a.x.now 0 in
    c.loop-i.invariant.0 ∙ paste-done a.out.now a.d s c.loop-i.i (omega (arith, n, c.base_size-n.ensures))
