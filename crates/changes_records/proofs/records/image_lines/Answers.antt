use mathlib.Core.Path.{◌≡◌, refl, sym, ap, ◌∙◌}
use mathlib.Core.List.{◌++◌, append-nil}
use Prim.Native.Nat.{ℕ}
use native.Mathlib.Omega.{arith}
use lib.ListN.{length, take}
use Rattle.table.specs.FixedLayouts.{layout_of}
use Rattle.changes.specs.Changes.{each, offset_lines, texts_of}
use Rattle.changes_records.specs.Told.{plain_lines}
use Rattle.changes_records.proofs.TextLaws.{base-most, grown}
use Rattle.changes_records.proofs.records.image_lines.Goals as goal

pub loop-offset-init : goal.loop-offset-init
loop-offset-init c = (omega arith, omega arith, sym (append-nil _), refl)

pub put_offset-at-requires : goal.put_offset-at-requires
put_offset-at-requires c =
    let p = c.requires in
    let inv = c.loop-offset.invariant in
    let most = base-most c.args.kind in (
      p.0,
      p.1,
      p.2,
      omega (arith, c.loop-offset-test.true, p.3, most),
      omega (arith, p.3),
      omega (arith, p.4),
      omega (arith, inv.1, inv.3, c.loop-offset-test.true, p.3, p.5, most),
    )

pub loop-offset-preserved : goal.loop-offset-preserved
loop-offset-preserved c =
    let put = c.put_offset-at.ensures in
    let a = c.args in
    let inv = c.loop-offset.invariant in
    let offsets = offset_lines a.kind a.position (layout_of a.kind).shape.fields a.one.now a.other.now (plain_lines a.t.now a.u.now a.kind a.position) in (
      omega (arith, inv.0, put.0),
      omega (arith, inv.1, put.1),
      grown (take a.from a.out.now) offsets c.loop-offset.offset inv.2 refl put.2,
      put.3 ∙ inv.3,
    )

pub returns : goal.returns
returns c =
    let a = c.args in
    let inv = c.loop-offset.invariant in
    let offsets = offset_lines a.kind a.position (layout_of a.kind).shape.fields a.one.now a.other.now (plain_lines a.t.now a.u.now a.kind a.position) in
    let e : c.loop-offset.offset ≡ length (layout_of a.kind).shape.keep = omega (arith, c.loop-offset.auto.offset-end, c.loop-offset-test.false, c.requires.3) in (
      inv.0,
      omega (arith, inv.1, e, base-most a.kind),
      inv.2 ∙ ap (λ (j : ℕ). take a.from a.out.now ++ texts_of (each offsets 0 j)) e,
      inv.3,
    )
