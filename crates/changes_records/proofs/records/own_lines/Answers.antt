use mathlib.Core.Path.{◌≡◌, sym, ap, ap₂, ◌∙◌}
use mathlib.Core.List.{List, ◌++◌}
use Prim.Native.Nat.{ℕ, ◌≤◌}
use native.Mathlib.Omega.{arith}
use lib.ListN.{length, take}
use lib.Seq.{length-take-le}
use Rattle.table.specs.declared.Image.{Image}
use Rattle.table.specs.Layout.{base_of}
use Rattle.table.specs.FixedLayouts.{layout_of}
use Rattle.reads_seats.specs.Told.{bytes_of, image_of}
use Rattle.changes.specs.Changes.{record_lines, texts_of}
use Rattle.changes_records.specs.Told.{own_lines, plain_lines}
use Rattle.changes_records.proofs.TextLaws.{base-most, there-len}
use borrow.Author.Rules.{rules}
use Rattle.changes_records.proofs.records.own_lines.Goals.{After-record_in-y}
use Rattle.changes_records.proofs.records.own_lines.Goals as goal

module _ (y : After-record_in-y) where
  abbrev base : ℕ
  base = y.base_size-len.result

  base-is : base ≡ base_of (layout_of y.args.kind)
  base-is = y.base_size-len.ensures

  -- both images have 128 bytes
  one-long : length y.record_in-x.result.bytes ≡ 128
  one-long = search rules

  other-long : length y.record_in-y.result.bytes ≡ 128
  other-long = search rules

  one-fits : base ≤ length y.record_in-x.result.bytes
  one-fits = omega (arith, base-is, base-most y.args.kind, one-long)

  other_fits : base ≤ length y.record_in-y.result.bytes
  other_fits = omega (arith, base-is, base-most y.args.kind, other-long)

  -- and at base size they are what a read gives
  one-is : take base y.record_in-x.result.bytes ≡ bytes_of (image_of y.args.t.now y.args.kind y.args.position)
  unfolding image_of
  one-is =
      ap₂ take (base-is ∙ sym (there-len y.args.t.now y.requires.0 y.args.kind y.args.position y.requires.4))
      (ap (λ (i : Image). i.bytes) y.record_in-x.ensures)

  other-is : take base y.record_in-y.result.bytes ≡ bytes_of (image_of y.args.u.now y.args.kind y.args.position)
  unfolding image_of
  other-is =
      ap₂ take (base-is ∙ sym (there-len y.args.u.now y.requires.1 y.args.kind y.args.position y.requires.5))
      (ap (λ (i : Image). i.bytes) y.record_in-y.ensures)

pub slice_bounds-one-end : goal.slice_bounds-one-end
slice_bounds-one-end c =
    let w = (goal.at.slice_bounds-one-end c).After-record_in-y in
    one-fits w

pub slice_bounds-image_lines-end : goal.slice_bounds-image_lines-end
slice_bounds-image_lines-end c =
    let w = (goal.at.slice_bounds-image_lines-end c).After-record_in-y in
    sym (length-take-le (base w) _ (one-fits w))

pub slice_bounds-other-end : goal.slice_bounds-other-end
slice_bounds-other-end c =
    let w = (goal.at.slice_bounds-other-end c).After-record_in-y in
    other_fits w

pub slice_bounds-image_lines-end-2 : goal.slice_bounds-image_lines-end-2
slice_bounds-image_lines-end-2 c =
    let w = (goal.at.slice_bounds-image_lines-end-2 c).After-record_in-y in
    sym (length-take-le (base w) _ (other_fits w))

pub image_lines-requires : goal.image_lines-requires
image_lines-requires c =
    let w = (goal.at.image_lines-requires c).After-record_in-y in
    let p = c.requires in
    (p.0, p.1, p.2, length-take-le (base w) _ (one-fits w) ∙ base-is w, length-take-le (base w) _ (other_fits w) ∙ base-is w, omega (arith, p.3))

pub returns : goal.returns
unfolding own_lines
returns c =
    let w = (goal.at.returns c).After-record_in-y in
    let a = c.args in
    let r = c.image_lines.ensures in
    let told = plain_lines a.t.now a.u.now a.kind a.position in
    let lines : List ℕ → List ℕ → List ℕ = λ x z. take a.from a.out.now ++ texts_of (record_lines a.kind a.position (layout_of a.kind).shape x z told) in
    (r.0, r.1, r.2 ∙ ap₂ lines (one-is w) (other-is w), r.3)
