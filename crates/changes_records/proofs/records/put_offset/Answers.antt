use mathlib.Core.Path.{◌≡◌, refl, sym, ap, ◌∙◌}
use mathlib.Core.Bool.{Bool, true, false}
use mathlib.Core.List.{List, [], ◌++◌, append-nil}
use Prim.Native.Nat.{ℕ, ◌+◌, ◌-◌, ◌≤◌}
use native.Mathlib.Omega.{arith}
use lib.ListN.{take, drop, length-take}
use lib.Dec.{eqb}
use borrow.Author.Tests.{ne_eqb}
use Rattle.table.specs.Bytes.{part, pick}
use Rattle.table.specs.Layout.{base_of}
use Rattle.table.specs.FixedLayouts.{layout_of}
use Rattle.table.specs.Reads.{has_plain, width_at}
use Rattle.reads_seats.specs.Objects.{object_in}
use Rattle.reads_seats.proofs.ReadLaws.{width_fits}
use Rattle.changes.specs.Changes.{field_line, object_line, offset_lines, texts_of}
use Rattle.changes_records.specs.Told.{plain_lines}
use Rattle.changes_records.proofs.records.put_offset.Goals.{After-field_width-width}
use Rattle.changes_records.proofs.records.put_offset.Goals as goal

-- a field lies in the record, and is no longer than an address
module _ (f : After-field_width-width) where
  within : (f.field_width-width.result ≡ 0 → ⊥) → (f.args.offset + f.field_width-width.result ≤ base_of (layout_of f.args.kind)) × (f.field_width-width.result ≤ 16)
  within h =
      let e = f.field_width-width.ensures in
      let w = width_fits f.args.kind f.args.offset (λ z. h (e ∙ z)) in
      (omega (arith, e, w.0), omega (arith, e, w.1))

  -- where no field begins: an object's lines, or none
  told-object : f.field_width-width.result ≡ 0 → (b : Bool) → has_plain f.args.offset (layout_of f.args.kind).refs ≡ b
      → texts_of
      (offset_lines f.args.kind f.args.position (layout_of f.args.kind).shape.fields f.args.one.now f.args.other.now
      (plain_lines f.args.t.now f.args.u.now f.args.kind f.args.position) f.args.offset)
      ≡ texts_of
      (pick b
      (object_line f.args.kind f.args.position f.args.offset (object_in f.args.t.now f.args.kind f.args.position f.args.offset)
      (object_in f.args.u.now f.args.kind f.args.position f.args.offset))
      [])
  told-object z b h = let w : width_at f.args.offset (layout_of f.args.kind).shape.fields ≡ 0 = sym f.field_width-width.ensures ∙ z in rw (w, h) refl

pub overflow_add-end : goal.overflow_add-end
overflow_add-end c = let h = within (goal.at.overflow_add-end c).After-field_width-width c.if-width-ne0.true in omega (arith, h.1, c.requires.3)

pub slice_bounds-field_text-end : goal.slice_bounds-field_text-end
slice_bounds-field_text-end c = omega (arith, (within (goal.at.slice_bounds-field_text-end c).After-field_width-width c.if-width-ne0.true).0, c.requires.4)

pub slice_bounds-field_text-end-then-width-ne0 : goal.slice_bounds-field_text-end-then-width-ne0
slice_bounds-field_text-end-then-width-ne0 c = omega (arith, (within (goal.at.slice_bounds-field_text-end-then-width-ne0 c).After-field_width-width c.if-width-ne0.true).0, c.requires.5)

pub field_text-text-requires : goal.field_text-text-requires
field_text-text-requires c =
    let s = c in
    let a = s.args in
    let w = (within (goal.at.field_text-text-requires c).After-field_width-width c.if-width-ne0.true).1 in
    let m : ℕ = a.offset + c.field_width-width.result - a.offset in (
      c.requires.2,
      c.requires.3,
      omega (arith, w, length-take m (drop a.offset a.one.now)),
      omega (arith, w, length-take m (drop a.offset a.other.now)),
    )

pub returns-then-width-ne0 : goal.returns-then-width-ne0
returns-then-width-ne0 c =
    let a = c.args in
    let t : List ℕ = a.t.now in
    let u : List ℕ = a.u.now in
    let x : List ℕ = a.one.now in
    let z : List ℕ = a.other.now in
    let w : ℕ = width_at a.offset (layout_of a.kind).shape.fields in
    let m : a.offset + c.field_width-width.result - a.offset ≡ w = omega (arith, c.field_width-width.ensures) in
    let told = plain_lines t u a.kind a.position a.offset in
    let some : eqb w 0 ≡ false = ne_eqb w 0 (λ o. c.if-width-ne0.true (c.field_width-width.ensures ∙ o)) in
    let put = c.put_text.ensures in
    let e = c.field_text-text.ensures
    ∙ ap (λ (l : ℕ). texts_of (field_line a.kind a.position a.offset (take l (drop a.offset x)) (take l (drop a.offset z)))) m
    ∙ ap (λ (b : Bool). texts_of (pick b told (field_line a.kind a.position a.offset (part x a.offset w) (part z a.offset w)))) (sym some) in
    (omega (arith, put.0), put.1, put.2 ∙ ap (λ (y : List ℕ). take a.at a.out.now ++ y) e, put.3)

pub returns-then-has_object : goal.returns-then-has_object
returns-then-has_object c =
    let a = c.args in
    let put = c.put_text-then-has_object.ensures in
    let has = sym c.has_object.ensures ∙ c.if-has_object.true in
    let e = c.object_text.ensures ∙ sym (told-object (goal.at.returns-then-has_object c).After-field_width-width c.if-width-ne0.false true has) in
    (omega (arith, put.0), put.1, put.2 ∙ ap (λ (y : List ℕ). take a.at a.out.now ++ y) e, put.3)

pub returns : goal.returns
returns c =
    let a = c.args in
    let has = sym c.has_object.ensures ∙ c.if-has_object.false in
    let e = told-object (goal.at.returns c).After-field_width-width c.if-width-ne0.false false has in
    (omega arith, omega arith, sym (append-nil _) ∙ ap (λ (y : List ℕ). take a.at a.out.now ++ y) (sym e), refl)
