use Rattle.rewriter_objects.proofs.LaidLaws.{named-objects, held-laid}
use mathlib.Core.Path.{ap, ap₂, ◌∙◌}
use mathlib.Core.List.{List}
use Prim.Native.Nat.{ℕ, ◌+◌}
use native.Mathlib.Omega.{arith}
use Rattle.table.specs.Layout.{base_of}
use Rattle.table.specs.FixedLayouts.{layout_of}
use Rattle.table.specs.Bytes.{splice}
use Rattle.laws.specs.Fields.{image_in}
use Rattle.bytes_writer.specs.Stores.{ref_num}
use Rattle.rewriter_sizes.specs.Parts.{objects_of, record_part}
use Rattle.rewriter_sizes.proofs.PartLaws.{sized-flat}
use Rattle.rewriter_objects.specs.Laid.{laid_over}
use borrow.Author.Rules.{rules}
use Rattle.rewriter_objects.proofs.lay_flat.Goals as goal

pub put_record-requires : goal.put_record-requires
unfolding record_part
put_record-requires c =
    (c.requires.accepted.0, c.requires.accepted.1, omega (arith, c.requires.slot_bound, c.put_slot.auto.part))

pub overflow_add-next : goal.overflow_add-next
unfolding record_part
overflow_add-next c = search rules

pub lay_objects-requires : goal.lay_objects-requires
unfolding record_part
lay_objects-requires c =
    let a = c.args in
    let b = c.base_size-size.ensures in
    let z = sized-flat a.t.now c.requires.accepted.0 a.kind a.source c.requires.accepted.1 c.requires.accepted.2 in record {
      accepted = (c.requires.accepted.0, c.requires.accepted.1);
      kind_bound = (
        omega (arith, b),
        omega (arith, b, z, c.requires.slot_bound, c.put_slot.auto.part, c.put_record.auto.out),
      );
    }

pub returns : goal.returns
unfolding record_part
returns c =
    let a = c.args in
    let t = a.t.now in
    let k = a.kind in
    let x = a.out.now in
    let ok = c.requires.accepted.0 in
    let d = c.requires.accepted.1 in
    let b = c.base_size-size.ensures in
    let l = c.lay_objects.ensures in (
      omega (arith, l.0, b, sized-flat t ok k a.source d c.requires.accepted.2),
      held-laid t ok k a.source d x c.lay_objects.new.out a.slot a.next c.requires.slot_bound.0 c.requires.slot_bound.1 (l.1
          ∙ ap₂ (λ (y : List ℕ) (v : ℕ). laid_over y a.next (a.next + v) t k a.source (objects_of k))
          (c.put_record.ensures
          ∙ ap (λ (y : List ℕ). splice y a.next (image_in (layout_of k) t a.source))
          (c.put_slot.ensures ∙ ap (λ (m : ℕ). splice x a.slot (ref_num a.next m)) b)) b
          ∙ named-objects t ok k a.source d c.requires.accepted.2
          (splice (splice x a.slot (ref_num a.next (base_of (layout_of k)))) a.next (image_in (layout_of k) t a.source))
          a.next (a.next + base_of (layout_of k))),
    )
