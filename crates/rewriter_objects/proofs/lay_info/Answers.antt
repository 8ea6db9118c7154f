use mathlib.Core.Path.{ap, ap₂, ◌∙◌}
use mathlib.Core.List.{List}
use Prim.Native.Nat.{ℕ, ◌+◌}
use native.Mathlib.Omega.{arith}
use Rattle.table.specs.FixedLayouts.{layout_of, info}
use Rattle.table.specs.Bytes.{splice}
use Rattle.laws.specs.Fields.{image_in}
use Rattle.rewriter_sizes.specs.Parts.{slots_in, held_of, record_part}
use Rattle.rewriter_sizes.proofs.PartLaws.{sized-split}
use Rattle.rewriter_objects.specs.Laid.{named, laid_over}
use Rattle.rewriter_objects.proofs.LaidLaws.{named-join, held-laid}
use Rattle.rewriter_objects.proofs.lay_info.Goals as goal

pub put_record-requires : goal.put_record-requires
unfolding record_part
put_record-requires c =
    (c.requires.accepted.0, c.requires.accepted.1, omega (arith, c.requires.slot_bound, c.put_slot.auto.part))

pub lay_objects-behind-requires : goal.lay_objects-behind-requires
unfolding record_part layout_of info
lay_objects-behind-requires c =
    let a = c.args in
    let z = sized-split a.t.now c.requires.accepted.0 7 a.source c.requires.accepted.1 in
    record { accepted = c.requires.accepted; kind_bound = (omega arith, omega (arith, z, c.requires.slot_bound, c.put_slot.auto.part, c.put_record.auto.out)) }

pub lay_identity-requires : goal.lay_identity-requires
unfolding record_part layout_of info
lay_identity-requires c =
    let a = c.args in
    let z = sized-split a.t.now c.requires.accepted.0 7 a.source c.requires.accepted.1 in
    let o = c.lay_objects-behind in record {
      accepted = c.requires.accepted;
      layout_of_bound = (
        omega (arith, o.ensures.0),
        omega (arith, o.ensures.0, o.auto.out, z, c.requires.slot_bound, c.put_slot.auto.part, c.put_record.auto.out),
      );
    }

pub returns : goal.returns
unfolding record_part layout_of info
returns c =
    let a = c.args in
    let t = a.t.now in
    let x = a.out.now in
    let h = a.next in
    let ok = c.requires.accepted.0 in
    let d = c.requires.accepted.1 in
    let z = sized-split t ok 7 a.source d in
    let i = c.lay_identity in
    let o = c.lay_objects-behind in
    let y = c.put_record in (
      omega (arith, i.ensures.0, o.ensures.0, z),
      held-laid t ok 7 a.source d x i.new.out a.slot h c.requires.slot_bound.0 c.requires.slot_bound.1 (i.ensures.1
          ∙ ap₂ (λ (v : List ℕ) (u : ℕ). laid_over v h u t 7 a.source (held_of 7)) o.ensures.1 o.ensures.0
          ∙ named-join t ok 7 a.source d y.new.out h (h + 128) (omega arith) (omega (arith, z, c.requires.slot_bound, c.put_slot.auto.part, y.auto.out))
          ∙ ap (λ (v : List ℕ). named v h (h + 128) (slots_in (layout_of 7) t a.source))
          (y.ensures ∙ ap (λ (v : List ℕ). splice v h (image_in (layout_of 7) t a.source)) c.put_slot.ensures)),
    )
