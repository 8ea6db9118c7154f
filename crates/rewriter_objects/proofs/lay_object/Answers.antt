use Rattle.bytes_writer.specs.Stores.{ref_num}
use Rattle.table.specs.Bytes.{splice}
use native.Mathlib.Omega.{arith}
use Prim.Native.Nat.{ℕ, ◌+◌}
use lib.ListN.{length}
use mathlib.Core.List.{List}
use mathlib.Core.Path.{sym, ap, ap₂, ◌∙◌}
use Rattle.bytes_writer.proofs.StoreLaws.{splice-none}
use Rattle.rewriter_sizes.proofs.LengthLaws.{bytes-long}
use Rattle.rewriter_sizes.specs.Parts.{part_at}
use Rattle.rewriter_objects.specs.Laid.{laid}
use Rattle.rewriter_objects.proofs.LaidLaws.{object-len, object-size, object-none, object-laid}
use Rattle.rewriter_objects.proofs.lay_object.Goals as goal

pub returns-then-len-eq0 : goal.returns-then-len-eq0
returns-then-len-eq0 c =
    let a = c.args in
    let t = a.t.now in
    let k = a.kind in
    let ok = c.requires.accepted.0 in
    let d = c.requires.accepted.1 in
    let w = c.requires.accepted.2 in
    let o = c.object_len-len in
    let r = ref_num a.next (part_at t k a.source a.offset).len in (
      omega (arith, object-size t ok k a.source d a.offset w o.result o.ensures.0, c.if-len-eq0.true),
      c.put_slot.ensures
          ∙ ap (λ (m : ℕ). splice a.out.now (a.place + a.offset) (ref_num a.next m))
          (object-len t ok k a.source d a.offset w o.result o.ensures.0)
          ∙ splice-none (splice a.out.now (a.place + a.offset) r) a.next
          ∙ ap (λ (g : List ℕ). laid a.out.now (a.place + a.offset) r a.next g)
          (sym (object-none t ok k a.source d a.offset w o.result o.ensures.0 c.if-len-eq0.true a.next)),
    )

pub object_bytes-requires : goal.object_bytes-requires
object_bytes-requires c =
    let a = c.args in
    let t = a.t.now in
    let k = a.kind in
    let ok = c.requires.accepted.0 in
    let d = c.requires.accepted.1 in
    let w = c.requires.accepted.2 in
    let o = c.object_len-len in
    record { accepted = (ok, d, w); len_value = (o.ensures.0, omega (arith, c.if-len-eq0.false)) }

pub copy_into-requires : goal.copy_into-requires
copy_into-requires c =
    let a = c.args in
    let t = a.t.now in
    let k = a.kind in
    let ok = c.requires.accepted.0 in
    let d = c.requires.accepted.1 in
    let w = c.requires.accepted.2 in
    let o = c.object_len-len in
    let x = c.object_bytes in
    omega (
      arith,
      object-size t ok k a.source d a.offset w o.result o.ensures.0,
      ap length (object-laid t ok k a.source d a.offset w x.result.now x.ensures 0)
          ∙ bytes-long t ok k a.source d 0 a.offset,
      c.requires.offset_bound,
      c.put_slot.auto.part,
    )

pub returns : goal.returns
returns c =
    let a = c.args in
    let t = a.t.now in
    let k = a.kind in
    let ok = c.requires.accepted.0 in
    let d = c.requires.accepted.1 in
    let w = c.requires.accepted.2 in
    let o = c.object_len-len in
    let x = c.object_bytes in (
      ap (λ (m : ℕ). a.next + m) (object-size t ok k a.source d a.offset w o.result o.ensures.0),
      c.copy_into.ensures
          ∙ ap₂ (λ (y g : List ℕ). splice y a.next g) (c.put_slot.ensures
          ∙ ap (λ (m : ℕ). splice a.out.now (a.place + a.offset) (ref_num a.next m))
          (object-len t ok k a.source d a.offset w o.result o.ensures.0))
          (object-laid t ok k a.source d a.offset w x.result.now x.ensures a.next),
    )
