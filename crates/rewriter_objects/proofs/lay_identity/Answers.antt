use mathlib.Core.Path.{refl, ap, ◌∙◌}
use Prim.Native.Nat.{◌+◌}
use native.Mathlib.Omega.{arith}
use Rattle.table.specs.FixedLayouts.{layout_of, info, hfi_extended}
use Rattle.bytes_writer.specs.Stores.{ref_num}
use Rattle.std.specs.Prelude.{Option}
use Rattle.reads_seats.specs.declared.seats.Seat.{Seat}
use Rattle.reads_seats.proofs.SeatLaws.{record-held}
use Rattle.rewriter_sizes.specs.Parts.{record_part, record_bytes}
use Rattle.rewriter_sizes.proofs.PartLaws.{spans-held}
use Rattle.rewriter_objects.specs.Laid.{laid}
use Rattle.rewriter_objects.proofs.LaidLaws.{over-held}
use Rattle.rewriter_objects.proofs.lay_identity.Goals as goal

pub lay_flat_record-requires : goal.lay_flat_record-requires
unfolding layout_of info hfi_extended
lay_flat_record-requires c =
    let a = c.args in
    let ok = c.requires.accepted.0 in
    let d = c.requires.accepted.1 in
    let z = spans-held a.t.now ok 7 a.source d 110 refl in
    rw c.heap_record-seat.ensures
    (record { accepted = (ok, record-held a.t.now ok a.source 7 (refl, d), refl); slot_bound = (omega (arith, c.requires.layout_of_bound.0), omega (arith, c.requires.layout_of_bound.1, z)) })

pub returns : goal.returns
unfolding layout_of info
returns c =
    let a = c.args in
    let t = a.t.now in
    let x = a.out.now in
    let h = a.next in
    let f = c.lay_flat_record in
    let e = c.heap_record-seat.ensures in
    over-held t c.requires.accepted.0 7 a.source c.requires.accepted.1 110 refl x f.new.out a.place h f.result
    (f.ensures.0 ∙ ap (λ (w : Option Seat). h + (record_part t 10 w).span) e)
    (f.ensures.1 ∙ ap (λ (w : Option Seat). laid x (a.place + 110) (ref_num h (record_part t 10 w).len) h (record_bytes t 10 h w)) e)
