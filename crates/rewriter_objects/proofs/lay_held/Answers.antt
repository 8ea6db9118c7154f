use mathlib.Core.Path.{refl, sym, ap, ◌∙◌}
use Prim.Native.Nat.{◌+◌}
use native.Mathlib.Nat.{add-zero}
use native.Mathlib.Omega.{arith}
use Rattle.table.specs.FixedLayouts.{layout_of, hfi, ssns, extended}
use Rattle.bytes_writer.specs.Stores.{ref_num}
use Rattle.std.specs.Prelude.{Option}
use Rattle.reads_seats.specs.declared.seats.Seat.{Seat}
use Rattle.reads_seats.proofs.SeatLaws.{record-held}
use Rattle.rewriter_sizes.specs.Parts.{record_part, record_bytes, spans_over}
use Rattle.rewriter_sizes.proofs.PartLaws.{spans-held, held_none}
use Rattle.rewriter_objects.specs.Laid.{laid}
use Rattle.rewriter_objects.proofs.LaidLaws.{over_none, over-held}
use Rattle.rewriter_objects.proofs.lay_held.Goals as goal

pub heap_record-info-requires : goal.heap_record-info-requires
heap_record-info-requires c = (rw c.in-3.is at c.requires).accepted.1.within

pub lay_info_record-requires : goal.lay_info_record-requires
unfolding layout_of hfi
lay_info_record-requires c =
    let a = c.args in
    let p = rw c.in-3.is at c.requires in
    let z = spans-held a.t.now p.accepted.0 3 a.source p.accepted.1 16 refl in
    rw c.heap_record-info.ensures
    (record { accepted = (p.accepted.0, record-held a.t.now p.accepted.0 a.source 3 (refl, p.accepted.1)); slot_bound = (omega (arith, p.kind_bound.0), omega (arith, p.kind_bound.1, z)) })

pub heap_record-extended-requires : goal.heap_record-extended-requires
heap_record-extended-requires c = (rw c.in-4.is at c.requires).accepted.1.within

pub lay_flat_record-requires : goal.lay_flat_record-requires
unfolding layout_of ssns extended
lay_flat_record-requires c =
    let a = c.args in
    let p = rw c.in-4.is at c.requires in
    let z = spans-held a.t.now p.accepted.0 4 a.source p.accepted.1 60 refl in
    rw c.heap_record-extended.ensures
    (record { accepted = (p.accepted.0, record-held a.t.now p.accepted.0 a.source 4 (refl, p.accepted.1), refl); slot_bound = (omega (arith, p.kind_bound.0), omega (arith, p.kind_bound.1, z)) })

pub lay_identity-requires : goal.lay_identity-requires
lay_identity-requires c = let p = rw c.in-7.is at c.requires in record { accepted = p.accepted; layout_of_bound = p.kind_bound }

pub returns-in-3 : goal.returns-in-3
unfolding layout_of hfi
returns-in-3 c =
    let a = c.args in
    let t = a.t.now in
    let x = a.out.now in
    let h = a.next in
    let p = rw c.in-3.is at c.requires in
    let f = c.lay_info_record in
    let e = c.heap_record-info.ensures in
    rw c.in-3.is (over-held t p.accepted.0 3 a.source p.accepted.1 16 refl x f.new.out a.place h f.result
    (f.ensures.0 ∙ ap (λ (w : Option Seat). h + (record_part t 7 w).span) e)
    (f.ensures.1 ∙ ap (λ (w : Option Seat). laid x (a.place + 16) (ref_num h (record_part t 7 w).len) h (record_bytes t 7 h w)) e))

pub returns-in-4 : goal.returns-in-4
unfolding layout_of ssns
returns-in-4 c =
    let a = c.args in
    let t = a.t.now in
    let x = a.out.now in
    let h = a.next in
    let p = rw c.in-4.is at c.requires in
    let f = c.lay_flat_record in
    let e = c.heap_record-extended.ensures in
    rw c.in-4.is (over-held t p.accepted.0 4 a.source p.accepted.1 60 refl x f.new.out a.place h f.result
    (f.ensures.0 ∙ ap (λ (w : Option Seat). h + (record_part t 9 w).span) e)
    (f.ensures.1 ∙ ap (λ (w : Option Seat). laid x (a.place + 60) (ref_num h (record_part t 9 w).len) h (record_bytes t 9 h w)) e))

pub returns-in-7 : goal.returns-in-7
returns-in-7 c = rw c.in-7.is c.lay_identity.ensures

pub returns-in_default : goal.returns-in_default
unfolding spans_over
returns-in_default c =
    let a = c.args in
    let t = a.t.now in
    let m = c.in_default.in_default-own.rest in
    let e = held_none a.kind m.0.0.1 m.0.1 m.1 in
    rw e (sym (add-zero a.next), sym (over_none t a.kind a.source a.out.now a.place a.next))
