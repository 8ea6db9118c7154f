use Rattle.table.specs.Builder.{records_end}
use Rattle.builder_begin.proofs.BeginLaws.{opened-length, begin-again, begin-faulty, begin-refused, begin-done}
use Rattle.bytes_room.proofs.RoomLaws.{room-passed}
use mathlib.Core.List.{[], ◌∷◌}
use lib.ListN.{length}
use Prim.Native.Nat.{◌+◌}
use Rattle.builder_record.proofs.LayLaws.{step_is}
use Rattle.table.specs.declared.State.{State}
use Rattle.table.specs.declared.Answer.{Answer}
use mathlib.Core.Path.{sym, ap, ◌∙◌}
use Rattle.builder_begin.proofs.begin.Goals as goal

pub returns-then-not-is_empty : goal.returns-then-not-is_empty
returns-then-not-is_empty c =
    let a = c.args in
    let b = a.out.now in
    let t = begin-again a.state b a.oem
    (a.counts.hfi ∷ a.counts.ssns ∷ a.counts.security ∷ a.counts.discovery ∷ []) a.signature.now
    (sym c.is_empty.ensures ∙ c.if-not-is_empty.true) in (
      step_is c.refused.result c.refuse.result a.state c.refused.ensures.0
          c.refused.ensures.1
          ∙ ap (λ (x : Answer). record { answer = x; state = a.state }) c.refuse.ensures
          ∙ t.0,
      t.1,
    )

pub returns-then-fault-ne0 : goal.returns-then-fault-ne0
returns-then-fault-ne0 c =
    let a = c.args in
    let t = begin-faulty a.state a.out.now a.oem
    (a.counts.hfi ∷ a.counts.ssns ∷ a.counts.security ∷ a.counts.discovery ∷ []) a.signature.now
    (sym c.is_empty.ensures ∙ c.if-not-is_empty.false) c.fits-fault.result
    c.fits-fault.ensures c.if-fault-ne0.true in (
      step_is c.refused-then-fault-ne0.result c.refuse-then-fault-ne0.result a.state c.refused-then-fault-ne0.ensures.0
          c.refused-then-fault-ne0.ensures.1
          ∙ ap (λ (x : Answer). record { answer = x; state = a.state }) c.refuse-then-fault-ne0.ensures
          ∙ t.0,
      t.1,
    )

pub returns-then-room-ne0 : goal.returns-then-room-ne0
returns-then-room-ne0 c =
    let a = c.args in
    let he = c.records_end-heap.ensures.0 ∙ ap records_end c.begun_state.ensures.0 in
    let n = opened-length a.oem a.counts c.begun_state.ensures.1 a.signature.now
    c.records_end-heap.result he in
    let t = begin-refused a.state a.out.now a.oem
    (a.counts.hfi ∷ a.counts.ssns ∷ a.counts.security ∷ a.counts.discovery ∷ []) a.signature.now
    (sym c.is_empty.ensures ∙ c.if-not-is_empty.false)
    (sym c.fits-fault.ensures ∙ c.if-fault-ne0.false)
    (c.records_end-heap.result + length a.signature.now) n c.room_fault-room.result
    c.room_fault-room.ensures c.if-room-ne0.true in (
      step_is c.refused-then-room-ne0.result c.room_fault-room.result a.state c.refused-then-room-ne0.ensures.0
          c.refused-then-room-ne0.ensures.1
          ∙ t.0,
      t.1,
    )

pub lay_opened-requires : goal.lay_opened-requires
lay_opened-requires c =
    let a = c.args in
    let hs = c.records_end-heap.ensures in
    let he = hs.0 ∙ ap records_end c.begun_state.ensures.0 in
    let q = room-passed (c.records_end-heap.result + length a.signature.now) (length a.out.now)
    (sym (ap (λ (x : Answer). x.number) c.room_fault-room.ensures) ∙ c.if-room-ne0.false) in
    (he, hs.1, q.1, c.begun_state.ensures.1)

pub returns : goal.returns
returns c =
    let a = c.args in
    let he = c.records_end-heap.ensures.0 ∙ ap records_end c.begun_state.ensures.0 in
    let n = opened-length a.oem a.counts c.begun_state.ensures.1 a.signature.now
    c.records_end-heap.result he in
    let t = begin-done a.state a.out.now a.oem
    (a.counts.hfi ∷ a.counts.ssns ∷ a.counts.security ∷ a.counts.discovery ∷ []) a.signature.now
    (sym c.is_empty.ensures ∙ c.if-not-is_empty.false)
    (sym c.fits-fault.ensures ∙ c.if-fault-ne0.false)
    (c.records_end-heap.result + length a.signature.now) n c.room_fault-room.result
    c.room_fault-room.ensures c.if-room-ne0.false in (
      ap (λ (y : State). record { answer = c.room_fault-room.result; state = y }) c.begun_state-begun.ensures.0 ∙ t.0,
      c.lay_opened.ensures ∙ t.1,
    )
