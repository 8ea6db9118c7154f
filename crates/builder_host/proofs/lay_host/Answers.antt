use mathlib.Core.Path.{ap, ◌∙◌}
use mathlib.Core.Bool.{false}
use mathlib.Core.List.{[], ◌∷◌}
use Prim.Native.Nat.{ℕ, ◌+◌, ◌≤◌}
use native.Mathlib.Omega.{arith}
use lib.ListN.{length}
use lib.Dec.{lit≤}
use Rattle.table.specs.Layout.{text}
use Rattle.table.specs.FixedLayouts.{layout_of, host}
use Rattle.table.specs.Builder.{ended, records_end}
use Rattle.builder_record.specs.Calls.{host_told}
use Rattle.builder_writers.specs.Written.{record_with}
use Rattle.builder_state.proofs.Laws.{in-limit, used-bounds}
use Rattle.builder_record.proofs.FillLaws.{host-free}
use Rattle.builder_record.proofs.LayLaws.{part-size, part-stored, roomy, laid-refused, laid_done}
use Rattle.builder_host.proofs.Laws.{host-size, host-record, host-heap}
use Rattle.builder_host.proofs.lay_host.Goals.{After-place_of-at}
use Rattle.builder_host.proofs.lay_host.Goals as goal

-- where there is room
roomy-here : (c : After-place_of-at) →
    let a = c.args in
    (records_end a.state ≤ a.state.used) × (a.state.used + c.ended_len-written.result ≤ 65536) × (a.state.used + c.ended_len-written.result ≤ length a.out.now)
roomy-here c =
    let a = c.args in
    roomy a.state 2 c.ended_len-written.result (length a.out.now) c.room_fault-room.result c.requires.0 c.room_fault-room.ensures c.if-room-ne0.false

inside : (c : After-place_of-at) → c.place_of-at.result + 32 ≤ length c.args.out.now
unfolding layout_of host
inside c = omega (arith, roomy-here c, c.place_of-at.ensures.1)

pub overflow_add-used : goal.overflow_add-used
overflow_add-used c =
    let v = used-bounds c.args.state 2 c.requires.0 in
    omega (arith, v, c.requires, c.ended_len-written.ensures)

pub returns-then-room-ne0 : goal.returns-then-room-ne0
returns-then-room-ne0 c =
    let a = c.args in
    let nqn = ended text a.nqn.now in
    laid-refused host a.state a.out.now a.marked.now (host_told nqn) c.ended_len-written.result
    c.room_fault-room.result c.refused.result (c.ended_len-written.ensures ∙ host-size nqn) c.room_fault-room.ensures
    c.refused.ensures.0 c.if-room-ne0.true c.refused.ensures.1

pub place_of-at-requires : goal.place_of-at-requires
place_of-at-requires c = (lit≤ tt, lit≤ tt, c.requires.0)

pub overflow_add-end : goal.overflow_add-end
unfolding layout_of host
overflow_add-end c = omega (arith, roomy-here (goal.at.overflow_add-end c).After-place_of-at, c.place_of-at.ensures.1)

pub slice_bounds-write_host-end : goal.slice_bounds-write_host-end
slice_bounds-write_host-end c = omega (arith, inside (goal.at.slice_bounds-write_host-end c).After-place_of-at)

pub write_host-requires : goal.write_host-requires
unfolding host
write_host-requires c = (
  (part-size c.args.out.now c.place_of-at.result 32 (inside (goal.at.write_host-requires c).After-place_of-at), c.requires.1, omega (arith, roomy-here (goal.at.write_host-requires c).After-place_of-at)),
  omega (arith, c.requires.2, c.ended_len-written.ensures),
)

pub lay_text-requires : goal.lay_text-requires
lay_text-requires c =
    omega (arith, roomy-here (goal.at.lay_text-requires c).After-place_of-at, c.ended_len-written.ensures, c.out-1.given.1)

pub stepped-requires : goal.stepped-requires
stepped-requires c = in-limit _ (roomy-here (goal.at.stepped-requires c).After-place_of-at).1

pub returns : goal.returns
unfolding layout_of
returns c =
    let a = c.args in
    let w = c.write_host in
    let t = c.place_of-at in
    let n = c.ended_len-written.result in
    let nqn = ended text a.nqn.now in
    let y = part-stored a.out.now t.result 32 w.new.part (record_with host a.marked.now a.state.used (n ∷ []) (n ∷ [])) (inside (goal.at.returns c).After-place_of-at) w.auto.part w.ensures in
    let r = ap (λ (m : ℕ). record_with host a.marked.now a.state.used (m ∷ []) (m ∷ [])) c.ended_len-written.ensures ∙ host-record a.marked.now a.state.used nqn in
    laid_done host a.state a.out.now a.marked.now (host_told nqn) n c.room_fault-room.result c.stepped.result
    (c.ended_len-written.ensures ∙ host-size nqn) c.room_fault-room.ensures c.stepped.ensures.0 c.if-room-ne0.false false (host-free.1 _)
    c.stepped.ensures.1 t.result _ _ _ nqn t.ensures.0 r y (host-heap a.state.used nqn) c.lay_text.ensures
