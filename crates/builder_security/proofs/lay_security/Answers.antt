use mathlib.Core.Bool.{false}
use mathlib.Core.List.{[], ◌∷◌}
use Prim.Native.Nat.{◌+◌, ◌≤◌}
use native.Mathlib.Omega.{arith}
use lib.ListN.{length}
use lib.Dec.{lit≤}
use Rattle.table.specs.FixedLayouts.{layout_of, security}
use Rattle.table.specs.Builder.{records_end}
use Rattle.builder_record.specs.Calls.{security_told}
use Rattle.bytes_writer.proofs.StoreLaws.{concat}
use Rattle.builder_writers.specs.Written.{record_with}
use Rattle.builder_state.proofs.Laws.{in-limit, used-bounds}
use Rattle.builder_record.proofs.FillLaws.{security-free}
use Rattle.builder_record.proofs.LayLaws.{part-size, part-stored, roomy, laid-refused, laid_done, six-long}
use Rattle.builder_security.proofs.Laws.{security-size, security-record, security-heap}
use Rattle.builder_security.proofs.lay_security.Goals.{After-place_of-at}
use Rattle.builder_security.proofs.lay_security.Goals as goal

-- where there is room
roomy-here : (c : After-place_of-at) →
    let a = c.args in
    (records_end a.state ≤ a.state.used)
    × (a.state.used + (length a.algorithms.now + length a.protocols.now + length a.ciphers.now + length
    a.groups.now + length a.hashes.now + length a.keypath.now) ≤ 65536)
    × (a.state.used + (length a.algorithms.now + length a.protocols.now + length a.ciphers.now + length
    a.groups.now + length a.hashes.now + length a.keypath.now) ≤ length a.out.now)
roomy-here c =
    let a = c.args in
    roomy a.state 5 (length a.algorithms.now + length a.protocols.now + length a.ciphers.now + length
    a.groups.now + length a.hashes.now + length a.keypath.now) (length a.out.now)
    c.room_fault-room.result c.requires.state_value.0 c.room_fault-room.ensures c.if-room-ne0.false

inside : (c : After-place_of-at) →
    c.place_of-at.result + 64 ≤ length c.args.out.now
unfolding layout_of security
inside c = omega (arith, roomy-here c, c.place_of-at.ensures.1)

pub overflow_add-used : goal.overflow_add-used
overflow_add-used c = let v = used-bounds c.args.state 5 c.requires.state_value.0 in omega (arith, v, c.requires)

pub returns-then-room-ne0 : goal.returns-then-room-ne0
returns-then-room-ne0 c =
    let a = c.args in
    laid-refused security a.state a.out.now a.marked.now (security_told a.algorithms.now
    a.protocols.now a.ciphers.now a.groups.now a.hashes.now a.keypath.now)
    (length a.algorithms.now + length a.protocols.now + length a.ciphers.now + length a.groups.now
    + length a.hashes.now + length a.keypath.now) c.room_fault-room.result c.refused.result
    (security-size a.algorithms.now a.protocols.now a.ciphers.now a.groups.now a.hashes.now
    a.keypath.now) c.room_fault-room.ensures c.refused.ensures.0 c.if-room-ne0.true
    c.refused.ensures.1

pub place_of-at-requires : goal.place_of-at-requires
place_of-at-requires c = (lit≤ tt, lit≤ tt, c.requires.state_value.0)

pub overflow_add-end : goal.overflow_add-end
unfolding layout_of security
overflow_add-end c = omega (arith, roomy-here (goal.at.overflow_add-end c).After-place_of-at, c.place_of-at.ensures.1)

pub slice_bounds-write_security-end : goal.slice_bounds-write_security-end
slice_bounds-write_security-end c = omega (arith, inside (goal.at.slice_bounds-write_security-end c).After-place_of-at)

pub write_security-requires : goal.write_security-requires
unfolding security
write_security-requires c = (
  (part-size c.args.out.now c.place_of-at.result 64 (inside (goal.at.write_security-requires c).After-place_of-at), c.requires.state_value.1, omega (arith, roomy-here (goal.at.write_security-requires c).After-place_of-at)),
  c.requires.algorithms_len_bound.0,
  c.requires.algorithms_len_bound.1,
  c.requires.algorithms_len_bound.2,
  c.requires.algorithms_len_bound.3,
  c.requires.algorithms_len_bound.4,
  c.requires.algorithms_len_bound.5,
)

pub lay_pieces-requires : goal.lay_pieces-requires
lay_pieces-requires c =
    let a = c.args in
    omega (
      arith,
      roomy-here (goal.at.lay_pieces-requires c).After-place_of-at,
      c.out-1.given.1,
      six-long a.algorithms.now a.protocols.now a.ciphers.now a.groups.now a.hashes.now
          a.keypath.now,
    )

pub stepped-requires : goal.stepped-requires
stepped-requires c =
    in-limit _ (roomy-here (goal.at.stepped-requires c).After-place_of-at).1

pub returns : goal.returns
unfolding layout_of
returns c =
    let a = c.args in
    let w = c.write_security in
    let t = c.place_of-at in
    let y = part-stored a.out.now t.result 64 w.new.part (record_with security a.marked.now a.state.used
    (length a.algorithms.now ∷ length a.protocols.now ∷ length a.ciphers.now ∷ length a.groups.now
    ∷ length a.hashes.now ∷ length a.keypath.now ∷ []) (length a.algorithms.now ∷ length a.protocols.now
    ∷ length a.ciphers.now ∷ length a.groups.now ∷ length a.hashes.now ∷ length a.keypath.now ∷ []))
    (inside (goal.at.returns c).After-place_of-at) w.auto.part w.ensures in
    laid_done security a.state a.out.now a.marked.now (security_told a.algorithms.now a.protocols.now
    a.ciphers.now a.groups.now a.hashes.now a.keypath.now) (length a.algorithms.now + length
    a.protocols.now + length a.ciphers.now + length a.groups.now + length a.hashes.now + length
    a.keypath.now) c.room_fault-room.result c.stepped.result (security-size a.algorithms.now
    a.protocols.now a.ciphers.now a.groups.now a.hashes.now a.keypath.now)
    c.room_fault-room.ensures c.stepped.ensures.0 c.if-room-ne0.false false (security-free.1 _) c.stepped.ensures.1 t.result _
    _ _ (concat
    (a.algorithms.now ∷ a.protocols.now ∷ a.ciphers.now ∷ a.groups.now ∷ a.hashes.now ∷ a.keypath.now ∷ []))
    t.ensures.0 (security-record a.algorithms.now a.protocols.now a.ciphers.now a.groups.now
    a.hashes.now a.keypath.now a.marked.now a.state.used) y (security-heap a.algorithms.now
    a.protocols.now a.ciphers.now a.groups.now a.hashes.now a.keypath.now a.state.used)
    c.lay_pieces.ensures
