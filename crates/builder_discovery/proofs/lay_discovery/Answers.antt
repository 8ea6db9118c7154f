use mathlib.Core.Bool.{false}
use mathlib.Core.Path.{◌≡◌, refl, ap, ap₂, ◌∙◌}
use mathlib.Core.List.{[], ◌∷◌, ◌++◌}
use Prim.Native.Nat.{ℕ, ◌+◌, ◌-◌, ◌≤◌}
use native.Mathlib.Omega.{arith}
use lib.ListN.{length, take, drop}
use lib.Dec.{lit≤}
use Rattle.table.specs.Layout.{text}
use Rattle.table.specs.Objects.{size_of}
use Rattle.table.specs.FixedLayouts.{layout_of, discovery}
use Rattle.table.specs.Builder.{ended, records_end}
use Rattle.builder_record.specs.Calls.{discovery_told}
use Rattle.bytes_writer.proofs.StoreLaws.{concat, chain-laid}
use Rattle.builder_writers.specs.Written.{record_with}
use Rattle.builder_state.proofs.Laws.{in-limit, used-bounds}
use Rattle.builder_record.proofs.FillLaws.{discovery-free}
use Rattle.builder_record.proofs.LayLaws.{part-size, part-stored, roomy, laid-refused, laid_done, two-long}
use Rattle.builder_discovery.proofs.Laws.{discovery-size, discovery-record, discovery-heap}
use Rattle.builder_discovery.proofs.lay_discovery.Goals.{After-ended_len-nqn_len, After-place_of-at}
use Rattle.builder_discovery.proofs.lay_discovery.Goals as goal

-- where there is room
roomy-here : (c : After-place_of-at) →
    let a = c.args in
    let n = c.ended_len-address_len.result + c.ended_len-nqn_len.result in
    (records_end a.state ≤ a.state.used) × (a.state.used + n ≤ 65536) × (a.state.used + n ≤ length a.out.now)
roomy-here c =
    roomy c.args.state 6 (c.ended_len-address_len.result + c.ended_len-nqn_len.result) (length c.args.out.now)
    c.room_fault-room.result c.requires.0 c.room_fault-room.ensures c.if-room-ne0.false

inside : (c : After-place_of-at) → c.place_of-at.result + 32 ≤ length c.args.out.now
unfolding layout_of discovery
inside c = omega (arith, roomy-here c, c.place_of-at.ensures.1)

pub overflow_add-written : goal.overflow_add-written
overflow_add-written c =
    omega (arith, c.requires, c.ended_len-address_len.ensures, c.ended_len-nqn_len.ensures)

pub overflow_add-used : goal.overflow_add-used
overflow_add-used c =
    let v = used-bounds c.args.state 6 c.requires.0 in
    omega (arith, v, c.requires, c.ended_len-address_len.ensures, c.ended_len-nqn_len.ensures)

-- how many bytes are written
size_is : (c : After-ended_len-nqn_len) →
    let a = c.args in
    c.ended_len-address_len.result + c.ended_len-nqn_len.result ≡ size_of (discovery_told (ended text a.address.now) (ended text a.nqn.now))
size_is c =
    let a = c.args in
    ap₂ (λ (m n : ℕ). m + n) c.ended_len-address_len.ensures c.ended_len-nqn_len.ensures ∙ discovery-size (ended text a.address.now) (ended text a.nqn.now)

pub returns-then-room-ne0 : goal.returns-then-room-ne0
returns-then-room-ne0 c =
    let a = c.args in
    laid-refused discovery a.state a.out.now a.marked.now (discovery_told (ended text a.address.now) (ended text a.nqn.now))
    (c.ended_len-address_len.result + c.ended_len-nqn_len.result) c.room_fault-room.result c.refused.result (size_is (goal.at.returns-then-room-ne0 c).After-ended_len-nqn_len) c.room_fault-room.ensures
    c.refused.ensures.0 c.if-room-ne0.true c.refused.ensures.1

pub place_of-at-requires : goal.place_of-at-requires
place_of-at-requires c = (lit≤ tt, lit≤ tt, c.requires.0)

pub overflow_add-end : goal.overflow_add-end
unfolding layout_of discovery
overflow_add-end c = omega (arith, roomy-here (goal.at.overflow_add-end c).After-place_of-at, c.place_of-at.ensures.1)

pub slice_bounds-write_discovery-end : goal.slice_bounds-write_discovery-end
slice_bounds-write_discovery-end c = omega (arith, inside (goal.at.slice_bounds-write_discovery-end c).After-place_of-at)

pub write_discovery-requires : goal.write_discovery-requires
unfolding discovery
write_discovery-requires c = (
  (part-size c.args.out.now c.place_of-at.result 32 (inside (goal.at.write_discovery-requires c).After-place_of-at), c.requires.1, omega (arith, roomy-here (goal.at.write_discovery-requires c).After-place_of-at)),
  omega (arith, c.requires.2, c.ended_len-address_len.ensures),
  omega (arith, c.requires.3, c.ended_len-nqn_len.ensures),
)

pub lay_text-requires : goal.lay_text-requires
lay_text-requires c =
    omega (arith, roomy-here (goal.at.lay_text-requires c).After-place_of-at, c.ended_len-address_len.ensures, c.out-1.given.1)

pub overflow_add-used-2 : goal.overflow_add-used-2
overflow_add-used-2 c = omega (arith, roomy-here (goal.at.overflow_add-used-2 c).After-place_of-at)

pub lay_text-requires-2 : goal.lay_text-requires-2
lay_text-requires-2 c =
    omega (
      arith,
      roomy-here (goal.at.lay_text-requires-2 c).After-place_of-at,
      c.ended_len-nqn_len.ensures,
      c.out-1.given.1,
      c.lay_text.auto.out,
    )

pub stepped-requires : goal.stepped-requires
stepped-requires c = in-limit _ (roomy-here (goal.at.stepped-requires c).After-place_of-at).1

pub returns : goal.returns
unfolding layout_of
returns c =
    let a = c.args in
    let w = c.write_discovery in
    let t = c.place_of-at in
    let n₁ = c.ended_len-address_len.result in
    let n₂ = c.ended_len-nqn_len.result in
    let address = ended text a.address.now in
    let nqn = ended text a.nqn.now in
    let y = part-stored a.out.now t.result 32 w.new.part
    (record_with discovery a.marked.now a.state.used (n₁ ∷ n₂ ∷ []) (n₁ ∷ n₂ ∷ [])) (inside (goal.at.returns c).After-place_of-at) w.auto.part w.ensures in
    let r = ap₂ (λ (m n : ℕ). record_with discovery a.marked.now a.state.used (m ∷ n ∷ []) (m ∷ n ∷ [])) c.ended_len-address_len.ensures c.ended_len-nqn_len.ensures
    ∙ discovery-record a.marked.now a.state.used address nqn in
    let v : length (take t.result a.out.now
    ++ (w.new.part ++ drop (t.result + 32 - t.result) (drop t.result a.out.now))) ≡ length a.out.now =
    c.out-1.given.1 in
    laid_done discovery a.state a.out.now a.marked.now (discovery_told address nqn) (n₁ + n₂) c.room_fault-room.result c.stepped.result
    (size_is (goal.at.returns c).After-ended_len-nqn_len) c.room_fault-room.ensures c.stepped.ensures.0 c.if-room-ne0.false false (discovery-free.1 _)
    c.stepped.ensures.1 t.result _ _ _ (concat (address ∷ nqn ∷ [])) t.ensures.0 r y
    (discovery-heap a.state.used address nqn) ((chain-laid (address ∷ nqn ∷ []) _ a.state.used c.lay_text-2.new.out
    (omega (arith, two-long address nqn, roomy-here (goal.at.returns c).After-place_of-at, c.ended_len-address_len.ensures, c.ended_len-nqn_len.ensures, v)) (
      c.lay_text.new.out,
      a.state.used,
      c.lay_text.ensures,
      refl,
      (c.lay_text-2.new.out, a.state.used + n₁, c.lay_text-2.ensures, ap (λ (m : ℕ). a.state.used + m) c.ended_len-address_len.ensures, refl),
    )))
