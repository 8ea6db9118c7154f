use mathlib.Core.Path.{◌≡◌, ap, ◌∙◌}
use mathlib.Core.List.{List, [], ◌∷◌}
use Prim.Native.Nat.{ℕ, ◌+◌, ◌≤◌}
use native.Mathlib.Omega.{arith}
use lib.ListN.{length}
use Rattle.table.specs.declared.Need.{Need}
use Rattle.table.specs.Layout.{Slots, text, base_of}
use Rattle.table.specs.FixedLayouts.{layout_of, hfi, info, hfi_extended}
use Rattle.table.specs.Objects.{under, size_of}
use Rattle.table.specs.Meaning.{limit}
use Rattle.table.specs.Builder.{ended, records_end}
use Rattle.laws.specs.Fields.{image_in}
use Rattle.builder_writers.specs.Written.{record_with}
use Rattle.builder_state.proofs.Laws.{in-limit, used-bounds}
use Rattle.builder_record.proofs.LayLaws.{part-size, part-stored, roomy, laid-refused, laid_done}
use Rattle.builder_hfi.specs.HfiParts.{hfi_slots, info_part, laid_hfi}
use Rattle.builder_hfi.proofs.Laws.{Laid, hfi-laid, newer-is}
use Rattle.builder_hfi.proofs.lay_hfi.Goals.{After-identity_size, After-kept-own_duid, After-place_of-at}
use Rattle.builder_hfi.proofs.lay_hfi.Goals as goal

-- what is left of the objects of the HFI extended info is short
short : (c : After-kept-own_duid) →
    (length c.kept-own_iaid.result.now ≤ 65535) × (length c.kept-own_duid.result.now ≤ 65535)
short c = (
  rw (c.kept-own_iaid.ensures ∙ ap (λ (n : Need). under n [] c.args.iaid.now) c.own_need-need.ensures)
      c.requires.name_len_bound.1,
  rw (c.kept-own_duid.ensures ∙ ap (λ (n : Need). under n [] c.args.duid.now) c.own_need-need.ensures)
      c.requires.name_len_bound.2,
)

-- all that the record names, as it is kept
abbrev slots : (e : After-identity_size) → Slots hfi.refs
slots e =
    let a = e.args in
    hfi_slots (image_in info a.info.now 0) (ended text a.name.now) a.there (image_in hfi_extended a.extended.now 0) a.iaid.now a.duid.now

named : (e : After-identity_size) →
    Laid e.args.marked.now e.args.info.now (ended text e.args.name.now) e.args.extended.now e.args.state.used (slots e) e.args.there e.identity_size.result
    e.kept-own_iaid.result.now e.kept-own_duid.result.now
named e =
    let a = e.args in
    hfi-laid a.marked.now a.info.now (ended text a.name.now) a.extended.now a.state.used a.there e.own_need-need.result a.iaid.now a.duid.now
    e.kept-own_iaid.result.now e.kept-own_duid.result.now e.identity_size.result e.own_need-need.ensures e.kept-own_iaid.ensures e.kept-own_duid.ensures
    e.identity_size.ensures.0

-- how many bytes are written
abbrev written : ℕ → ℕ → ℕ
written n m = 128 + (n + m)

size_is : (e : After-identity_size) → written e.ended_len.result e.identity_size.result ≡ size_of (slots e)
size_is e = ap (λ (n : ℕ). 128 + (n + e.identity_size.result)) e.ended_len.ensures ∙ (named e).0

-- where there is room
roomy-here : (c : After-place_of-at) →
    let a = c.args in
    let n = a.state.used + written c.ended_len.result c.identity_size.result in
    (records_end a.state ≤ a.state.used) × (n ≤ 65536) × (n ≤ length a.out.now)
roomy-here c =
    let a = c.args in
    roomy a.state 3 (written c.ended_len.result c.identity_size.result) (length a.out.now) c.room_fault-room.result c.requires.state_value.0
    c.room_fault-room.ensures c.if-room-ne0.false

inside : (c : After-place_of-at) → c.place_of-at.result + 32 ≤ length c.args.out.now
unfolding layout_of hfi
inside c = omega (arith, roomy-here c, c.place_of-at.ensures.1)

pub own_need-need-requires : goal.own_need-need-requires
unfolding hfi_extended
own_need-need-requires c =
    omega (arith, c.requires.state_value.3)

pub identity_size-requires : goal.identity_size-requires
identity_size-requires c = short (goal.at.identity_size-requires c).After-kept-own_duid

pub overflow_add-named : goal.overflow_add-named
overflow_add-named c = omega (arith, c.requires.name_len_bound.0, c.ended_len.ensures, c.identity_size.ensures.1)

pub overflow_add-written : goal.overflow_add-written
overflow_add-written c = omega (arith, c.requires.name_len_bound.0, c.ended_len.ensures, c.identity_size.ensures.1)

pub overflow_add-used : goal.overflow_add-used
overflow_add-used c =
    let v = used-bounds c.args.state 3 c.requires.state_value.0 in
    omega (arith, v, c.requires.name_len_bound.0, c.ended_len.ensures, c.identity_size.ensures.1)

pub returns-then-room-ne0 : goal.returns-then-room-ne0
unfolding laid_hfi
returns-then-room-ne0 c =
    let a = c.args in
    let e = (goal.at.returns-then-room-ne0 c).After-identity_size in
    laid-refused hfi a.state a.out.now a.marked.now (slots e) (written c.ended_len.result c.identity_size.result) c.room_fault-room.result
    c.refused.result (size_is e) c.room_fault-room.ensures c.refused.ensures.0 c.if-room-ne0.true c.refused.ensures.1

pub overflow_add-end : goal.overflow_add-end
unfolding layout_of hfi
overflow_add-end c = omega (arith, roomy-here (goal.at.overflow_add-end c).After-place_of-at, c.place_of-at.ensures.1)

pub slice_bounds-write_hfi-end : goal.slice_bounds-write_hfi-end
slice_bounds-write_hfi-end c = omega (arith, inside (goal.at.slice_bounds-write_hfi-end c).After-place_of-at)

pub write_hfi-requires : goal.write_hfi-requires
unfolding hfi
write_hfi-requires c =
    ((part-size c.args.out.now c.place_of-at.result 32 (inside (goal.at.write_hfi-requires c).After-place_of-at), c.requires.state_value.1, omega (arith, roomy-here (goal.at.write_hfi-requires c).After-place_of-at)), omega (arith, roomy-here (goal.at.write_hfi-requires c).After-place_of-at))

pub lay_info-requires : goal.lay_info-requires
unfolding limit
lay_info-requires c =
    let z = short (goal.at.lay_info-requires c).After-kept-own_duid in
    let m = c.identity_size.ensures.0 in
    let n = c.ended_len.ensures in
    let r = roomy-here (goal.at.lay_info-requires c).After-place_of-at in record {
      info_len = (c.requires.state_value.2, c.requires.state_value.3);
      name_len_bound = (c.requires.name_len_bound.0, z.0, z.1);
      duid_bound = (omega (arith, r, m, n), omega (arith, r, m, n));
    }

pub is_newer-requires : goal.is_newer-requires
unfolding info
is_newer-requires c = omega (
  arith,
  c.requires.state_value.2,
)

pub stepped-requires : goal.stepped-requires
stepped-requires c = in-limit _ (roomy-here (goal.at.stepped-requires c).After-place_of-at).1

pub returns : goal.returns
unfolding layout_of laid_hfi
returns c =
    let a = c.args in
    let name = ended text a.name.now in
    let w = c.write_hfi in
    let t = c.place_of-at in
    let m = c.identity_size.result in
    let p = c.kept-own_iaid.result.now in
    let q = c.kept-own_duid.result.now in
    let e = (goal.at.returns c).After-identity_size in
    let f = named e in
    let record_of : ℕ → List ℕ = λ n. record_with hfi a.marked.now a.state.used (base_of info ∷ []) ((base_of info + (n + m)) ∷ []) in
    let y = part-stored a.out.now t.result 32 w.new.part (record_of c.ended_len.result) (inside (goal.at.returns c).After-place_of-at) w.auto.part w.ensures in
    laid_done hfi a.state a.out.now a.marked.now (slots e) (written c.ended_len.result c.identity_size.result) c.room_fault-room.result
    c.stepped.result (size_is e)
    c.room_fault-room.ensures c.stepped.ensures.0 c.if-room-ne0.false c.is_newer.result
    (c.is_newer.ensures ∙ newer-is (image_in info a.info.now 0) name (image_in hfi_extended a.extended.now 0) a.iaid.now a.duid.now a.there)
    c.stepped.ensures.1 t.result _ _ c.lay_info.new.out
    (info_part a.info.now a.state.used name a.there a.extended.now p q) t.ensures.0 (ap record_of c.ended_len.ensures ∙ f.1) y
    f.2 c.lay_info.ensures
