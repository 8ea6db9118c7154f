use mathlib.Core.Bool.{false}
use Rattle.table.specs.Meaning.{limit}
use mathlib.Core.Path.{◌≡◌, ap, ap₂, ◌∙◌}
use mathlib.Core.List.{List, [], ◌∷◌}
use Prim.Native.Nat.{ℕ, ◌+◌, ◌≤◌}
use native.Mathlib.Omega.{arith}
use lib.ListN.{length}
use lib.Dec.{lit≤}
use Rattle.table.specs.declared.Need.{Need}
use Rattle.table.specs.Layout.{Slots, text}
use Rattle.table.specs.FixedLayouts.{layout_of, ssns, extended}
use Rattle.table.specs.Objects.{under, size_of}
use Rattle.table.specs.Builder.{ended, records_end}
use Rattle.laws.specs.Fields.{image_in}
use Rattle.builder_writers.specs.Written.{record_with}
use Rattle.builder_state.proofs.Laws.{in-limit, used-bounds}
use Rattle.builder_record.proofs.FillLaws.{ssns-free}
use Rattle.builder_record.proofs.LayLaws.{part-size, part-stored, roomy, laid-refused, laid_done}
use Rattle.builder_ssns.specs.SsnsParts.{ssns_slots, named_part, laid_ssns}
use Rattle.builder_ssns.proofs.Laws.{Laid, ssns-laid, extended-room, ended-under}
use Rattle.builder_ssns.proofs.lay_ssns.Goals.{After-ended_len-path_len, After-place_of-at}
use Rattle.builder_ssns.proofs.lay_ssns.Goals as goal

-- the root path as it is kept
own_is : (e : After-ended_len-path_len) → ended text e.kept-own.result.now ≡ under e.own_need-need.result [] (ended text e.args.path.now)
own_is e = ap (ended text) e.kept-own.ensures ∙ ended-under e.own_need-need.result e.args.path.now

path-short : (e : After-ended_len-path_len) → e.ended_len-path_len.result ≤ 65535
path-short e =
    rw (e.ended_len-path_len.ensures ∙ ap length (own_is e
    ∙ ap (λ (n : Need). under n [] (ended text e.args.path.now)) e.own_need-need.ensures)) e.requires.address_len_bound.4

-- all that the record names, as it is kept
abbrev slots : (e : After-ended_len-path_len) → Slots ssns.refs
slots e =
    let a = e.args in
    ssns_slots (image_in ssns a.marked.now 0) a.address.now a.service.now a.others.now (ended text a.nqn.now)
    (image_in extended a.extended.now 0) (ended text a.path.now)

named : (e : After-ended_len-path_len) →
    Laid e.args.marked.now e.args.extended.now e.args.address.now e.args.service.now e.args.others.now (ended text e.args.nqn.now)
    (ended text e.args.path.now) e.args.state.used (slots e) e.own_size-size.result (ended text e.kept-own.result.now)
named e =
    let a = e.args in
    ssns-laid a.marked.now a.extended.now a.address.now a.service.now a.others.now (ended text a.nqn.now)
    (ended text a.path.now) a.state.used e.own_need-need.result e.own_size-size.result (ended text e.kept-own.result.now)
    e.own_need-need.ensures e.own_size-size.ensures.0 (own_is e)

-- how many bytes are written
abbrev written : List ℕ → List ℕ → List ℕ → ℕ → ℕ → ℕ → ℕ
written address service others nqn size path = length address + length service + length others + nqn + size + path

size_is : (e : After-ended_len-path_len) →
    written e.args.address.now e.args.service.now e.args.others.now e.ended_len-nqn_len.result e.own_size-size.result e.ended_len-path_len.result
    ≡ size_of (slots e)
size_is e = omega (arith, (named e).0, e.ended_len-nqn_len.ensures, e.ended_len-path_len.ensures)

-- where there is room
roomy-here : (c : After-place_of-at) →
    let a = c.args in
    let n = a.state.used + written a.address.now a.service.now a.others.now c.ended_len-nqn_len.result c.own_size-size.result c.ended_len-path_len.result in
    (records_end a.state ≤ a.state.used) × (n ≤ 65536) × (n ≤ length a.out.now)
roomy-here c =
    let a = c.args in
    roomy a.state 4 (written a.address.now a.service.now a.others.now c.ended_len-nqn_len.result c.own_size-size.result c.ended_len-path_len.result)
    (length a.out.now) c.room_fault-room.result c.requires.state_value.0 c.room_fault-room.ensures c.if-room-ne0.false

inside : (c : After-place_of-at) → c.place_of-at.result + 128 ≤ length c.args.out.now
unfolding layout_of ssns
inside c = omega (arith, roomy-here c, c.place_of-at.ensures.1)

pub own_need-need-requires : goal.own_need-need-requires
unfolding ssns
own_need-need-requires c = omega (arith, c.requires.state_value.1)

pub overflow_add-front : goal.overflow_add-front
overflow_add-front c = omega (arith, c.requires.address_len_bound)

pub overflow_add-front-2 : goal.overflow_add-front-2
overflow_add-front-2 c = omega (arith, c.requires.address_len_bound)

pub overflow_add-front-3 : goal.overflow_add-front-3
overflow_add-front-3 c = omega (arith, c.requires.address_len_bound, c.ended_len-nqn_len.ensures)

pub overflow_add-written : goal.overflow_add-written
overflow_add-written c = omega (
  arith,
  c.requires.address_len_bound,
  c.ended_len-nqn_len.ensures,
  c.own_size-size.ensures.1,
)

pub overflow_add-written-2 : goal.overflow_add-written-2
overflow_add-written-2 c = omega (
  arith,
  c.requires.address_len_bound,
  c.ended_len-nqn_len.ensures,
  c.own_size-size.ensures.1,
  path-short (goal.at.overflow_add-written-2 c).After-ended_len-path_len,
)

pub overflow_add-used : goal.overflow_add-used
overflow_add-used c =
    let v = used-bounds c.args.state 4 c.requires.state_value.0 in
    omega (arith, v, c.requires.address_len_bound, c.ended_len-nqn_len.ensures, c.own_size-size.ensures.1, path-short (goal.at.overflow_add-used c).After-ended_len-path_len)

pub returns-then-room-ne0 : goal.returns-then-room-ne0
unfolding laid_ssns
returns-then-room-ne0 c =
    let a = c.args in
    let e = (goal.at.returns-then-room-ne0 c).After-ended_len-path_len in
    laid-refused ssns a.state a.out.now a.marked.now (slots e)
    (written a.address.now a.service.now a.others.now c.ended_len-nqn_len.result c.own_size-size.result c.ended_len-path_len.result)
    c.room_fault-room.result c.refused.result (size_is e) c.room_fault-room.ensures c.refused.ensures.0 c.if-room-ne0.true c.refused.ensures.1

pub place_of-at-requires : goal.place_of-at-requires
place_of-at-requires c = (lit≤ tt, lit≤ tt, c.requires.state_value.0)

pub overflow_add-end : goal.overflow_add-end
unfolding layout_of ssns
overflow_add-end c = omega (arith, roomy-here (goal.at.overflow_add-end c).After-place_of-at, c.place_of-at.ensures.1)

pub slice_bounds-write_ssns-end : goal.slice_bounds-write_ssns-end
slice_bounds-write_ssns-end c = omega (arith, inside (goal.at.slice_bounds-write_ssns-end c).After-place_of-at)

pub write_ssns-requires : goal.write_ssns-requires
unfolding ssns
write_ssns-requires c = (
  (
    part-size c.args.out.now c.place_of-at.result 128 (inside (goal.at.write_ssns-requires c).After-place_of-at),
    c.requires.state_value.1,
    omega (arith, roomy-here (goal.at.write_ssns-requires c).After-place_of-at),
  ),
  c.requires.address_len_bound.0,
  c.requires.address_len_bound.1,
  c.requires.address_len_bound.2,
  omega (arith, c.requires.address_len_bound.3, c.ended_len-nqn_len.ensures),
  omega (arith, c.own_size-size.ensures.1),
  path-short (goal.at.write_ssns-requires c).After-ended_len-path_len,
)

pub lay_named-requires : goal.lay_named-requires
unfolding limit
lay_named-requires c =
    let x = extended-room c.own_need-need.result c.own_size-size.result (ended text c.kept-own.result.now) c.own_size-size.ensures.0 in
    let r = roomy-here (goal.at.lay_named-requires c).After-place_of-at in record {
      extended_len = (c.requires.state_value.2, omega (arith, path-short (goal.at.lay_named-requires c).After-ended_len-path_len, c.ended_len-path_len.ensures));
      path_bound = (
        omega (arith, x, r, c.ended_len-nqn_len.ensures, c.ended_len-path_len.ensures),
        omega (arith, x, r, c.ended_len-nqn_len.ensures, c.ended_len-path_len.ensures),
      );
    }

pub stepped-requires : goal.stepped-requires
stepped-requires c = in-limit _ (roomy-here (goal.at.stepped-requires c).After-place_of-at).1

pub returns : goal.returns
unfolding layout_of laid_ssns
returns c =
    let a = c.args in
    let w = c.write_ssns in
    let t = c.place_of-at in
    let m = c.own_size-size.result in
    let e = (goal.at.returns c).After-ended_len-path_len in
    let f = named e in
    let record_of : ℕ → ℕ → List ℕ =
    λ i j. record_with ssns a.marked.now a.state.used (length a.address.now ∷ length a.service.now ∷ length a.others.now ∷ i ∷ m ∷ [])
    (length a.address.now ∷ length a.service.now ∷ length a.others.now ∷ i ∷ (m + j) ∷ []) in
    let y = part-stored a.out.now t.result 128 w.new.part (record_of c.ended_len-nqn_len.result c.ended_len-path_len.result) (inside (goal.at.returns c).After-place_of-at) w.auto.part w.ensures in
    laid_done ssns a.state a.out.now a.marked.now (slots e)
    (written a.address.now a.service.now a.others.now c.ended_len-nqn_len.result c.own_size-size.result c.ended_len-path_len.result)
    c.room_fault-room.result c.stepped.result (size_is e)
    c.room_fault-room.ensures c.stepped.ensures.0 c.if-room-ne0.false false (ssns-free.1 _) c.stepped.ensures.1 t.result _ _
    c.lay_named.new.out
    (named_part a.state.used a.address.now a.service.now a.others.now (ended text a.nqn.now) m a.extended.now
    (ended text c.kept-own.result.now)) t.ensures.0
    (ap₂ record_of c.ended_len-nqn_len.ensures c.ended_len-path_len.ensures ∙ f.1) y f.2 c.lay_named.ensures
