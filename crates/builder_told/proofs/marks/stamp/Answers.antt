use Rattle.table.specs.Bytes.{splice, le}
use Prim.Native.Nat.{ℕ, ◌%◌}
use Rattle.bytes_writer.proofs.StoreLaws.{splice-none}
use Rattle.builder_told.proofs.Laws.{further, last-kinds}
use Rattle.builder_told.specs.Marks.{stamped}
use Rattle.table.specs.FixedLayouts.{layout_of, host, hfi, ssns, security, discovery, info}
use mathlib.Core.List.{[], ◌∷◌}
use mathlib.Core.Path.{sym, ap, ◌∙◌}
use native.Mathlib.Omega.{arith}
use Rattle.builder_told.proofs.marks.stamp.Goals as goal

pub put_u8-requires : goal.put_u8-requires
unfolding layout_of host
put_u8-requires c = omega (arith, rw c.in-2.is at c.requires.1)

pub put_u8-requires-in-3 : goal.put_u8-requires-in-3
unfolding layout_of hfi
put_u8-requires-in-3 c = omega (arith, rw c.in-3.is at c.requires.1)

pub put_u8-requires-in-3-2 : goal.put_u8-requires-in-3-2
unfolding layout_of hfi
put_u8-requires-in-3-2 c =
    omega (arith, rw c.in-3.is at c.requires.1, c.put_u8-in-3.auto.part)

pub put_u8-requires-in-3-3 : goal.put_u8-requires-in-3-3
unfolding layout_of hfi
put_u8-requires-in-3-3 c =
    omega (
      arith,
      rw c.in-3.is at c.requires.1,
      c.put_u8-in-3.auto.part,
      c.put_u8-in-3-2.auto.part,
    )

pub put_u8-requires-in-4 : goal.put_u8-requires-in-4
unfolding layout_of ssns
put_u8-requires-in-4 c = omega (arith, rw c.in-4.is at c.requires.1)

pub put_u8-requires-in-4-2 : goal.put_u8-requires-in-4-2
unfolding layout_of ssns
put_u8-requires-in-4-2 c =
    omega (arith, rw c.in-4.is at c.requires.1, c.put_u8-in-4.auto.part)

pub put_u16-requires : goal.put_u16-requires
unfolding layout_of ssns
put_u16-requires c =
    omega (
      arith,
      rw c.in-4.is at c.requires.1,
      c.put_u8-in-4.auto.part,
      c.put_u8-in-4-2.auto.part,
    )

pub put_u8-requires-in-5 : goal.put_u8-requires-in-5
unfolding layout_of security
put_u8-requires-in-5 c = omega (arith, rw c.in-5.is at c.requires.1)

pub put_u8-requires-in-5-2 : goal.put_u8-requires-in-5-2
unfolding layout_of security
put_u8-requires-in-5-2 c =
    omega (
      arith,
      rw c.in-5.is at c.requires.1,
      c.put_u8-in-5.auto.part,
    )

pub put_u8-requires-in-6 : goal.put_u8-requires-in-6
unfolding layout_of discovery
put_u8-requires-in-6 c = omega (arith, rw c.in-6.is at c.requires.1)

pub put_u8-requires-in-6-2 : goal.put_u8-requires-in-6-2
unfolding layout_of discovery
put_u8-requires-in-6-2 c =
    omega (
      arith,
      rw c.in-6.is at c.requires.1,
      c.put_u8-in-6.auto.part,
    )

pub copy_into-requires : goal.copy_into-requires
unfolding layout_of info
copy_into-requires c = omega (arith, rw c.in-7.is at c.requires.1)

pub put_u16-requires-in-7 : goal.put_u16-requires-in-7
unfolding layout_of info
put_u16-requires-in-7 c =
    omega (
      arith,
      rw c.in-7.is at c.requires.1,
      c.copy_into.auto.out,
    )

pub copy_into-requires-in_default : goal.copy_into-requires-in_default
copy_into-requires-in_default c =
    let m = c.in_default.in_default-own.rest in
    let k = last-kinds c.args.kind c.requires.0 m.0.0.0.0.0.1 m.0.0.0.0.1 m.0.0.0.1
    m.0.0.1 m.0.1 m.1 in
    omega (arith, k.0, c.requires.1)

pub put_u16-requires-in_default : goal.put_u16-requires-in_default
put_u16-requires-in_default c =
    let m = c.in_default.in_default-own.rest in
    let k = last-kinds c.args.kind c.requires.0 m.0.0.0.0.0.1 m.0.0.0.0.1 m.0.0.0.1
    m.0.0.1 m.0.1 m.1 in
    omega (arith, k.0, c.requires.1, c.copy_into-in_default.auto.out)

pub returns-in-2 : goal.returns-in-2
unfolding stamped layout_of host
returns-in-2 c = let k = c.in-2.is in rw k (c.put_u8.ensures ∙ splice-none _ 0)

pub returns-in-3 : goal.returns-in-3
unfolding stamped layout_of hfi
returns-in-3 c =
    let k = c.in-3.is in
    rw k (further _ _ _ 1 (c.args.position % 256 ∷ [])
    (c.put_u8-in-3-3.ensures
    ∙ ap (λ (x : ℕ). splice c.put_u8-in-3-2.new.part 1 (x ∷ [])) c.low.ensures)
    (further _ _ _ 3 (3 ∷ []) c.put_u8-in-3-2.ensures c.put_u8-in-3.ensures))

pub returns-in-4 : goal.returns-in-4
unfolding stamped layout_of ssns
returns-in-4 c =
    let k = c.in-4.is in
    rw k (further _ _ _ 1 (le 2 c.args.position)
    c.put_u16.ensures (further _ _ _ 5 (3 ∷ []) c.put_u8-in-4-2.ensures c.put_u8-in-4.ensures))

pub returns-in-5 : goal.returns-in-5
unfolding stamped layout_of security
returns-in-5 c =
    let k = c.in-5.is in
    rw k (further _ _ _ 1 (c.args.position % 256 ∷ []) (c.put_u8-in-5-2.ensures
    ∙ ap (λ (x : ℕ). splice c.put_u8-in-5.new.part 1 (x ∷ [])) c.low-in-5.ensures)
    c.put_u8-in-5.ensures)

pub returns-in-6 : goal.returns-in-6
unfolding stamped layout_of discovery
returns-in-6 c =
    let k = c.in-6.is in
    rw k (further _ _ _ 2 (c.args.position % 256 ∷ []) (c.put_u8-in-6-2.ensures
    ∙ ap (λ (x : ℕ). splice c.put_u8-in-6.new.part 2 (x ∷ [])) c.low-in-6.ensures)
    c.put_u8-in-6.ensures)

pub returns-in-7 : goal.returns-in-7
unfolding stamped layout_of info
returns-in-7 c =
    let k = c.in-7.is in
    rw k (further _ _ _ 4 (le 2 c.args.position)
    c.put_u16-in-7.ensures c.copy_into.ensures)

pub returns-in_default : goal.returns-in_default
returns-in_default c =
    let m = c.in_default.in_default-own.rest in
    let k = last-kinds c.args.kind c.requires.0 m.0.0.0.0.0.1 m.0.0.0.0.1 m.0.0.0.1
    m.0.0.1 m.0.1 m.1 in
    further _ _ _ 2 (le 2 c.args.position) c.put_u16-in_default.ensures c.copy_into-in_default.ensures
    ∙ sym (k.1 c.args.position c.args.bytes.now)
