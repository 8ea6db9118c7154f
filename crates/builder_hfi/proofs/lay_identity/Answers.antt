use mathlib.Core.Path.{◌≡◌, refl, sym, ap, ◌∙◌}
use mathlib.Core.List.{[], ◌∷◌}
use Prim.Native.Nat.{ℕ, ◌+◌, ◌≤◌}
use native.Mathlib.Omega.{arith}
use lib.ListN.{length}
use Rattle.table.specs.Bytes.{splice}
use Rattle.table.specs.FixedLayouts.{hfi_extended}
use Rattle.table.specs.Meaning.{limit}
use Rattle.bytes_writer.proofs.StoreLaws.{chain-laid, splice-none}
use Rattle.builder_record.proofs.LayLaws.{part-size, part-stored}
use Rattle.builder_hfi.proofs.Laws.{three-long, identity-none, identity-some, identity-long}
use Rattle.builder_hfi.proofs.lay_identity.Goals as goal

pub slice_bounds-write_hfi_extended-end : goal.slice_bounds-write_hfi_extended-end
slice_bounds-write_hfi_extended-end c =
    omega (arith, c.requires.4, identity-long c.args.there c.args.iaid.now c.args.duid.now c.if-there.true)

pub write_hfi_extended-requires : goal.write_hfi_extended-requires
unfolding hfi_extended limit
write_hfi_extended-requires c =
    let a = c.args in (
      (
        part-size a.out.now a.at 20 (omega (
          arith,
          c.requires.4,
          identity-long c.args.there c.args.iaid.now c.args.duid.now c.if-there.true,
        )),
        c.requires.0,
        omega (arith, c.requires.3),
      ),
      c.requires.1,
      c.requires.2,
    )

pub copy_into-requires : goal.copy_into-requires
copy_into-requires c =
    omega (arith, c.requires.4, identity-long c.args.there c.args.iaid.now c.args.duid.now c.if-there.true, c.out-1.given.1)

pub copy_into-requires-then-there : goal.copy_into-requires-then-there
copy_into-requires-then-there c =
    omega (arith, c.requires.4, identity-long c.args.there c.args.iaid.now c.args.duid.now c.if-there.true, c.out-1.given.1, c.copy_into.auto.out)

pub returns-then-there : goal.returns-then-there
unfolding hfi_extended
returns-then-there c =
    let a = c.args in
    let w = c.write_hfi_extended in
    let n = identity-long c.args.there c.args.iaid.now c.args.duid.now c.if-there.true in
    let k : a.at + 20 ≤ length a.out.now = omega (arith, c.requires.4, n) in
    let l : length w.new.part ≡ 20 = w.auto.part ∙ part-size a.out.now a.at 20 k in
    chain-laid (w.new.part ∷ a.iaid.now ∷ a.duid.now ∷ []) a.out.now a.at c.copy_into-then-there.new.out
    (omega (arith, three-long w.new.part a.iaid.now a.duid.now, l, n, c.requires.4)) (
      _,
      a.at,
      part-stored a.out.now a.at 20 w.new.part w.new.part k w.auto.part refl,
      refl,
      (
        c.copy_into.new.out,
        a.at + 20,
        c.copy_into.ensures,
        ap (λ (m : ℕ). a.at + m) (sym l),
        (
          c.copy_into-then-there.new.out,
          a.at + 20 + length a.iaid.now,
          c.copy_into-then-there.ensures,
          ap (λ (m : ℕ). a.at + m + length a.iaid.now) (sym l),
          refl,
        ),
      ),
    )
    ∙ ap (splice a.out.now a.at) (identity-some a.there a.iaid.now a.duid.now c.if-there.true a.extended.now a.at w.new.part w.ensures)

pub returns-else-there : goal.returns-else-there
returns-else-there c =
    let a = c.args in
    splice-none a.out.now a.at
    ∙ ap (splice a.out.now a.at) (sym (identity-none a.extended.now a.at a.there a.iaid.now a.duid.now c.if-there.false))
