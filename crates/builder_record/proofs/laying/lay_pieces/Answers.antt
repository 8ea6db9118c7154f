use Rattle.builder_record.proofs.LayLaws.{six-long}
use Rattle.bytes_writer.proofs.StoreLaws.{chain-laid}
use lib.ListN.{length}
use Prim.Native.Nat.{◌+◌}
use mathlib.Core.List.{[], ◌∷◌}
use mathlib.Core.Path.{refl}
use native.Mathlib.Omega.{arith}
use Rattle.builder_record.proofs.laying.lay_pieces.Goals as goal

pub copy_into-requires : goal.copy_into-requires
copy_into-requires c =
    let n = six-long c.args.first.now c.args.second.now c.args.third.now
    c.args.fourth.now c.args.fifth.now c.args.sixth.now in
    omega (arith, n, c.requires)

pub overflow_add-at2 : goal.overflow_add-at2
overflow_add-at2 c =
    let n = six-long c.args.first.now c.args.second.now c.args.third.now
    c.args.fourth.now c.args.fifth.now c.args.sixth.now in
    omega (arith, n, c.requires)

pub copy_into-requires-2 : goal.copy_into-requires-2
copy_into-requires-2 c =
    let n = six-long c.args.first.now c.args.second.now c.args.third.now
    c.args.fourth.now c.args.fifth.now c.args.sixth.now in
    omega (arith, n, c.requires, c.copy_into.auto.out)

pub overflow_add-at3 : goal.overflow_add-at3
overflow_add-at3 c =
    let n = six-long c.args.first.now c.args.second.now c.args.third.now
    c.args.fourth.now c.args.fifth.now c.args.sixth.now in
    omega (arith, n, c.requires)

pub copy_into-requires-3 : goal.copy_into-requires-3
copy_into-requires-3 c =
    let n = six-long c.args.first.now c.args.second.now c.args.third.now
    c.args.fourth.now c.args.fifth.now c.args.sixth.now in
    omega (arith, n, c.requires, c.copy_into.auto.out, c.copy_into-2.auto.out)

pub overflow_add-at4 : goal.overflow_add-at4
overflow_add-at4 c =
    let n = six-long c.args.first.now c.args.second.now c.args.third.now
    c.args.fourth.now c.args.fifth.now c.args.sixth.now in
    omega (arith, n, c.requires)

pub copy_into-requires-4 : goal.copy_into-requires-4
copy_into-requires-4 c =
    let n = six-long c.args.first.now c.args.second.now c.args.third.now
    c.args.fourth.now c.args.fifth.now c.args.sixth.now in
    omega (
      arith,
      n,
      c.requires,
      c.copy_into.auto.out,
      c.copy_into-2.auto.out,
      c.copy_into-3.auto.out,
    )

pub overflow_add-at5 : goal.overflow_add-at5
overflow_add-at5 c =
    let n = six-long c.args.first.now c.args.second.now c.args.third.now
    c.args.fourth.now c.args.fifth.now c.args.sixth.now in
    omega (arith, n, c.requires)

pub copy_into-requires-5 : goal.copy_into-requires-5
copy_into-requires-5 c =
    let n = six-long c.args.first.now c.args.second.now c.args.third.now
    c.args.fourth.now c.args.fifth.now c.args.sixth.now in
    omega (
      arith,
      n,
      c.requires,
      c.copy_into.auto.out,
      c.copy_into-2.auto.out,
      c.copy_into-3.auto.out,
      c.copy_into-4.auto.out,
    )

pub overflow_add-at5-2 : goal.overflow_add-at5-2
overflow_add-at5-2 c =
    let n = six-long c.args.first.now c.args.second.now c.args.third.now
    c.args.fourth.now c.args.fifth.now c.args.sixth.now in
    omega (arith, n, c.requires)

pub copy_into-requires-6 : goal.copy_into-requires-6
copy_into-requires-6 c =
    let n = six-long c.args.first.now c.args.second.now c.args.third.now
    c.args.fourth.now c.args.fifth.now c.args.sixth.now in
    omega (
      arith,
      n,
      c.requires,
      c.copy_into.auto.out,
      c.copy_into-2.auto.out,
      c.copy_into-3.auto.out,
      c.copy_into-4.auto.out,
      c.copy_into-5.auto.out,
    )

-- six copies in a row: each begins where the one before it ends, so that together they are one list (chain-laid)
pub returns : goal.returns
returns c =
    let a = c.args in
    chain-laid (a.first.now ∷ a.second.now ∷ a.third.now ∷ a.fourth.now ∷ a.fifth.now ∷ a.sixth.now ∷ [])
    a.out.now a.next c.copy_into-6.new.out c.requires (
      c.copy_into.new.out,
      a.next,
      c.copy_into.ensures,
      refl,
      (
        c.copy_into-2.new.out,
        a.next + length a.first.now,
        c.copy_into-2.ensures,
        refl,
        (
          c.copy_into-3.new.out,
          a.next + length a.first.now + length a.second.now,
          c.copy_into-3.ensures,
          refl,
          (
            c.copy_into-4.new.out,
            a.next + length a.first.now + length a.second.now + length a.third.now,
            c.copy_into-4.ensures,
            refl,
            (
              c.copy_into-5.new.out,
              a.next + length a.first.now + length a.second.now + length a.third.now
                  + length a.fourth.now,
              c.copy_into-5.ensures,
              refl,
              (
                c.copy_into-6.new.out,
                a.next + length a.first.now + length a.second.now + length a.third.now
                    + length a.fourth.now + length a.fifth.now,
                c.copy_into-6.ensures,
                refl,
                refl,
              ),
            ),
          ),
        ),
      ),
    )
