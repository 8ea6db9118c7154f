use lib.ListN.{length}
use native.Mathlib.Omega.{arith}
use Prim.Native.Nat.{◌+◌}
use mathlib.Core.Path.{◌≡◌, refl, ◌∙◌}
use Rattle.bytes_writer.specs.Stores.{ref_num}
use Rattle.bytes_writer.proofs.StoreLaws.{chain-laid, concat}
use Rattle.bytes_writer.proofs.RecordLaws.{length-ref, splice_all}
use Rattle.bytes_front.proofs.FrontLaws.{header_pieces, header-long, header-joined}
use Rattle.bytes_front.proofs.write_header.Goals as goal

pub put_u8-requires-3 : goal.put_u8-requires-3
put_u8-requires-3 c =
    omega (
      arith,
      c.requires,
      c.put_u32.auto.part,
      c.put_u32-2.auto.part,
      c.put_u8.auto.part,
      c.put_u8-2.auto.part,
      c.copy_into.auto.out,
      c.put_u32-3.auto.part,
      c.put_u32-4.auto.part,
      c.put_slot.auto.part,
    )

pub fill_zero-requires : goal.fill_zero-requires
fill_zero-requires c =
    omega (
      arith,
      c.requires,
      c.put_u32.auto.part,
      c.put_u32-2.auto.part,
      c.put_u8.auto.part,
      c.put_u8-2.auto.part,
      c.copy_into.auto.out,
      c.put_u32-3.auto.part,
      c.put_u32-4.auto.part,
      c.put_slot.auto.part,
      c.put_u8-3.auto.part,
    )

pub shape_of-part : goal.shape_of-part
shape_of-part c =
    c.fill_zero.auto.out
    ∙ c.put_u8-3.auto.part
    ∙ c.put_slot.auto.part
    ∙ c.put_u32-4.auto.part
    ∙ c.put_u32-3.auto.part
    ∙ c.copy_into.auto.out
    ∙ c.put_u8-2.auto.part
    ∙ c.put_u8.auto.part
    ∙ c.put_u32-2.auto.part
    ∙ c.put_u32.auto.part

-- ten stores in a row: each begins where the one before it ends, so that together they are one list (chain-laid)
pub returns : goal.returns
returns c =
    let a = c.args in
    let p0 = c.put_u32 in
    let p1 = c.put_u32-2 in
    let p2 = c.put_u8 in
    let p3 = c.put_u8-2 in
    let p4 = c.copy_into in
    let p5 = c.put_u32-3 in
    let p6 = c.put_u32-4 in
    let p7 = c.put_slot in
    let p8 = c.put_u8-3 in
    let p9 = c.fill_zero in
    let o = a.oem.now in
    let ps = header_pieces a.size o a.heap a.heapsize a.signature a.minor in
    let l = header-long a.size o a.heap a.heapsize a.signature a.minor c.requires.oem_len in
    let w5 : 36 ≡ 10 + length o = omega (arith, c.requires) in
    let w6 : 40 ≡ 10 + length o + 4 = omega (arith, c.requires) in
    let w7 : 44 ≡ 10 + length o + 4 + 4 = omega (arith, c.requires) in
    let w8 : 50 ≡ 10 + length o + 4 + 4 + length (ref_num a.heap a.signature) =
    omega (arith, c.requires, length-ref a.heap a.signature) in
    let w9 : 51 ≡ 10 + length o + 4 + 4 + length (ref_num a.heap a.signature) + 1 = omega (arith, w8) in
    chain-laid ps a.part.now 0 p9.new.out (omega (arith, l, c.requires)) (
      p0.new.part,
      0,
      p0.ensures,
      refl,
      (
        p1.new.part,
        4,
        p1.ensures,
        refl,
        (
          p2.new.part,
          8,
          p2.ensures,
          refl,
          (
            p3.new.part,
            9,
            p3.ensures,
            refl,
            (
              p4.new.out,
              10,
              p4.ensures,
              refl,
              (
                p5.new.part,
                36,
                p5.ensures,
                w5,
                (
                  p6.new.part,
                  40,
                  p6.ensures,
                  w6,
                  (
                    p7.new.part,
                    44,
                    p7.ensures,
                    w7,
                    (
                      p8.new.part,
                      50,
                      p8.ensures,
                      w8,
                      (p9.new.out, 51, p9.ensures, w9, refl),
                    ),
                  ),
                ),
              ),
            ),
          ),
        ),
      ),
    )
    ∙ splice_all a.part.now (concat ps) (omega (arith, l, c.requires))
    ∙ header-joined a.size o a.heap a.heapsize a.signature a.minor
