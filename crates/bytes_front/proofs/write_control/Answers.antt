use lib.ListN.{length}
use native.Mathlib.Omega.{arith}
use Prim.Native.Nat.{◌+◌, ◌*◌}
use mathlib.Core.Path.{◌≡◌, refl, ◌∙◌}
use Rattle.bytes_front.specs.Front.{entry_for}
use Rattle.bytes_writer.proofs.StoreLaws.{chain-laid, concat}
use Rattle.bytes_writer.proofs.RecordLaws.{splice_all}
use Rattle.bytes_front.proofs.FrontLaws.{control_pieces, length-entry, control-long, control-joined}
use Rattle.bytes_front.proofs.write_control.Goals as goal

pub fill_zero-requires : goal.fill_zero-requires
fill_zero-requires c =
    omega (
      arith,
      c.requires,
      c.copy_into.auto.out,
      c.put_place.auto.part,
      c.put_entry.auto.part,
      c.put_entry-2.auto.part,
      c.put_entry-3.auto.part,
      c.put_entry-4.auto.part,
    )

-- the stores in a row are one list (chain-laid); each list entry begins where the one before it ends, by its count and base size
pub returns : goal.returns
returns c =
    let a = c.args in
    let h = a.counts.hfi in
    let n = a.counts.ssns in
    let k = a.counts.security in
    let d = a.counts.discovery in
    let p0 = c.copy_into in
    let p1 = c.put_place in
    let p2 = c.put_entry in
    let p3 = c.put_entry-2 in
    let p4 = c.put_entry-3 in
    let p5 = c.put_entry-4 in
    let p6 = c.fill_zero in
    let l = control-long h n k d in
    let e₂ = length-entry 160 32 h in
    let e₃ = length-entry (160 + h * 32) 128 n in
    let e₄ = length-entry (160 + h * 32 + n * 128) 64 k in
    let e₅ = length-entry (160 + h * 32 + n * 128 + k * 64) 32 d in
    let w3 : 24 ≡ 16 + length (entry_for 160 32 h) = omega (arith, e₂) in
    let w4 : 32 ≡ 16 + length (entry_for 160 32 h) + length (entry_for (160 + h * 32) 128 n) = omega (arith, e₂, e₃) in
    let w5 : 40 ≡ 16 + length (entry_for 160 32 h) + length (entry_for (160 + h * 32) 128 n) + length
    (entry_for (160 + h * 32 + n * 128) 64 k) = omega (arith, e₂, e₃, e₄) in
    let w6 : 48 ≡ 16 + length (entry_for 160 32 h) + length (entry_for (160 + h * 32) 128 n) + length
    (entry_for (160 + h * 32 + n * 128) 64 k) + length (entry_for (160 + h * 32 + n * 128 + k * 64) 32 d) =
    omega (arith, e₂, e₃, e₄, e₅) in
    chain-laid (control_pieces h n k d) a.part.now 0 p6.new.out (omega (arith, l, c.requires)) (
      p0.new.out,
      0,
      p0.ensures,
      refl,
      (
        p1.new.part,
        8,
        p1.ensures,
        refl,
        (
          p2.new.part,
          16,
          p2.ensures,
          refl,
          (
            p3.new.part,
            24,
            p3.ensures,
            w3,
            (
              p4.new.part,
              32,
              p4.ensures,
              w4,
              (p5.new.part, 40, p5.ensures, w5, (p6.new.out, 48, p6.ensures, w6, refl)),
            ),
          ),
        ),
      ),
    )
    ∙ splice_all a.part.now (concat (control_pieces h n k d)) (omega (arith, l, c.requires))
    ∙ control-joined h n k d
