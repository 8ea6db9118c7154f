use Rattle.builder_begin.proofs.BeginLaws.{header-length, control-length, four-long, opened-laid}
use Rattle.bytes_writer.proofs.StoreLaws.{concat, chain-laid}
use Rattle.bytes_front.specs.Front.{header_for, control_for}
use Rattle.table.specs.Bytes.{splice}
use lib.ListN.{length, replicate, length-replicate}
use Prim.Native.Nat.{ℕ, ◌+◌, ◌-◌}
use mathlib.Core.List.{[], ◌∷◌}
use mathlib.Core.Path.{◌≡◌, refl, ap, ◌∙◌}
use native.Mathlib.Omega.{arith}
use borrow.Author.Rules.{rules}
use Rattle.builder_begin.proofs.lay_opened.Goals as goal

pub returns : goal.returns
returns c =
    let a = c.args in
    let b = a.out.now in
    let ol : length a.oem ≡ 26 = search rules in
    let hl = header-length 0 a.oem a.heap 0 (length a.signature.now) 0 ol in
    let cl = control-length a.counts.hfi a.counts.ssns a.counts.security a.counts.discovery in
    let H = header_for 0 a.oem a.heap 0 (length a.signature.now) 0 in
    let C = control_for (a.counts.hfi ∷ a.counts.ssns ∷ a.counts.security ∷ a.counts.discovery ∷ []) in
    let Z = replicate {A = ℕ} (a.heap - 128) 0 in
    let zl = length-replicate {A = ℕ} (a.heap - 128) 0 in
    let sl : length (concat (H ∷ C ∷ Z ∷ a.signature.now ∷ [])) ≡ a.heap + length a.signature.now = four-long H
    C Z a.signature.now ∙ omega (arith, hl, cl, zl, c.requires.1) in
    chain-laid (H ∷ C ∷ Z ∷ a.signature.now ∷ []) b 0 c.copy_into.new.out (omega (arith, sl, c.requires.2)) (
      splice b 0 H,
      0,
      refl,
      refl,
      (
        c.write_front.new.out,
        64,
        c.write_front.ensures,
        omega (arith, hl),
        (
          c.fill_zero.new.out,
          128,
          c.fill_zero.ensures,
          omega (arith, hl, cl),
          (
            c.copy_into.new.out,
            a.heap,
            c.copy_into.ensures,
            omega (arith, hl, cl, zl, c.requires.1),
            refl,
          ),
        ),
      ),
    )
    ∙ ap (splice b 0) (opened-laid a.oem a.counts c.requires.3 a.signature.now a.heap c.requires.0)
