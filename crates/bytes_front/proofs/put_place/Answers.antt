use mathlib.Core.Path.{◌≡◌, refl}
use mathlib.Core.List.{[], ◌∷◌}
use Prim.Native.Nat.{◌+◌}
use native.Mathlib.Omega.{arith}
use Rattle.table.specs.Bytes.{le}
use Rattle.bytes_writer.proofs.StoreLaws.{chain-laid}
use Rattle.bytes_front.proofs.put_place.Goals as goal

pub returns : goal.returns
returns c =
    let a = c.args in
    let p0 = c.put_u32 in
    let p1 = c.put_u16 in
    let p2 = c.put_u8 in
    let p3 = c.put_u8-2 in
    let w2 : a.at + 6 ≡ a.at + 4 + 2 = omega arith in
    let w3 : a.at + 7 ≡ a.at + 4 + 2 + 1 = omega arith in
    chain-laid (le 4 a.place ∷ le 2 a.size ∷ (1 ∷ []) ∷ (a.last ∷ []) ∷ []) a.part.now a.at p3.new.part
    c.requires (
      p0.new.part,
      a.at,
      p0.ensures,
      refl,
      (
        p1.new.part,
        a.at + 4,
        p1.ensures,
        refl,
        (p2.new.part, a.at + 6, p2.ensures, w2, (p3.new.part, a.at + 7, p3.ensures, w3, refl)),
      ),
    )
