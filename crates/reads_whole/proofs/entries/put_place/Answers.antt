use Rattle.reads_whole.specs.Whole.{place_bytes}
use Rattle.bytes_writer.proofs.StoreLaws.{splice-next}
use Rattle.table.specs.Objects.{ref6}
use Rattle.table.specs.Bytes.{splice}
use native.Mathlib.Omega.{arith}
use Prim.Native.Nat.{ℕ, ◌+◌}
use mathlib.Core.List.{[], ◌∷◌, ◌++◌}
use mathlib.Core.Path.{refl, ap, ◌∙◌}
use Rattle.reads_whole.proofs.entries.put_place.Goals as goal

pub returns : goal.returns
unfolding place_bytes
returns c =
    let a = c.args in
    let named = ref6 a.place.at a.place.len in
    let first = splice-next a.part.now c.put_ref.new.part c.put_u8.new.part a.at (a.at + 6) named
    (c.bit.result ∷ []) (omega (arith, c.requires)) refl c.put_ref.ensures c.put_u8.ensures in
    splice-next a.part.now c.put_u8.new.part c.put_u8-2.new.part a.at (a.at + 7)
    (named ++ (c.bit.result ∷ [])) (0 ∷ []) (omega (arith, c.requires)) refl first c.put_u8-2.ensures
    ∙ ap (λ (b : ℕ). splice a.part.now a.at (named ++ (b ∷ 0 ∷ []))) c.bit.ensures
