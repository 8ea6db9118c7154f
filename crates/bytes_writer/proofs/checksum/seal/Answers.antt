use Rattle.table.specs.Bytes.{splice, total}
use lib.ListN.{take}
use native.Mathlib.Nat.{sub-zero}
use Prim.Native.Nat.{ℕ, ◌-◌, ◌%◌}
use mathlib.Core.List.{[], ◌∷◌}
use mathlib.Core.Path.{ap, ◌∙◌}
use Rattle.bytes_writer.proofs.checksum.seal.Goals as goal

pub returns : goal.returns
returns c =
    let a = c.args in
    c.put_u8.ensures
    ∙ ap (λ (x : ℕ). splice a.out.now 9 (x ∷ [])) (c.low.ensures
    ∙ ap (λ (s : ℕ). (256 - s) % 256) (c.wide.ensures.0
    ∙ c.sum8-sum.ensures
    ∙ ap (λ (m : ℕ). total (take m a.out.now) % 256) (sub-zero a.size)))
