use mathlib.Core.Path.{ap, ◌∙◌}
use mathlib.Core.List.{List, [], ◌∷◌}
use Prim.Native.Nat.{ℕ}
use lib.ListN.{take}
use Rattle.table.specs.Bytes.{checksum, splice}
use Rattle.table.specs.Closing.{mended}
use Rattle.closer.proofs.finish.Goals as goal

pub returns : goal.returns
unfolding mended
returns c =
    let a = c.args in
    let e = c.put_u8.ensures ∙ ap (λ (x : List ℕ). splice x 9 (0 ∷ [])) c.put_u32.ensures in
    c.seal.ensures ∙ ap (λ (x : List ℕ). splice x 9 (checksum (take a.size x) ∷ [])) e
