use Rattle.table.specs.Bytes.{splice}
use lib.ListN.{replicate}
use Prim.Native.Nat.{ℕ}
use mathlib.Core.Path.{refl, ap, ◌∙◌}
use Rattle.rewriter_records.proofs.lay_unused.Goals as goal

pub returns : goal.returns
returns c =
    let a = c.args in (
      refl,
      c.fill_zero.ensures
          ∙ ap (λ (n : ℕ). splice a.out.now a.place (replicate n 0)) c.base_size-size.ensures,
    )
