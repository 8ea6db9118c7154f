use mathlib.Core.Path.{ap, ap₂, ◌∙◌}
use Prim.Native.Nat.{ℕ}
use Rattle.table.specs.declared.Need.{Need}
use Rattle.table.specs.Layout.{anything}
use Rattle.table.specs.Rules.{first_of}
use Rattle.laws.specs.TextLaws.{told_fault}
use Rattle.builder_hfi.proofs.object_fault.Goals as goal

pub returns : goal.returns
returns c =
    let a = c.args in
    c.first_of.ensures
    ∙ ap₂ (λ (x y : ℕ). first_of x y) c.fits_text.ensures (c.first_of-identity.ensures
    ∙ ap₂ (λ (x y : ℕ). first_of x y) (c.fits.ensures ∙ ap (λ (n : Need). told_fault n anything a.iaid.now) c.own_need-need.ensures)
    (c.fits-2.ensures ∙ ap (λ (n : Need). told_fault n anything a.duid.now) c.own_need-need.ensures))
