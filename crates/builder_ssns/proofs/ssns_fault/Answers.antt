use mathlib.Core.Path.{ap, ap₂, ◌∙◌}
use Prim.Native.Nat.{ℕ}
use Rattle.table.specs.declared.Need.{Need}
use Rattle.table.specs.Layout.{text}
use Rattle.table.specs.Rules.{first_of}
use Rattle.laws.specs.TextLaws.{told_fault}
use Rattle.builder_ssns.proofs.ssns_fault.Goals as goal

pub returns : goal.returns
returns c =
    c.first_of-2.ensures
    ∙ ap₂ (λ (x y : ℕ). first_of x y) c.fits-2.ensures (c.first_of.ensures
    ∙ ap₂ (λ (x y : ℕ). first_of x y) c.fits-3.ensures (c.first_of-rest.ensures
    ∙ ap₂ (λ (x y : ℕ). first_of x y) (c.first_of-listed.ensures
    ∙ ap₂ (λ (x y : ℕ). first_of x y) c.fits.ensures c.positions_fault.ensures)
    (c.first_of-last.ensures
    ∙ ap₂ (λ (x y : ℕ). first_of x y) c.fits_text.ensures (c.fits_text-2.ensures
    ∙ ap (λ (n : Need). told_fault n text c.args.path.now) c.own_need.ensures))))
