use mathlib.Core.Path.{ap, ap₂, ◌∙◌}
use Prim.Native.Nat.{ℕ}
use Rattle.table.specs.declared.Need.{Need}
use Rattle.table.specs.Layout.{anything}
use Rattle.table.specs.Rules.{first_of}
use Rattle.laws.specs.TextLaws.{told_fault}
use Rattle.builder_security.proofs.security_fault.Goals as goal

pub returns : goal.returns
returns c =
    c.first_of-2.ensures
    ∙ ap₂ (λ (x y : ℕ). first_of x y) (c.fits-5.ensures
    ∙ ap (λ (n : Need). told_fault n anything c.args.algorithms.now) c.security_need-5.ensures)
    (c.first_of.ensures
    ∙ ap₂ (λ (x y : ℕ). first_of x y) (c.fits-6.ensures
    ∙ ap (λ (n : Need). told_fault n anything c.args.protocols.now)
    c.security_need-6.ensures) (c.first_of-rest.ensures
    ∙ ap₂ (λ (x y : ℕ). first_of x y) (c.fits-4.ensures
    ∙ ap (λ (n : Need). told_fault n anything c.args.ciphers.now) c.security_need-4.ensures)
    (c.first_of-late.ensures
    ∙ ap₂ (λ (x y : ℕ). first_of x y) (c.fits-3.ensures
    ∙ ap (λ (n : Need). told_fault n anything c.args.groups.now) c.security_need-3.ensures)
    (c.first_of-last.ensures
    ∙ ap₂ (λ (x y : ℕ). first_of x y) (c.fits.ensures
    ∙ ap (λ (n : Need). told_fault n anything c.args.hashes.now) c.security_need.ensures)
    (c.fits-2.ensures
    ∙ ap (λ (n : Need). told_fault n anything c.args.keypath.now) c.security_need-2.ensures)))))
