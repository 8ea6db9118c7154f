use Rattle.layout_needs.specs.Needs.{ssns_need}
use Rattle.reads_seats.proofs.ObjectLaws.{plain-need}
use Rattle.layout_needs.proofs.Laws.{ssns-need}
use Rattle.laws.specs.Fields.{image_in}
use Rattle.table.specs.FixedLayouts.{layout_of, ssns, security, hfi_extended}
use native.Mathlib.Omega.{arith}
use Prim.Native.Nat.{ℕ}
use mathlib.Core.Path.{ap, ◌∙◌}
use Rattle.reads_seats.proofs.objects.object_need.Goals as goal

pub ssns_flags-requires : goal.ssns_flags-requires
unfolding layout_of ssns
ssns_flags-requires c = omega (arith, rw c.in-4.is at c.requires.0)

pub security_need-requires : goal.security_need-requires
unfolding layout_of security
security_need-requires c = omega (arith, rw c.in-5.is at c.requires.0)

pub identity_need-requires : goal.identity_need-requires
unfolding layout_of hfi_extended
identity_need-requires c = omega (arith, rw c.in-10.is at c.requires.0)

pub returns-in-4 : goal.returns-in-4
unfolding layout_of
returns-in-4 c =
    rw c.in-4.is (c.ssns_need.ensures
    ∙ ap (λ (f : ℕ). ssns_need f c.args.offset) c.ssns_flags.ensures
    ∙ ssns-need (image_in ssns c.args.bytes.now 0) c.args.offset)

pub returns-in-5 : goal.returns-in-5
unfolding layout_of
returns-in-5 c = rw c.in-5.is c.security_need.ensures

pub returns-in-10 : goal.returns-in-10
unfolding layout_of
returns-in-10 c = rw c.in-10.is c.identity_need.ensures

pub returns-in_default : goal.returns-in_default
returns-in_default c =
    let a = c.args in
    let m = c.in_default.in_default-own.rest in
    c.plain_need.ensures
    ∙ plain-need a.offset (image_in (layout_of a.kind) a.bytes.now 0) a.kind m.0.0.1 m.0.1 m.1 c.requires.1
