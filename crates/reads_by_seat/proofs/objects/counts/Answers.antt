use Rattle.std.proofs.Common.{Bool, true, false, ap, ◌∙◌, arith}
use Rattle.table.specs.declared.Need.{Need}
use Rattle.table.specs.FixedLayouts.{layout_of, security, hfi_extended}
use Rattle.table.specs.Objects.{under}
use Rattle.laws.specs.Fields.{image_in}
use Rattle.reads_by_seat.proofs.ObjectLaws.{never-ignored}
use Rattle.reads_by_seat.proofs.objects.counts.Goals as goal

pub security_need-requires : goal.security_need-requires
unfolding layout_of security
security_need-requires c = omega (arith, rw c.in-5.is at c.requires.0)

pub identity_need-requires : goal.identity_need-requires
unfolding layout_of hfi_extended
identity_need-requires c = omega (arith, rw c.in-10.is at c.requires.0)

pub returns-in-5 : goal.returns-in-5
unfolding layout_of
returns-in-5 c = rw c.in-5.is (c.heeds.ensures ∙ ap (λ (n : Need). under {X = Bool} n false true) c.security_need.ensures)

pub returns-in-10 : goal.returns-in-10
unfolding layout_of
returns-in-10 c = rw c.in-10.is (c.heeds-in-10.ensures ∙ ap (λ (n : Need). under {X = Bool} n false true) c.identity_need.ensures)

pub returns-in_default : goal.returns-in_default
returns-in_default c =
    let a = c.args in
    never-ignored a.kind a.offset (image_in (layout_of a.kind) a.bytes.now 0) c.in_default.in_default-own.rest.0.1 c.in_default.in_default-own.rest.1 c.requires.1
