use mathlib.Core.Path.{sym}
use native.Mathlib.Omega.{arith}
use lib.ListN.{get_or}
use Rattle.table.specs.FixedLayouts.{info, hfi_extended}
use Rattle.laws.specs.Fields.{image_in}
use Rattle.builder_hfi.proofs.Laws.{origin-is, no-identifier, from-dhcp, from-elsewhere}
use Rattle.builder_hfi.proofs.identity_fault.Goals as goal

pub returns-then-identity_flags-eq0 : goal.returns-then-identity_flags-eq0
returns-then-identity_flags-eq0 c =
    let a = c.args in
    no-identifier (image_in info a.info.now 0) (image_in hfi_extended a.extended.now 0) c.identity_flags.result (get_or a.info.now 19 0) c.identity_flags.ensures
    (sym (origin-is a.info.now (λ i. omega (arith, c.type_inv.info i)))) c.if-identity_flags-eq0.true

pub returns-then-info-eq-FROM_DHCP : goal.returns-then-info-eq-FROM_DHCP
returns-then-info-eq-FROM_DHCP c =
    let a = c.args in
    from-dhcp (image_in info a.info.now 0) (image_in hfi_extended a.extended.now 0) c.identity_flags.result (get_or a.info.now 19 0) c.identity_flags.ensures
    (sym (origin-is a.info.now (λ i. omega (arith, c.type_inv.info i)))) c.if-identity_flags-eq0.false c.if-info-eq-FROM_DHCP.true

pub returns : goal.returns
returns c =
    let a = c.args in
    from-elsewhere (image_in info a.info.now 0) (image_in hfi_extended a.extended.now 0) c.identity_flags.result (get_or a.info.now 19 0) c.identity_flags.ensures
    (sym (origin-is a.info.now (λ i. omega (arith, c.type_inv.info i)))) c.if-identity_flags-eq0.false c.if-info-eq-FROM_DHCP.false
