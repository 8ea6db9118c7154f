use mathlib.Core.Path.{ap, sym, ◌∙◌}
use Prim.Native.Nat.{ℕ}
use Rattle.show_values.specs.Values.{field_text, primary_of, availability_of, wanted_of, chosen_of, transport_of, nid_type_of, nid_of}
use Rattle.text.specs.Numerals.{numeral, signed_numeral}
use Rattle.text_hex.specs.Hexadecimal.{pci_of, short_pci_of}
use Rattle.show_values.proofs.FormLaws.{field_text-other}
use Rattle.show_values.proofs.field_text.Goals as goal

pub returns-in-Signed : goal.returns-in-Signed
unfolding field_text
returns-in-Signed c = rw c.in-Signed.is (c.signed_decimal.ensures ∙ ap signed_numeral c.number_of.ensures.0)

pub returns-in-Flag : goal.returns-in-Flag
unfolding field_text
returns-in-Flag c = rw c.in-Flag.is (c.decimal.ensures.1 ∙ ap numeral c.bits_in.ensures)

pub returns-in-IsTwo : goal.returns-in-IsTwo
unfolding field_text
returns-in-IsTwo c = rw c.in-IsTwo.is c.is_two_text.ensures

pub returns-in-Primary : goal.returns-in-Primary
unfolding field_text
returns-in-Primary c = rw c.in-Primary.is (c.primary_text.ensures ∙ ap primary_of c.bits_in-in-Primary.ensures)

pub returns-in-Availability : goal.returns-in-Availability
unfolding field_text
returns-in-Availability c = rw c.in-Availability.is (c.availability_text.ensures ∙ ap availability_of c.bits_in-in-Availability.ensures)

pub returns-in-Wanted : goal.returns-in-Wanted
unfolding field_text
returns-in-Wanted c = rw c.in-Wanted.is (c.wanted_text.ensures ∙ ap wanted_of c.bits_in-in-Wanted.ensures)

pub returns-in-Chosen : goal.returns-in-Chosen
unfolding field_text
returns-in-Chosen c = rw c.in-Chosen.is (c.chosen_text.ensures ∙ ap chosen_of c.bits_in-in-Chosen.ensures)

pub returns-in-Transport : goal.returns-in-Transport
unfolding field_text
returns-in-Transport c = rw c.in-Transport.is (c.transport_text.ensures ∙ ap transport_of c.number_of-in-Transport.ensures.0)

pub returns-in-Uuid : goal.returns-in-Uuid
unfolding field_text
returns-in-Uuid c = rw c.in-Uuid.is c.uuid.ensures

pub returns-in-Hex : goal.returns-in-Hex
unfolding field_text
returns-in-Hex c = rw c.in-Hex.is c.hexes.ensures

pub returns-in-Address : goal.returns-in-Address
unfolding field_text
returns-in-Address c = rw c.in-Address.is c.address.ensures

pub returns-in-Server : goal.returns-in-Server
unfolding field_text
returns-in-Server c = rw c.in-Server.is c.server_text.ensures

pub returns-in-Mac : goal.returns-in-Mac
unfolding field_text
returns-in-Mac c = rw c.in-Mac.is c.mac.ensures

pub returns-in-ShortPci : goal.returns-in-ShortPci
unfolding field_text
returns-in-ShortPci c = rw c.in-ShortPci.is (c.short_pci.ensures ∙ ap short_pci_of c.number_of-in-ShortPci.ensures.0)

pub returns-in-Pci : goal.returns-in-Pci
unfolding field_text
returns-in-Pci c = rw c.in-Pci.is (c.pci.ensures ∙ ap pci_of c.number_of-in-Pci.ensures.0)

pub returns-in-NotIndicated : goal.returns-in-NotIndicated
unfolding field_text
returns-in-NotIndicated c = rw c.in-NotIndicated.is c.not_indicated_text.ensures

pub returns-in-NidType : goal.returns-in-NidType
unfolding field_text
returns-in-NidType c = rw c.in-NidType.is (c.nid_type_text.ensures ∙ ap nid_type_of c.number_of-in-NidType.ensures.0)

pub returns-in-Nid : goal.returns-in-Nid
unfolding field_text
returns-in-Nid c =
    let x = c.args.x.now in
    rw c.in-Nid.is (c.nid_text.ensures ∙ ap (λ (n : ℕ). nid_of n x) c.number_of-in-Nid.ensures.0)

pub returns-in-NumberIf : goal.returns-in-NumberIf
unfolding field_text
returns-in-NumberIf c = rw c.in-NumberIf.is c.number_if_text.ensures

pub returns-in_default : goal.returns-in_default
returns-in_default c =
    let x = c.args.x.now in
    let o = c.in_default in
    c.decimal-in_default.ensures.1 ∙ ap numeral c.number_of-in_default.ensures.0 ∙ sym (field_text-other c.args.form c.args.weight x c.args.y.now
    o.not-Signed o.not-Flag o.not-IsTwo o.not-Primary o.not-Availability o.not-Wanted o.not-Chosen o.not-Transport o.not-Uuid o.not-Hex
    o.not-Address o.not-Server o.not-Mac o.not-ShortPci o.not-Pci o.not-NotIndicated o.not-NidType o.not-Nid o.not-NumberIf)
