-- The ways of printing by the numbers that stand for them: a caller may have a number, and any number has its way. Definitions, and what they compute.
use Rattle.std.specs.Prelude.{List, [], ◌∷◌, ℕ, get_or, ◌≡◌, refl}
use Rattle.show_table.specs.declared.forms.Form.{Form}
use Rattle.show_table.specs.declared.forms.Form.TheVariants.{Nothing, Single, Listed, Unused, Position, Number, Signed, Flag, IsTwo}
use Rattle.show_table.specs.declared.forms.Form.TheVariants.{Primary, Availability, Wanted, Chosen, Transport, Uuid, Hex, Address, Server}
use Rattle.show_table.specs.declared.forms.Form.TheVariants.{Mac, ShortPci, Pci, NotIndicated, NidType, Nid, NumberIf, Name, OrNull}
use Rattle.show_table.specs.declared.forms.Form.TheVariants.{OrOut, IfThere, Text, BytesText, Reached, Service, Bytes, Hfis, HfiCount}
use Rattle.show_table.specs.declared.forms.Form.TheVariants.{Positions}

-- from 0 on
abbrev pub forms : List Form
forms =
    Nothing ∷ Single ∷ Listed ∷ Unused ∷ Position ∷ Number ∷ Signed ∷ Flag ∷ IsTwo
    ∷ Primary ∷ Availability ∷ Wanted ∷ Chosen ∷ Transport ∷ Uuid ∷ Hex ∷ Address ∷ Server
    ∷ Mac ∷ ShortPci ∷ Pci ∷ NotIndicated ∷ NidType ∷ Nid ∷ NumberIf ∷ Name ∷ OrNull
    ∷ OrOut ∷ IfThere ∷ Text ∷ BytesText ∷ Reached ∷ Service ∷ Bytes ∷ Hfis ∷ HfiCount
    ∷ Positions
    ∷ []

-- the way of a number; any other number reads nothing
unfoldable pub form_of : ℕ → Form
form_of n = get_or forms n Nothing

-- ---- computed

pub no-way : form_of 0 ≡ Nothing
unfolding form_of
no-way = refl

pub first-way : form_of 1 ≡ Single
unfolding form_of
first-way = refl

pub way-of_null : form_of 26 ≡ OrNull
unfolding form_of
way-of_null = refl

pub last-way : form_of 36 ≡ Positions
unfolding form_of
last-way = refl

pub past-last : form_of 37 ≡ Nothing
unfolding form_of
past-last = refl
