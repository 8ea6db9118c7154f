-- What the ways of printing that are not named give. Assumes nothing.
use Rattle.std.proofs.Common.{◌≡◌, refl, ap, Bool, true, false, List, ℕ}
use mathlib.Core.Logic.{◌⊎◌, inl, inr}
use Rattle.text.specs.Numerals.{numeral}
use Rattle.show_table.specs.declared.forms.Form.{Form}
use Rattle.show_table.specs.declared.forms.Form.TheVariants.{Position, Number, Signed, Flag, IsTwo, Primary, Availability, Wanted, Chosen, Transport, Uuid, Hex}
use Rattle.show_table.specs.declared.forms.Form.TheVariants.{Address, Server, Mac, ShortPci, Pci, NotIndicated, NidType, Nid, NumberIf, OrNull, OrOut, IfThere, HfiCount}
use Rattle.show_values.specs.Values.{field_text, number_of, is_null, left_out, quoted}

pub is_null-other : (f : Form) (n : ℕ) (there : Bool) → (f ≡ OrNull → ⊥) → (f ≡ IfThere → ⊥) → false ≡ is_null f n there
unfolding is_null
is_null-other OrNull n there a b = absurd (a refl)
is_null-other IfThere n there a b = absurd (b refl)
is_null-other f n there a b = refl

pub left_out-other : (f : Form) (n : ℕ) → (f ≡ OrOut → ⊥) → (f ≡ NidType → ⊥) → false ≡ left_out f n
unfolding left_out
left_out-other OrOut n a b = absurd (a refl)
left_out-other NidType n a b = absurd (b refl)
left_out-other f n a b = refl

pub quoted-other : (f : Form)
    → (f ≡ Position → ⊥) → (f ≡ Number → ⊥) → (f ≡ Signed → ⊥) → (f ≡ Flag → ⊥) → (f ≡ IsTwo → ⊥) → (f ≡ NumberIf → ⊥) → (f ≡ OrNull → ⊥) → (f ≡ OrOut → ⊥) → (f ≡ IfThere → ⊥) → (f ≡ HfiCount → ⊥)
    → quoted f ≡ true
unfolding quoted
quoted-other Position other _ _ _ _ _ _ _ _ _ = absurd (other refl)
quoted-other Number _ other _ _ _ _ _ _ _ _ = absurd (other refl)
quoted-other Signed _ _ other _ _ _ _ _ _ _ = absurd (other refl)
quoted-other Flag _ _ _ other _ _ _ _ _ _ = absurd (other refl)
quoted-other IsTwo _ _ _ _ other _ _ _ _ _ = absurd (other refl)
quoted-other NumberIf _ _ _ _ _ other _ _ _ _ = absurd (other refl)
quoted-other OrNull _ _ _ _ _ _ other _ _ _ = absurd (other refl)
quoted-other OrOut _ _ _ _ _ _ _ other _ _ = absurd (other refl)
quoted-other IfThere _ _ _ _ _ _ _ _ other _ = absurd (other refl)
quoted-other HfiCount _ _ _ _ _ _ _ _ _ other = absurd (other refl)
quoted-other f _ _ _ _ _ _ _ _ _ _ = refl

-- eight ways whose values are numbers, before the rest P
quoted-eight : {P : Type 0} (f : Form)
    → ((f ≡ Position) ⊎ ((f ≡ Number) ⊎ ((f ≡ Signed) ⊎ ((f ≡ Flag) ⊎ ((f ≡ IsTwo) ⊎ ((f ≡ NumberIf) ⊎ ((f ≡ OrNull) ⊎ ((f ≡ OrOut) ⊎ P))))))))
    → (P → quoted f ≡ false) → quoted f ≡ false
unfolding quoted
quoted-eight f (inl e) rest = ap quoted e
quoted-eight f (inr (inl e)) rest = ap quoted e
quoted-eight f (inr (inr (inl e))) rest = ap quoted e
quoted-eight f (inr (inr (inr (inl e)))) rest = ap quoted e
quoted-eight f (inr (inr (inr (inr (inl e))))) rest = ap quoted e
quoted-eight f (inr (inr (inr (inr (inr (inl e)))))) rest = ap quoted e
quoted-eight f (inr (inr (inr (inr (inr (inr (inl e))))))) rest = ap quoted e
quoted-eight f (inr (inr (inr (inr (inr (inr (inr (inl e)))))))) rest = ap quoted e
quoted-eight f (inr (inr (inr (inr (inr (inr (inr (inr p)))))))) rest = rest p

-- numbers stand without quotation marks
pub quoted-number : (f : Form)
    → ((f ≡ Position) ⊎ ((f ≡ Number) ⊎ ((f ≡ Signed) ⊎ ((f ≡ Flag) ⊎ ((f ≡ IsTwo) ⊎ ((f ≡ NumberIf) ⊎ ((f ≡ OrNull) ⊎ ((f ≡ OrOut) ⊎ ((f ≡ IfThere) ⊎ (f ≡ HfiCount))))))))))
    → quoted f ≡ false
unfolding quoted
quoted-number f among = quoted-eight f among (λ last. elim last [ inl e ↦ ap quoted e | inr e ↦ ap quoted e ])

-- all of them but the count of HFIs
pub quoted-uncounted : (f : Form)
    → ((f ≡ Position) ⊎ ((f ≡ Number) ⊎ ((f ≡ Signed) ⊎ ((f ≡ Flag) ⊎ ((f ≡ IsTwo) ⊎ ((f ≡ NumberIf) ⊎ ((f ≡ OrNull) ⊎ ((f ≡ OrOut) ⊎ (f ≡ IfThere)))))))))
    → quoted f ≡ false
unfolding quoted
quoted-uncounted f among = quoted-eight f among (ap quoted)

pub field_text-other : (f : Form) (w : ℕ) (x y : List ℕ)
    → (f ≡ Signed → ⊥) → (f ≡ Flag → ⊥) → (f ≡ IsTwo → ⊥) → (f ≡ Primary → ⊥) → (f ≡ Availability → ⊥) → (f ≡ Wanted → ⊥) → (f ≡ Chosen → ⊥) → (f ≡ Transport → ⊥) → (f ≡ Uuid → ⊥) → (f ≡ Hex → ⊥)
    → (f ≡ Address → ⊥) → (f ≡ Server → ⊥) → (f ≡ Mac → ⊥) → (f ≡ ShortPci → ⊥) → (f ≡ Pci → ⊥) → (f ≡ NotIndicated → ⊥) → (f ≡ NidType → ⊥) → (f ≡ Nid → ⊥) → (f ≡ NumberIf → ⊥)
    → field_text f w x y ≡ numeral (number_of x)
unfolding field_text
field_text-other Signed w x y other _ _ _ _ _ _ _ _ _ _ _ _ _ _ _ _ _ _ = absurd (other refl)
field_text-other Flag w x y _ other _ _ _ _ _ _ _ _ _ _ _ _ _ _ _ _ _ = absurd (other refl)
field_text-other IsTwo w x y _ _ other _ _ _ _ _ _ _ _ _ _ _ _ _ _ _ _ = absurd (other refl)
field_text-other Primary w x y _ _ _ other _ _ _ _ _ _ _ _ _ _ _ _ _ _ _ = absurd (other refl)
field_text-other Availability w x y _ _ _ _ other _ _ _ _ _ _ _ _ _ _ _ _ _ _ = absurd (other refl)
field_text-other Wanted w x y _ _ _ _ _ other _ _ _ _ _ _ _ _ _ _ _ _ _ = absurd (other refl)
field_text-other Chosen w x y _ _ _ _ _ _ other _ _ _ _ _ _ _ _ _ _ _ _ = absurd (other refl)
field_text-other Transport w x y _ _ _ _ _ _ _ other _ _ _ _ _ _ _ _ _ _ _ = absurd (other refl)
field_text-other Uuid w x y _ _ _ _ _ _ _ _ other _ _ _ _ _ _ _ _ _ _ = absurd (other refl)
field_text-other Hex w x y _ _ _ _ _ _ _ _ _ other _ _ _ _ _ _ _ _ _ = absurd (other refl)
field_text-other Address w x y _ _ _ _ _ _ _ _ _ _ other _ _ _ _ _ _ _ _ = absurd (other refl)
field_text-other Server w x y _ _ _ _ _ _ _ _ _ _ _ other _ _ _ _ _ _ _ = absurd (other refl)
field_text-other Mac w x y _ _ _ _ _ _ _ _ _ _ _ _ other _ _ _ _ _ _ = absurd (other refl)
field_text-other ShortPci w x y _ _ _ _ _ _ _ _ _ _ _ _ _ other _ _ _ _ _ = absurd (other refl)
field_text-other Pci w x y _ _ _ _ _ _ _ _ _ _ _ _ _ _ other _ _ _ _ = absurd (other refl)
field_text-other NotIndicated w x y _ _ _ _ _ _ _ _ _ _ _ _ _ _ _ other _ _ _ = absurd (other refl)
field_text-other NidType w x y _ _ _ _ _ _ _ _ _ _ _ _ _ _ _ _ other _ _ = absurd (other refl)
field_text-other Nid w x y _ _ _ _ _ _ _ _ _ _ _ _ _ _ _ _ _ other _ = absurd (other refl)
field_text-other NumberIf w x y _ _ _ _ _ _ _ _ _ _ _ _ _ _ _ _ _ _ other = absurd (other refl)
field_text-other f w x y _ _ _ _ _ _ _ _ _ _ _ _ _ _ _ _ _ _ _ = refl
