-- What stands in JSON and in lines for a way of printing is what the way's number gave, whatever the number. Assumes nothing.
use Rattle.std.proofs.Common.{◌≡◌, refl, sym, ap, ◌∙◌, Bool, false, List, ℕ, ◌<◌, ◌≤◌, arith, map, get_or, lit<}
use mathlib.Core.Logic.{inl, inr}
use lib.Dec.{eqb}
use lib.ListN.{get_or-map, get_or-eq_default}
use borrow.Author.Tests.{ne_eqb}
use Rattle.std.specs.List.{range_with_len}
use Rattle.std.proofs.lemmas.List.FromFn.{get_or-range_with_len}
use Rattle.std.proofs.lemmas.Bool.{cases_lt}
use Rattle.show_table.specs.declared.forms.Form.{Form}
use Rattle.show_table.specs.declared.forms.Form.TheVariants.{Nothing, Single, Listed, Unused, Position, Number, Signed, Flag, IsTwo}
use Rattle.show_table.specs.declared.forms.Form.TheVariants.{Primary, Availability, Wanted, Chosen, Transport, Uuid, Hex, Address, Server}
use Rattle.show_table.specs.declared.forms.Form.TheVariants.{Mac, ShortPci, Pci, NotIndicated, NidType, Nid, NumberIf, Name, OrNull}
use Rattle.show_table.specs.declared.forms.Form.TheVariants.{OrOut, IfThere, Text, BytesText, Reached, Service, Bytes, Hfis, HfiCount, Positions}
use Rattle.show_table.specs.Numbered.{form_of, forms}
use Rattle.show_values.specs.Values.{field_text, is_null, left_out, quoted}
use Rattle.show_values.specs.Numbered.{field_text_by, is_null_by, left_out_by, quoted_by}

abbrev number_at : Form → ℕ
number_at Nothing = 0
number_at Single = 1
number_at Listed = 2
number_at Unused = 3
number_at Position = 4
number_at Number = 5
number_at Signed = 6
number_at Flag = 7
number_at IsTwo = 8
number_at Primary = 9
number_at Availability = 10
number_at Wanted = 11
number_at Chosen = 12
number_at Transport = 13
number_at Uuid = 14
number_at Hex = 15
number_at Address = 16
number_at Server = 17
number_at Mac = 18
number_at ShortPci = 19
number_at Pci = 20
number_at NotIndicated = 21
number_at NidType = 22
number_at Nid = 23
number_at NumberIf = 24
number_at Name = 25
number_at OrNull = 26
number_at OrOut = 27
number_at IfThere = 28
number_at Text = 29
number_at BytesText = 30
number_at Reached = 31
number_at Service = 32
number_at Bytes = 33
number_at Hfis = 34
number_at HfiCount = 35
number_at Positions = 36

-- the number of a number's way is that number
known : (n : ℕ) → n < 37 → number_at (form_of n) ≡ n
unfolding form_of
known n h =
    let e : map number_at forms ≡ range_with_len 0 37 = refl in
    sym (get_or-map number_at forms n Nothing) ∙ ap (λ (l : List ℕ). get_or l n 0) e ∙ get_or-range_with_len 0 37 n 0 h ∙ omega arith

unknown : (n : ℕ) → 37 ≤ n → form_of n ≡ Nothing
unfolding form_of
unknown n h = get_or-eq_default forms Nothing h

-- what holds of each way by its number, and of numbers past the last as of nothing, holds of every number
agree : {X : Type 0} (of_form : Form → X) (of_number : ℕ → X)
    → ((f : Form) → of_form f ≡ of_number (number_at f)) → ((n : ℕ) → 37 ≤ n → of_number n ≡ of_form Nothing)
    → (n : ℕ) → of_form (form_of n) ≡ of_number n
agree of_form of_number each past n =
    elim (cases_lt n 37) [
      | inl l ↦ each (form_of n) ∙ ap of_number (known n l)
      | inr h ↦ ap of_form (unknown n h) ∙ sym (past n h)
    ]

-- a number past the last is none of them
other : (n : ℕ) → 37 ≤ n → (k : ℕ) → k < 37 → eqb n k ≡ false
other n h k l = ne_eqb n k (λ e. omega (arith, e, h, l))

-- ---- way by way

quoted-each : (f : Form) → quoted f ≡ quoted_by (number_at f)
unfolding quoted
quoted-each Nothing = refl
quoted-each f = refl

left_out-each : (m : ℕ) (f : Form) → left_out f m ≡ left_out_by (number_at f) m
unfolding left_out
left_out-each m Nothing = refl
left_out-each m f = refl

is_null-each : (m : ℕ) (there : Bool) (f : Form) → is_null f m there ≡ is_null_by (number_at f) m there
unfolding is_null
is_null-each m there Nothing = refl
is_null-each m there f = refl

field_text-each : (w : ℕ) (x y : List ℕ) (f : Form) → field_text f w x y ≡ field_text_by (number_at f) w x y
unfolding field_text
field_text-each w x y Nothing = refl
field_text-each w x y f = refl

-- ---- past the last

quoted-past : (n : ℕ) → 37 ≤ n → quoted_by n ≡ quoted Nothing
unfolding quoted
quoted-past n h =
    let o : (k : ℕ) → k < 37 → eqb n k ≡ false = other n h in
    rw (o 4 (lit< tt), o 5 (lit< tt), o 6 (lit< tt), o 7 (lit< tt), o 8 (lit< tt), o 24 (lit< tt), o 26 (lit< tt), o 27 (lit< tt), o 28 (lit< tt), o 35 (lit< tt)) refl

left_out-past : (m n : ℕ) → 37 ≤ n → left_out_by n m ≡ left_out Nothing m
unfolding left_out
left_out-past m n h =
    let o : (k : ℕ) → k < 37 → eqb n k ≡ false = other n h in
    rw (o 27 (lit< tt), o 22 (lit< tt)) refl

is_null-past : (m : ℕ) (there : Bool) (n : ℕ) → 37 ≤ n → is_null_by n m there ≡ is_null Nothing m there
unfolding is_null
is_null-past m there n h =
    let o : (k : ℕ) → k < 37 → eqb n k ≡ false = other n h in
    rw (o 26 (lit< tt), o 28 (lit< tt)) refl

field_text-past : (w : ℕ) (x y : List ℕ) (n : ℕ) → 37 ≤ n → field_text_by n w x y ≡ field_text Nothing w x y
unfolding field_text
field_text-past w x y n h =
    let o : (k : ℕ) → k < 37 → eqb n k ≡ false = other n h in
    rw (
      o 6 (lit< tt),
      o 7 (lit< tt),
      o 8 (lit< tt),
      o 9 (lit< tt),
      o 10 (lit< tt),
      o 11 (lit< tt),
      o 12 (lit< tt),
      o 13 (lit< tt),
      o 14 (lit< tt),
      o 15 (lit< tt),
      o 16 (lit< tt),
      o 17 (lit< tt),
      o 18 (lit< tt),
      o 19 (lit< tt),
      o 20 (lit< tt),
      o 21 (lit< tt),
      o 22 (lit< tt),
      o 23 (lit< tt),
      o 24 (lit< tt),
    ) refl

-- ---- every number

pub quoted-by : (n : ℕ) → quoted (form_of n) ≡ quoted_by n
quoted-by = agree quoted quoted_by quoted-each quoted-past

pub left_out-by : (n m : ℕ) → left_out (form_of n) m ≡ left_out_by n m
left_out-by n m = agree (λ (f : Form). left_out f m) (λ (k : ℕ). left_out_by k m) (left_out-each m) (left_out-past m) n

pub is_null-by : (n m : ℕ) (there : Bool) → is_null (form_of n) m there ≡ is_null_by n m there
is_null-by n m there =
    agree (λ (f : Form). is_null f m there) (λ (k : ℕ). is_null_by k m there) (is_null-each m there) (is_null-past m there) n

pub field_text-by : (n w : ℕ) (x y : List ℕ) → field_text (form_of n) w x y ≡ field_text_by n w x y
field_text-by n w x y =
    agree (λ (f : Form). field_text f w x y) (λ (k : ℕ). field_text_by k w x y) (field_text-each w x y) (field_text-past w x y) n
