-- What `Values` says of the ways of printing, said of the numbers that stand for them (show_table's `form_of`). That the two agree on every number, also on one
-- that stands for no way, is `NumberLaws`. Definitions only.
use Rattle.std.specs.Prelude.{Bool, false, not, ◌&&◌, ◌||◌, List, [], ◌∷◌, ℕ, take, eqb, leb}
use Rattle.table.specs.Bytes.{pick}
use Rattle.text.specs.Ascii.{ascii}
use Rattle.text.specs.Numerals.{numeral, signed_numeral}
use Rattle.text_hex.specs.Hexadecimal.{hexes_of, uuid_of, mac_of, pci_of, short_pci_of}
use Rattle.text_addresses.specs.Addresses.{address_of}
use Rattle.show_values.specs.Values.{number_of, bits_of, primary_of, availability_of, wanted_of, chosen_of, transport_of, nid_type_of, nid_of, server_of, number_if_of, is_two_of}

-- any other number prints the field's number
abbrev pub field_text_by : ℕ → ℕ → List ℕ → List ℕ → List ℕ
field_text_by n w x y =
    pick (eqb n 6) (signed_numeral (number_of x))
    (pick (eqb n 7) (numeral (bits_of w 2 (number_of x)))
    (pick (eqb n 8) (is_two_of w x)
    (pick (eqb n 9) (primary_of (bits_of w 4 (number_of x)))
    (pick (eqb n 10) (availability_of (bits_of w 4 (number_of x)))
    (pick (eqb n 11) (wanted_of (bits_of w 4 (number_of x)))
    (pick (eqb n 12) (chosen_of (bits_of w 4 (number_of x)))
    (pick (eqb n 13) (transport_of (number_of x))
    (pick (eqb n 14) (uuid_of x)
    (pick (eqb n 15) (hexes_of x)
    (pick (eqb n 16) (address_of x)
    (pick (eqb n 17) (server_of w x y)
    (pick (eqb n 18) (mac_of (take 6 x))
    (pick (eqb n 19) (short_pci_of (number_of x))
    (pick (eqb n 20) (pci_of (number_of x))
    (pick (eqb n 21) (ascii "not indicated")
    (pick (eqb n 22) (nid_type_of (number_of x))
    (pick (eqb n 23) (nid_of (number_of y) x) (pick (eqb n 24) (number_if_of w x y) (numeral (number_of x))))))))))))))))))))

-- ---- in JSON

abbrev pub among : ℕ → List ℕ → Bool
among v [] = false
among v (x ∷ xs) = eqb v x || among v xs

-- numbers stand without quotation marks
abbrev pub is_number : List ℕ
is_number = 4 ∷ 5 ∷ 6 ∷ 7 ∷ 8 ∷ 24 ∷ 26 ∷ 27 ∷ 28 ∷ 35 ∷ []

abbrev pub quoted_by : ℕ → Bool
quoted_by n = not (among n is_number)

-- the key is left out, by the field's number m
abbrev pub left_out_by : ℕ → ℕ → Bool
left_out_by n m = pick (eqb n 27) (eqb m 0) (pick (eqb n 22) (not (leb 1 m && leb m 3)) false)

-- the value is null: of a number m that is 0, or of a record that is not there
abbrev pub is_null_by : ℕ → ℕ → Bool → Bool
is_null_by n m there = pick (eqb n 26) (eqb m 0) (pick (eqb n 28) (not there) false)
