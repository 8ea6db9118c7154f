-- What is printed of a field: its text by the way of printing (show_table's Form), the weight of a bit, and the sixteen bytes of the field and of the other one
-- that the way looks at, each with zeros behind it. Assumes nothing.
use Rattle.std.specs.Prelude.{Bool, true, false, not, ◌&&◌, List, [], ◌∷◌, ℕ, ◌/◌, ◌%◌, ◌≡◌, refl, take, replicate, eqb, leb}
use Prim.Native.String.{String}
use Rattle.table.specs.Bytes.{pick, num}
use Rattle.text.specs.Ascii.{ascii}
use Rattle.text.specs.Numerals.{digits_of, numeral, signed_numeral}
use Rattle.text_hex.specs.Hexadecimal.{hex_digit, hex_of, hexes_of, uuid_of, mac_of, pci_of, short_pci_of}
use Rattle.text_addresses.specs.Addresses.{address_of}
use Rattle.show_table.specs.declared.forms.Form.{Form}
use Rattle.show_table.specs.declared.forms.Form.TheVariants.{Position, Number, Signed, Flag, IsTwo, Primary, Availability, Wanted, Chosen, Transport, Uuid, Hex}
use Rattle.show_table.specs.declared.forms.Form.TheVariants.{Address, Server, Mac, ShortPci, Pci, NotIndicated, NidType, Nid, NumberIf, OrNull, OrOut, IfThere, HfiCount}

-- the number of a field of up to four bytes
abbrev pub number_of : List ℕ → ℕ
number_of x = num x 0 4

-- bits from the weight w on, as many as m is a power of two
abbrev pub bits_of : ℕ → ℕ → ℕ → ℕ
bits_of w m n = pick (eqb w 0) 0 (n / w % m)

-- 0, 1, 2; accepted tables have no 3 in two bits
abbrev pub word : String → String → String → ℕ → List ℕ
word zeroth first second v = ascii (pick (eqb v 0) zeroth (pick (eqb v 1) first (pick (eqb v 2) second "reserved")))

unfoldable pub primary_of : ℕ → List ℕ
primary_of = word "not indicated" "unselected" "selected"

unfoldable pub availability_of : ℕ → List ℕ
availability_of = word "not indicated" "available" "unavailable"

unfoldable pub wanted_of : ℕ → List ℕ
wanted_of = word "not supported" "not required" "required"

unfoldable pub chosen_of : ℕ → List ℕ
chosen_of = word "nobody" "driver" "administrator"

unfoldable pub transport_of : ℕ → List ℕ
transport_of n = pick (eqb n 3) (ascii "tcp") (numeral n)

unfoldable pub nid_type_of : ℕ → List ℕ
nid_type_of n = pick (eqb n 1) (ascii "eui64") (pick (eqb n 2) (ascii "nguid") (pick (eqb n 3) (ascii "uuid") (numeral n)))

-- by its type: the first eight bytes, all sixteen, a UUID
unfoldable pub nid_of : ℕ → List ℕ → List ℕ
nid_of n x = pick (eqb n 1) (hexes_of (take 8 x)) (pick (eqb n 2) (hexes_of x) (pick (eqb n 3) (uuid_of x) []))

-- where the bit of another field is set
unfoldable pub server_of : ℕ → List ℕ → List ℕ → List ℕ
server_of w x y = pick (eqb (bits_of w 2 (number_of y)) 1) (address_of x) []

unfoldable pub number_if_of : ℕ → List ℕ → List ℕ → List ℕ
number_if_of w x y = numeral (pick (eqb (bits_of w 2 (number_of y)) 1) (number_of x) 0)

unfoldable pub is_two_of : ℕ → List ℕ → List ℕ
is_two_of w x = numeral (pick (eqb (bits_of w 4 (number_of x)) 2) 1 0)

-- any other way prints the number
unfoldable pub field_text : Form → ℕ → List ℕ → List ℕ → List ℕ
field_text Signed w x y = signed_numeral (number_of x)
field_text Flag w x y = numeral (bits_of w 2 (number_of x))
field_text IsTwo w x y = is_two_of w x
field_text Primary w x y = primary_of (bits_of w 4 (number_of x))
field_text Availability w x y = availability_of (bits_of w 4 (number_of x))
field_text Wanted w x y = wanted_of (bits_of w 4 (number_of x))
field_text Chosen w x y = chosen_of (bits_of w 4 (number_of x))
field_text Transport w x y = transport_of (number_of x)
field_text Uuid w x y = uuid_of x
field_text Hex w x y = hexes_of x
field_text Address w x y = address_of x
field_text Server w x y = server_of w x y
field_text Mac w x y = mac_of (take 6 x)
field_text ShortPci w x y = short_pci_of (number_of x)
field_text Pci w x y = pci_of (number_of x)
field_text NotIndicated w x y = ascii "not indicated"
field_text NidType w x y = nid_type_of (number_of x)
field_text Nid w x y = nid_of (number_of y) x
field_text NumberIf w x y = number_if_of w x y
field_text f w x y = numeral (number_of x)

-- ---- in JSON

-- numbers stand without quotation marks
unfoldable pub quoted : Form → Bool
quoted Position = false
quoted Number = false
quoted Signed = false
quoted Flag = false
quoted IsTwo = false
quoted NumberIf = false
quoted OrNull = false
quoted OrOut = false
quoted IfThere = false
quoted HfiCount = false
quoted f = true

-- the key is left out, by the field's number
unfoldable pub left_out : Form → ℕ → Bool
left_out OrOut n = eqb n 0
left_out NidType n = not (leb 1 n && leb n 3)
left_out f n = false

-- the value is null: of a number that is 0, or of a record that is not there
unfoldable pub is_null : Form → ℕ → Bool → Bool
is_null OrNull n there = eqb n 0
is_null IfThere n there = not there
is_null f n there = false

-- ---- computed

-- bit 2 of 6 is 1, and bit 3 is not
pub a-flag : field_text Flag 4 (6 ∷ replicate 15 0) [] ≡ ascii "1"
unfolding field_text numeral digits_of
a-flag = refl

pub no_flag : field_text Flag 8 (6 ∷ replicate 15 0) [] ≡ ascii "0"
unfolding field_text numeral digits_of
no_flag = refl

-- 2 in bits 8:7 of bytes 0 and 1
pub unavailable : field_text IsTwo 128 (0 ∷ 1 ∷ replicate 14 0) [] ≡ ascii "1"
unfolding field_text is_two_of numeral digits_of
unavailable = refl

pub unavailable-word : field_text Availability 128 (0 ∷ 1 ∷ replicate 14 0) [] ≡ ascii "unavailable"
unfolding field_text availability_of
unavailable-word = refl

-- by the types 3 and 1
pub a-uuid : field_text Nid 0 (0x46 ∷ replicate 15 1) (3 ∷ []) ≡ ascii "46010101-0101-0101-0101-010101010101"
unfolding field_text nid_of uuid_of hex_of hex_digit
a-uuid = refl

pub an-eui64 : field_text Nid 0 (0x46 ∷ replicate 15 1) (1 ∷ []) ≡ ascii "4601010101010101"
unfolding field_text nid_of hex_of hex_digit
an-eui64 = refl

-- bit 1 of the other field is clear
pub no-server : field_text Server 2 (replicate 16 1) (5 ∷ []) ≡ []
unfolding field_text server_of
no-server = refl

pub a-port : field_text NumberIf 1 (80 ∷ []) (1 ∷ []) ≡ ascii "80"
unfolding field_text number_if_of numeral digits_of
a-port = refl

pub minus_one : field_text Signed 0 (255 ∷ 255 ∷ 255 ∷ 255 ∷ []) [] ≡ ascii "-1"
unfolding field_text signed_numeral numeral digits_of
minus_one = refl

-- a flag is a number, a MAC address is not
pub number-plain : quoted Flag ≡ false
unfolding quoted
number-plain = refl

pub mac-quoted : quoted Mac ≡ true
unfolding quoted
mac-quoted = refl

pub a-null : is_null OrNull 0 true ≡ true
unfolding is_null
a-null = refl

pub no-type : left_out NidType 4 ≡ true
unfolding left_out
no-type = refl
