-- Numbers in hexadecimal, with lower-case digits, and what is written of them. Assumes nothing.
use Rattle.std.specs.Prelude.{cond, List, [], ◌∷◌, ◌++◌, ℕ, zero, suc, ◌+◌, ◌/◌, ◌%◌, ◌≡◌, refl, ltb, get_or, take, drop}
use Rattle.text.specs.Ascii.{ascii}

-- the digit of a number below 16: 0 to 9 from 48 on, a to f from 97 on
unfoldable pub hex_digit : ℕ → ℕ
hex_digit d = cond (ltb d 10) (48 + d) (87 + d)

-- the last k digits of n, with zeros in front
unfoldable pub hex_of : ℕ → ℕ → List ℕ
hex_of zero n = []
hex_of (suc k) n = hex_of k (n / 16) ++ (hex_digit (n % 16) ∷ [])

-- a number below 65536 without zeros in front
unfoldable pub unpadded_of : ℕ → List ℕ
unpadded_of n = cond (ltb n 16) (hex_of 1 n) (cond (ltb n 256) (hex_of 2 n) (cond (ltb n 4096) (hex_of 3 n) (hex_of 4 n)))

-- a row of bytes: what is written of each, one behind the other
abbrev pub row_of : (ℕ → List ℕ) → List ℕ → List ℕ
row_of f [] = []
row_of f (b ∷ bs) = f b ++ row_of f bs

-- two digits for each byte
abbrev pub hexes_of : List ℕ → List ℕ
hexes_of = row_of (hex_of 2)

-- sixteen bytes in order, with dashes between parts of 4, 2, 2, 2 and 6
unfoldable pub uuid_of : List ℕ → List ℕ
uuid_of b =
    hexes_of (take 4 b) ++ ascii "-" ++ hexes_of (take 2 (drop 4 b)) ++ ascii "-" ++ hexes_of (take 2 (drop 6 b))
    ++ ascii "-" ++ hexes_of (take 2 (drop 8 b)) ++ ascii "-" ++ hexes_of (take 6 (drop 10 b))

-- six bytes, the address of a network interface
unfoldable pub mac_of : List ℕ → List ℕ
mac_of b =
    hex_of 2 (get_or b 0 0) ++ ascii ":" ++ hex_of 2 (get_or b 1 0) ++ ascii ":" ++ hex_of 2 (get_or b 2 0)
    ++ ascii ":" ++ hex_of 2 (get_or b 3 0) ++ ascii ":" ++ hex_of 2 (get_or b 4 0) ++ ascii ":" ++ hex_of 2 (get_or b 5 0)

-- a PCI Express routing ID: segment in bits 31:16, bus in 15:8, device in 7:3, function in 2:0
unfoldable pub pci_of : ℕ → List ℕ
pci_of id =
    hex_of 4 (id / 65536 % 65536) ++ ascii ":" ++ hex_of 2 (id / 256 % 256) ++ ascii ":"
    ++ hex_of 2 (id / 8 % 32) ++ ascii "." ++ hex_of 1 (id % 8)

-- the same without zeros in front, and with 0 for every segment
unfoldable pub short_pci_of : ℕ → List ℕ
short_pci_of id = ascii "0:" ++ unpadded_of (id / 256 % 256) ++ ascii ":" ++ unpadded_of (id / 8 % 32) ++ ascii "." ++ unpadded_of (id % 8)

pub a_byte : hex_of 2 0xa7 ≡ ascii "a7"
unfolding hex_of hex_digit
a_byte = refl

pub a-mac : mac_of (0x52 ∷ 0x54 ∷ 0x00 ∷ 0xa1 ∷ 0xb2 ∷ 0x01 ∷ []) ≡ ascii "52:54:00:a1:b2:01"
unfolding mac_of hex_of hex_digit
a-mac = refl

pub a-function : pci_of 0x1_40fd ≡ ascii "0001:40:1f.5"
unfolding pci_of hex_of hex_digit
a-function = refl

pub a-short-function : short_pci_of 0x1e60_5c40 ≡ ascii "0:5c:8.0"
unfolding short_pci_of unpadded_of hex_of hex_digit
a-short-function = refl

pub a-uuid : uuid_of (0x46 ∷ 0xeb ∷ 0x3b ∷ 0xa1 ∷ 0x6f ∷ 0x3a ∷ 0x4b ∷ 0x29 ∷ 0x9a ∷ 0x0b ∷ 0x00 ∷ 0x01 ∷ 0x02 ∷ 0x03 ∷ 0x04 ∷ 0x05 ∷ [])
    ≡ ascii "46eb3ba1-6f3a-4b29-9a0b-000102030405"
unfolding uuid_of hex_of hex_digit
a-uuid = refl
