-- Internet addresses of 16 bytes, in ASCII: an IPv4-mapped one as a dotted quad, any other as the C library's inet_ntop has it, since other tools print so.
-- That is RFC 5952, but for addresses that begin with just six zero groups. Assumes nothing.
use Rattle.std.specs.Prelude.{Bool, cond, ◌&&◌, List, [], ◌∷◌, ◌++◌, ℕ, ◌+◌, ◌*◌, max, ◌≡◌, refl, eqb, ltb, leb, get_or, take, drop, replicate}
use Rattle.text.specs.Ascii.{ascii}
use Rattle.text.specs.Numerals.{numeral, digits_of}
use Rattle.text_hex.specs.Hexadecimal.{hex_digit, hex_of, unpadded_of}

-- two bytes are a group, the high one first
unfoldable pub groups : List ℕ → List ℕ
groups [] = []
groups (x ∷ []) = []
groups (x ∷ (y ∷ bs)) = (x * 256 + y) ∷ groups bs

-- groups without zeros in front: each behind a colon, and with a colon between
unfoldable pub behind_colons : List ℕ → List ℕ
behind_colons [] = []
behind_colons (g ∷ gs) = ascii ":" ++ unpadded_of g ++ behind_colons gs

unfoldable pub colons : List ℕ → List ℕ
colons [] = []
colons (g ∷ gs) = unpadded_of g ++ behind_colons gs

-- how many zero groups come first, how many the longest run has, and where the first run of n or more starts
unfoldable pub zeros_first : List ℕ → ℕ
zeros_first [] = 0
zeros_first (g ∷ gs) = cond (eqb g 0) (zeros_first gs + 1) 0

unfoldable pub longest_run : List ℕ → ℕ
longest_run [] = 0
longest_run (g ∷ gs) = max (zeros_first (g ∷ gs)) (longest_run gs)

unfoldable pub start_of : ℕ → List ℕ → ℕ
start_of n [] = 0
start_of n (g ∷ gs) = cond (leb n (zeros_first (g ∷ gs))) 0 (start_of n gs + 1)

-- n groups from `at` on are left out, for two colons
unfoldable pub without : ℕ → ℕ → List ℕ → List ℕ
without at n gs = colons (take at gs) ++ ascii "::" ++ colons (drop (at + n) gs)

-- the longest run of two or more zero groups, the first of equals, is left out
unfoldable pub six_of : List ℕ → List ℕ
six_of gs = cond (ltb (longest_run gs) 2) (colons gs) (without (start_of (longest_run gs) gs) (longest_run gs) gs)

-- ten zero bytes and two of FFh
unfoldable pub mapped : List ℕ → Bool
mapped gs = eqb (zeros_first gs) 5 && eqb (get_or gs 5 0) 65535

unfoldable pub quad_of : List ℕ → List ℕ
quad_of b = numeral (get_or b 12 0) ++ ascii "." ++ numeral (get_or b 13 0) ++ ascii "." ++ numeral (get_or b 14 0) ++ ascii "." ++ numeral (get_or b 15 0)

-- behind six zero groups, and no seventh, inet_ntop takes the last four bytes for IPv4
unfoldable pub address_of : List ℕ → List ℕ
address_of b = cond (mapped (groups b)) (quad_of b) (cond (eqb (zeros_first (groups b)) 6) (ascii "::" ++ quad_of b) (six_of (groups b)))

-- none, one at the end, one at the start, the first of two equal runs, and one zero group alone
pub unspecified : address_of (replicate 16 0) ≡ ascii "::"
unfolding address_of mapped groups six_of without colons behind_colons longest_run start_of zeros_first
unspecified = refl

pub loopback : address_of (replicate 15 0 ++ (1 ∷ [])) ≡ ascii "::1"
unfolding address_of mapped groups six_of without colons behind_colons unpadded_of longest_run start_of zeros_first hex_of hex_digit
loopback = refl

pub network : address_of (0xfe ∷ (0x80 ∷ replicate 14 0)) ≡ ascii "fe80::"
unfolding address_of mapped groups six_of without colons behind_colons unpadded_of longest_run start_of zeros_first hex_of hex_digit
network = refl

pub first-of-equals : six_of (0x2001 ∷ 0xdb8 ∷ 0 ∷ 0 ∷ 1 ∷ 0 ∷ 0 ∷ 1 ∷ []) ≡ ascii "2001:db8::1:0:0:1"
unfolding six_of without colons behind_colons unpadded_of longest_run start_of zeros_first hex_of hex_digit
first-of-equals = refl

pub one-alone : six_of (0x2001 ∷ 0xdb8 ∷ 0 ∷ 1 ∷ 1 ∷ 1 ∷ 1 ∷ 1 ∷ []) ≡ ascii "2001:db8:0:1:1:1:1:1"
unfolding six_of without colons behind_colons unpadded_of longest_run start_of zeros_first hex_of hex_digit
one-alone = refl

pub mapped-quad : address_of (replicate 10 0 ++ (255 ∷ 255 ∷ 192 ∷ 168 ∷ 101 ∷ 40 ∷ [])) ≡ ascii "192.168.101.40"
unfolding address_of mapped groups zeros_first quad_of numeral digits_of
mapped-quad = refl

-- six zero groups in front, the last group zero or not; and six that are not in front
pub six-zero-groups : address_of (replicate 13 0 ++ (1 ∷ 0 ∷ 2 ∷ [])) ≡ ascii "::0.1.0.2"
unfolding address_of mapped groups zeros_first quad_of numeral digits_of
six-zero-groups = refl

pub last-group-zero : address_of (replicate 12 0 ++ (192 ∷ 168 ∷ 0 ∷ 0 ∷ [])) ≡ ascii "::192.168.0.0"
unfolding address_of mapped groups zeros_first quad_of numeral digits_of
last-group-zero = refl

pub five-zero-groups : address_of (replicate 11 0 ++ (1 ∷ 0 ∷ 1 ∷ 0 ∷ 2 ∷ [])) ≡ ascii "::1:1:2"
unfolding address_of mapped groups six_of without colons behind_colons unpadded_of longest_run start_of zeros_first hex_of hex_digit
five-zero-groups = refl

pub six-behind : address_of (0xfe ∷ (0x80 ∷ replicate 12 0 ++ (0 ∷ 1 ∷ []))) ≡ ascii "fe80::1"
unfolding address_of mapped groups six_of without colons behind_colons unpadded_of longest_run start_of zeros_first hex_of hex_digit
six-behind = refl
