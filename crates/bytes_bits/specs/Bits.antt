-- A map of bits: bit n is bit n mod 8, the lowest first, of byte n / 8. Definitions only.
use Rattle.std.specs.Prelude.{Bool, List, ℕ, zero, suc, ◌+◌, ◌/◌, ◌%◌, ◌^◌, get_or, set, eqb}
use Rattle.table.specs.Bytes.{pick}

abbrev pub bit_at : List ℕ → ℕ → ℕ
bit_at m n = get_or m (n / 8) 0 / 2 ^ (n % 8) % 2

-- with bit n set
unfoldable pub with_bit : List ℕ → ℕ → List ℕ
with_bit m n = pick (eqb (bit_at m n) 0) (set m (n / 8) (get_or m (n / 8) 0 + 2 ^ (n % 8))) m

-- how many of the first n bits are set
abbrev pub bits_below : List ℕ → ℕ → ℕ
bits_below m zero = 0
bits_below m (suc n) = bits_below m n + bit_at m n

-- whether bit n is set
abbrev pub marked : List ℕ → ℕ → Bool
marked m n = eqb (bit_at m n) 1

-- with the n bits from a on set
abbrev pub with_bits : List ℕ → ℕ → ℕ → List ℕ
with_bits m a zero = m
with_bits m a (suc n) = with_bit (with_bits m a n) (a + n)
