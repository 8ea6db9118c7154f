-- Numbers in decimal, in ASCII. Assumes nothing.
use Rattle.std.specs.Prelude.{cond, List, [], ◌∷◌, ◌++◌, ℕ, zero, suc, ◌+◌, ◌-◌, ◌/◌, ◌%◌, ◌^◌, ◌≡◌, refl, eqb, ltb}
use Rattle.text.specs.Ascii.{ascii}

-- the decimal digits of n without zeros in front, none for 0: the last k where there are more
unfoldable pub digits_of : ℕ → ℕ → List ℕ
digits_of zero n = []
digits_of (suc k) n = cond (eqb n 0) [] (digits_of k (n / 10) ++ ((48 + n % 10) ∷ []))

-- a number below 2^64 in decimal: 20 digits hold it, and 0 has one
unfoldable pub numeral : ℕ → List ℕ
numeral n = digits_of 19 (n / 10) ++ ((48 + n % 10) ∷ [])

-- three numbers with a space between, and a line end
unfoldable pub numbers_line : ℕ → ℕ → ℕ → List ℕ
numbers_line a b c = numeral a ++ ascii " " ++ numeral b ++ ascii " " ++ numeral c ++ ascii "\n"

-- what four bytes are as a signed number: from 2^31 on it is 2^32 less; a number that four bytes do not hold stays
unfoldable pub signed_numeral : ℕ → List ℕ
signed_numeral n = cond (ltb n 2147483648) (numeral n) (cond (ltb n 4294967296) (ascii "-" ++ numeral (4294967296 - n)) (numeral n))

-- the least and the largest number of 64 bits
pub least : numeral 0 ≡ ascii "0"
unfolding numeral digits_of
least = refl

pub largest : numeral (2 ^ 64 - 1) ≡ ascii "18446744073709551615"
unfolding numeral digits_of
largest = refl

pub three : numbers_line 13 4 2 ≡ ascii "13 4 2\n"
unfolding numbers_line numeral digits_of
three = refl

-- the largest with no sign, the least, minus one, and the first that four bytes do not hold
pub most-positive : signed_numeral (2 ^ 31 - 1) ≡ ascii "2147483647"
unfolding signed_numeral numeral digits_of
most-positive = refl

pub most-negative : signed_numeral (2 ^ 31) ≡ ascii "-2147483648"
unfolding signed_numeral numeral digits_of
most-negative = refl

pub minus_one : signed_numeral (2 ^ 32 - 1) ≡ ascii "-1"
unfolding signed_numeral numeral digits_of
minus_one = refl

pub no_sign : signed_numeral (2 ^ 32) ≡ ascii "4294967296"
unfolding signed_numeral numeral digits_of
no_sign = refl
