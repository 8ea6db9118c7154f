-- The two-bit fields of a record by its flags as a number. Definitions only.
use Rattle.std.specs.Prelude.{Bool, true, not, ◌&&◌, ℕ, ◌/◌, ◌%◌, eqb}

-- the lowest two bits are not 3
abbrev pub pair_right : ℕ → Bool
pair_right n = not (eqb (n % 4) 3)

unfoldable pub security_pairs : ℕ → Bool
security_pairs flags = pair_right (flags / 2) && (pair_right (flags / 8) && (pair_right (flags / 32) && (pair_right (flags / 128) && true)))
