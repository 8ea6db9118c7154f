-- Bytes: a table is a list of bytes, a number in it is little endian (Rules 2, docs/RULES.md), and a store replaces a part. Definitions only.
use Rattle.std.specs.Prelude.{Bool, true, false, not, ◌&&◌, List, [], ◌∷◌, ◌++◌, ℕ, zero, suc, ◌+◌, ◌-◌, ◌*◌, ◌/◌, ◌%◌, ◌^◌, length, take, drop, replicate, eqb}

abbrev pub pick {ℓ} : {X : Type ℓ} → Bool → X → X → X
pick true x y = x
pick false x y = y

-- n bytes from place a on
abbrev pub part : List ℕ → ℕ → ℕ → List ℕ
part t a n = take n (drop a t)

-- the number that bytes spell, the lowest first
abbrev pub val : List ℕ → ℕ
val [] = 0
val (b ∷ bs) = b + 256 * val bs

-- a number as n bytes, the lowest first
abbrev pub le : ℕ → ℕ → List ℕ
le zero x = []
le (suc n) x = x % 256 ∷ le n (x / 256)

-- the number of n bytes at place a
abbrev pub num : List ℕ → ℕ → ℕ → ℕ
num t a n = val (part t a n)

-- bits hi to lo of the number of n bytes at place a
abbrev pub bits : ℕ → ℕ → ℕ → ℕ → List ℕ → ℕ
bits a n hi lo t = num t a n / 2 ^ lo % 2 ^ (hi + 1 - lo)

abbrev pub odd : ℕ → Bool
odd n = eqb (n % 2) 1

abbrev pub every {ℓ} : {X : Type ℓ} → (X → Bool) → List X → Bool
every g [] = true
every g (x ∷ xs) = g x && every g xs

-- no number is there twice
abbrev pub once : List ℕ → Bool
once [] = true
once (x ∷ xs) = every (λ y. not (eqb x y)) xs && once xs

abbrev pub same : List ℕ → List ℕ → Bool
same [] [] = true
same [] (y ∷ ys) = false
same (x ∷ xs) [] = false
same (x ∷ xs) (y ∷ ys) = eqb x y && same xs ys

abbrev pub total : List ℕ → ℕ
total [] = 0
total (x ∷ xs) = x + total xs

-- the byte that makes the sum 0 modulo 256
abbrev pub checksum : List ℕ → ℕ
checksum t = (256 - total t % 256) % 256

-- t with bs from place a on
abbrev pub splice : List ℕ → ℕ → List ℕ → List ℕ
splice t a bs = take a t ++ (bs ++ drop (a + length bs) t)

-- `put` is stored from place `at` on
pub record Edit : Type 0 where
  pub at : ℕ
  pub put : List ℕ

abbrev pub edit : ℕ → List ℕ → Edit
edit p r = record { at = p; put = r }

abbrev pub apply : List ℕ → List Edit → List ℕ
apply x [] = x
apply x (e ∷ es) = apply (splice x e.at e.put) es

-- filled up with zeros to n bytes
abbrev pub padded : ℕ → List ℕ → List ℕ
padded n xs = xs ++ replicate (n - length xs) 0
