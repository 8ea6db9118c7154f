-- Numbers byte by byte, and sums of stretches. Assumes nothing.
use Rattle.std.proofs.Common.{◌≡◌, ℕ, ◌+◌, ◌-◌, ◌*◌, ◌%◌, ◌<◌, ◌≤◌, List, [], ◌∷◌, length, get_or, take, drop, ap, add-one, arith, drop_of_length-le, drop-cons, length-drop}
use lib.Seq.{take_all}
use Rattle.table.specs.Bytes.{num, total}
use Rattle.laws.specs.ByteLaws.{num-suc}
use Rattle.laws.specs.Fields.{two_bytes}

pub num4 : (t : List ℕ) (a : ℕ) → num t a 4 ≡ num t a 2 + 65536 * num t (a + 2) 2
num4 t a =
    let e : a + 1 + 1 ≡ a + 2 = omega arith in
    let f : num t (a + 1 + 1) 2 ≡ num t (a + 2) 2 = ap (λ (b : ℕ). num t b 2) e in
    omega (arith, num-suc t a 3, num-suc t (a + 1) 2, two_bytes t a, f)

pub sum_same : (t : List ℕ) (i j : ℕ) → i ≡ j → total (drop i t) ≡ total (drop j t)
sum_same t i j e = ap (λ (n : ℕ). total (drop n t)) e

pub sum_done : (t : List ℕ) (i : ℕ) → length t ≤ i → total (drop i t) ≡ 0
sum_done t i h = ap total (drop_of_length-le t h)

-- the part of a slice from a place on is all that stands behind it
pub sum_rest : (t : List ℕ) (i : ℕ) → total (take (length t - i) (drop i t)) ≡ total (drop i t)
sum_rest t i = ap total (take_all (length t - i) (drop i t) (omega (arith, length-drop i t)))

-- modulo 256, `s` is the sum of the bytes from place `from` up to place `to`
abbrev pub Summed : List ℕ → ℕ → ℕ → ℕ → Type 0
Summed t from to s = (s + total (drop to t)) % 256 ≡ total (drop from t) % 256

pub summed-none : (t : List ℕ) (from to : ℕ) → from ≡ to → Summed t from to 0
summed-none t from to e = omega (arith, sum_same t from to e)

pub summed-more : (t : List ℕ) (from i j s : ℕ) → i < length t → i + 1 ≡ j → Summed t from i s → Summed t from j ((s + get_or t i 0) % 256)
summed-more t from i j s h e g =
    let step : total (drop i t) ≡ get_or t i 0 + total (drop (i + 1) t) = rw (add-one, drop-cons t i 0) in
    omega (arith, g, step, sum_same t (i + 1) j e)

pub summed-to : (t : List ℕ) (from to to' s : ℕ) → to ≡ to' → Summed t from to s → Summed t from to' s
summed-to t from to to' s e g = omega (arith, g, sum_same t to to' e)

-- stretches side by side, each as its sum and the place where it ends
abbrev pub Stretches : List ℕ → ℕ → List (ℕ × ℕ) → ℕ → Type 0
Stretches t from [] to = from ≡ to
Stretches t from (x ∷ xs) to = Summed t from x.1 x.0 × Stretches t x.1 xs to

abbrev pub sum_all : List (ℕ × ℕ) → ℕ
sum_all [] = 0
sum_all (x ∷ xs) = x.0 + sum_all xs

-- the sums of stretches side by side are together the sum of them all
pub summed-all : (t : List ℕ) (from : ℕ) (xs : List (ℕ × ℕ)) (to : ℕ) → Stretches t from xs to → Summed t from to (sum_all xs)
summed-all t from [] to e = summed-none t from to e
summed-all t from (x ∷ xs) to e = omega (arith, e.0, summed-all t x.1 xs to e.1)
