-- A bit as a mark, and one turn of the slide. Assumes nothing.
use mathlib.Core.Path.{◌≡◌, refl, sym, ap, ◌∙◌}
use mathlib.Core.Bool.{Bool, true, false, not, ◌&&◌}
use mathlib.Core.List.{List}
use Prim.Native.Nat.{ℕ, zero, suc, ◌+◌, ◌<◌}
use native.Mathlib.Numerals.{add-one}
use native.Mathlib.Omega.{arith}
use lib.ListN.{length, get_or, set}
use lib.Dec.{eqb}
use Rattle.table.specs.Bytes.{pick}
use Rattle.table.specs.Closing.{moved_of, one, ones}
use Rattle.bytes_bits.specs.Bits.{bit_at, marked}
use Rattle.closing_laws.specs.SlideLaws.{slid_to, slid-pass, slid-read, slid-store}

pub bit-one : (m : List ℕ) (n : ℕ) → bit_at m n ≡ one (marked m n)
bit-one m n = go (bit_at m n) (omega arith)
  where
    go : (x : ℕ) → x < 2 → x ≡ one (eqb x 1)
    go zero h = refl
    go (suc zero) h = refl
    go (suc (suc x)) h = absurd (omega arith)

-- one byte further
pub ones-next : (f : ℕ → Bool) (n : ℕ) → ones f (n + 1) ≡ ones f n + one (f n)
ones-next f n = ap (ones f) (add-one n)

pub moved-next : (f : ℕ → Bool) (n : ℕ) → moved_of f (n + 1) ≡ moved_of f n + one (f n && not (eqb (ones f n) n))
moved-next f n = ap (moved_of f) (add-one n)

pub slid-turn : (f : ℕ → Bool) (xs : List ℕ) (n : ℕ) → n < length xs
    → pick (f n) (set (slid_to f n xs) (ones f n) (get_or (slid_to f n xs) n 0)) (slid_to f n xs) ≡ slid_to f (n + 1) xs
slid-turn f xs n h = go (f n) refl ∙ ap (λ (k : ℕ). slid_to f k xs) (sym (add-one n))
  where
    go : (c : Bool) → f n ≡ c → pick c (set (slid_to f n xs) (ones f n) (get_or (slid_to f n xs) n 0)) (slid_to f n xs) ≡ slid_to f (suc n) xs
    go true e = ap (λ (x : ℕ). set (slid_to f n xs) (ones f n) x) (slid-read f xs n h) ∙ sym (slid-store f xs n h e)
    go false e = sym (slid-pass f xs n h e)
