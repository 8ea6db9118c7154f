-- The last k digits, by a function that calls itself. Assumes nothing.
use Rattle.std.proofs.Common.{arith, ◌≡◌, refl, [], ◌∷◌, ◌++◌, append_assoc, append-nil, length-append, ℕ, zero, suc, ◌-◌, ◌/◌, ◌%◌}
use native.Mathlib.Nat.{suc-ne-zero}
use native.Mathlib.Numerals.{sub-one}
use Rattle.text_hex.specs.Hexadecimal.{hex_digit, hex_of}
use Rattle.text_hex.proofs.+put_hex.Goals as goal

none_left : (k n : ℕ) → k ≡ 0 → hex_of k n ≡ []
unfolding hex_of
none_left zero n h = refl
none_left (suc k) n h = absurd (suc-ne-zero k h)

more : (k n : ℕ) → (k ≡ 0 → ⊥) → hex_of k n ≡ hex_of (k - 1) (n / 16) ++ (hex_digit (n % 16) ∷ [])
unfolding hex_of
more zero n h = absurd (h refl)
more (suc k) n h = rw (sub-one (suc k)) refl

pub returns-then-k-eq0 : goal.returns-then-k-eq0
returns-then-k-eq0 t c = let a = c.args in (omega arith, cc (none_left a.k a.n c.if-k-eq0.true, append-nil a.text.now))

pub returns : goal.returns
returns t c =
    let a = c.args in
    let digit = hex_digit (a.n % 16) ∷ [] in
    let pushed = rw c.hex_digit.ensures at c.push.ensures in (
      rw (pushed, length-append c.put_hex.new.text digit) (omega (arith, c.put_hex.ensures.0, c.if-k-eq0.false)),
      rw (pushed, c.put_hex.ensures.1) (cc (more a.k a.n c.if-k-eq0.false, append_assoc a.text.now (hex_of (a.k - 1) (a.n / 16)) digit)),
    )
