-- The digits before a number's last one, by a function that calls itself. Assumes nothing.
use Rattle.std.proofs.Common.{rules, arith, ◌≡◌, refl, [], ◌∷◌, ◌++◌, append_assoc, append-nil, length-append, ℕ, zero, suc, ◌+◌, ◌-◌, ◌/◌, ◌%◌}
use borrow.Author.Tests.{ne_eqb}
use native.Mathlib.Nat.{suc-ne-zero}
use native.Mathlib.Numerals.{sub-one}
use Rattle.text.specs.Numerals.{digits_of}
use Rattle.text.proofs.decimals.+put_digits.Goals as goal
use Rattle.text.proofs.decimals.+put_digits.Goals.{then-most-eq0-via-then-most-eq0, then-most-eq0-via-else-most-eq0+then-n-eq0}

-- no digits where none may come, none of zero, and else one at the end
none_left : (k n : ℕ) → k ≡ 0 → digits_of k n ≡ []
unfolding digits_of
none_left zero n h = refl
none_left (suc k) n h = absurd (suc-ne-zero k h)

none-of-zero : (k n : ℕ) → n ≡ 0 → digits_of k n ≡ []
unfolding digits_of
none-of-zero zero n h = refl
none-of-zero (suc k) n h = rw h refl

more : (k n : ℕ) → (k ≡ 0 → ⊥) → (n ≡ 0 → ⊥) → digits_of k n ≡ digits_of (k - 1) (n / 10) ++ ((48 + n % 10) ∷ [])
unfolding digits_of
more zero n h z = absurd (h refl)
more (suc k) n h z = rw (ne_eqb n 0 z, sub-one (suc k)) refl

pub returns-then-most-eq0 : goal.returns-then-most-eq0
returns-then-most-eq0 t c =
    let a = c.args in (
      omega arith,
      elim c.then-most-eq0.branch [
        | then-most-eq0-via-then-most-eq0 w ↦ cc (none_left a.most a.n w.if-most-eq0.true, append-nil a.text.now)
        | then-most-eq0-via-else-most-eq0+then-n-eq0 w ↦ cc (none-of-zero a.most a.n w.if-n-eq0.true, append-nil a.text.now)
      ],
    )

pub returns : goal.returns
returns t c =
    let a = c.args in
    let digit = (48 + a.n % 10) ∷ [] in (
      rw (c.push.ensures, length-append c.put_digits.new.text digit) (omega (arith, c.put_digits.ensures.0, c.if-most-eq0.false)),
      rw (c.push.ensures, c.put_digits.ensures.1) (cc (more a.most a.n c.if-most-eq0.false c.if-n-eq0.false, append_assoc a.text.now (digits_of (a.most - 1) (a.n / 10)) digit)),
    )
