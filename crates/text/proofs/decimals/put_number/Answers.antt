use Rattle.std.proofs.Common.{arith, [], ◌∷◌, ◌+◌, ◌/◌, ◌%◌, append_assoc, length-append}
use Rattle.text.specs.Numerals.{digits_of, numeral}
use Rattle.text.proofs.decimals.put_number.Goals as goal

pub returns : goal.returns
unfolding numeral
returns c =
    let a = c.args in
    let digit = (48 + a.n % 10) ∷ [] in (
      rw (c.push.ensures, length-append c.put_digits.new.text digit) (omega (arith, c.put_digits.ensures.0)),
      rw (c.push.ensures, c.put_digits.ensures.1) (append_assoc a.text.now (digits_of 19 (a.n / 10)) digit),
    )
