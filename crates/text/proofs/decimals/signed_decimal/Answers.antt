use Rattle.text.specs.Numerals.{signed_numeral}
use Rattle.std.proofs.Common.{refl}
use borrow.Author.Tests.{lt-ltb, le-ltb}
use Rattle.text.proofs.decimals.signed_decimal.Goals as goal
use Rattle.text.proofs.decimals.signed_decimal.Goals.{then-n-lt2147483648-via-then-n-lt2147483648, then-n-lt2147483648-via-else-n-lt2147483648+then-n-ge4294967296}

pub returns-then-n-lt2147483648 : goal.returns-then-n-lt2147483648
unfolding signed_numeral
returns-then-n-lt2147483648 c =
    let n = c.args.n in
    elim c.then-n-lt2147483648.branch [
      | then-n-lt2147483648-via-then-n-lt2147483648 w ↦ rw (lt-ltb n 2147483648 w.if-n-lt2147483648.true) c.decimal.ensures.1
      | then-n-lt2147483648-via-else-n-lt2147483648+then-n-ge4294967296 w ↦
          rw (le-ltb n 2147483648 w.if-n-lt2147483648.false, le-ltb n 4294967296 w.if-n-ge4294967296.true) c.decimal.ensures.1
    ]

pub returns : goal.returns
unfolding signed_numeral
returns c =
    let n = c.args.n in
    rw (le-ltb n 2147483648 c.if-n-lt2147483648.false, lt-ltb n 4294967296 c.if-n-ge4294967296.false)
    (simp (c.put_number.ensures.1, c.push.ensures, c.new-text.ensures) refl)
