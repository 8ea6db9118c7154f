use Rattle.std.proofs.Common.{arith, refl, ◌≡◌, ◌+◌, length, length-append, append_assoc}
use Rattle.table.specs.Meaning.{limit}
use Rattle.text_answers.proofs.put_limit.Goals as goal

pub returns : goal.returns
unfolding limit
returns c =
    let a = c.args in
    let front : length c.append.new.self ≡ length a.text.now + length a.before.now = rw c.append.ensures (length-append a.text.now a.before.now) in (
      rw (c.append-2.ensures, length-append c.put_number.new.text a.behind.now) (omega (arith, front, c.put_number.ensures.0)),
      simp (c.append-2.ensures, c.put_number.ensures.1, c.append.ensures, append_assoc) refl,
    )
