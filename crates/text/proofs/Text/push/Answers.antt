use Rattle.std.proofs.Common.{rules, arith, ap, length}
use Rattle.std.proofs.lemmas.List.{drop-set-lt}
use Rattle.text.specs.Room.{length-front}
use Rattle.text.proofs.Laws.{zeros-on}
use Rattle.text.proofs.Text.push.Goals as goal

pub invariant_of-self : goal.invariant_of-self
invariant_of-self c =
    let n = c.self.inside.len in
    let xs = c.self.inside.bytes in
    let holds = c.self.invariant in
    let zeros = zeros-on n 1 xs holds.2 in (
      omega (arith, length-front n xs holds.0 holds.1, ap length c.self.view_is),
      search rules,
      search (rules, drop-set-lt, zeros),
    )
