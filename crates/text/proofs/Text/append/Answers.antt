use Rattle.std.proofs.Common.{rules, length}
use Rattle.std.proofs.lemmas.Slice.{overwrites}
use Rattle.text.proofs.Laws.{zeros-on}
use Rattle.text.proofs.Text.append.Goals as goal

pub invariant_of-self : goal.invariant_of-self
invariant_of-self c =
    let zeros = zeros-on c.self.inside.len (length c.args.bytes.now) c.self.inside.bytes c.self.invariant.2 in
    search (rules, overwrites, zeros)
