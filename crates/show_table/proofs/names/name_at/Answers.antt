use Rattle.std.proofs.Common.{◌∙◌, ◌-◌, ◌≤◌, arith, length, take, drop}
use Rattle.show_table.proofs.Laws.{named}
use Rattle.show_table.proofs.names.name_at.Goals as goal

pub of-requires : goal.of-requires
of-requires c =
    let from = c.start_of-from in
    let to = c.end_of-to in
    let e = named c.args.names.now c.args.n from.result to.result from.ensures.1 to.ensures.2 in
    let short : length (take (to.result - from.result) (drop from.result c.args.names.now)) ≤ 40 = rw e c.requires in
    omega (arith, short)

pub returns : goal.returns
returns c =
    let from = c.start_of-from in
    let to = c.end_of-to in
    c.of.ensures ∙ named c.args.names.now c.args.n from.result to.result from.ensures.1 to.ensures.2
