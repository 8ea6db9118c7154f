use Rattle.std.proofs.Common.{arith, ◌≤◌, length, sym}
use lib.Seq.{get_or-take}
use Rattle.text_addresses.specs.Addresses.{groups}
use Rattle.text_addresses.proofs.Groups.{eight, group-step, group-end}
use Rattle.text_addresses.proofs.put_groups.Goals as goal

pub returns-then-from-to : goal.returns-then-from-to
returns-then-from-to c =
    let a = c.args in
    let gs = groups a.b.now in
    let few : a.to ≤ length gs = omega (arith, eight a.b.now c.requires.1) in (
      omega (arith, c.put_next_groups.ensures.0, c.put_unpadded.ensures.0),
      cc (
        c.put_next_groups.ensures.1,
        c.put_unpadded.ensures.1,
        c.group_at.ensures.0,
        group-step a.text.now gs a.from a.to few c.if-from-to.true,
        get_or-take a.to gs a.from 0 c.if-from-to.true,
      ),
    )

pub returns-else-from-to : goal.returns-else-from-to
returns-else-from-to c =
    let a = c.args in
    let gs = groups a.b.now in
    let few : a.to ≤ length gs = omega (arith, eight a.b.now c.requires.1) in
    (omega arith, sym (group-end a.text.now gs a.from a.to few c.if-from-to.false))
