use Rattle.std.proofs.Common.{arith, ◌≤◌, length, take}
use lib.Dec.{lit≤}
use lib.Seq.{get_or-take}
use Rattle.text.specs.Ascii.{ascii}
use Rattle.text.proofs.Laws.{longer-by}
use Rattle.text_addresses.specs.Addresses.{groups}
use Rattle.text_addresses.proofs.Groups.{eight, colon-step, colon-end}
use Rattle.text_addresses.proofs.put_next_groups.Goals as goal

pub loop-i-preserved : goal.loop-i-preserved
loop-i-preserved c =
    let a = c.args in
    let gs = groups a.b.now in
    let l = c.loop-i in
    let few : a.to ≤ length gs = omega (arith, eight a.b.now c.requires.1) in (
      omega (arith, c.put_unpadded.ensures.0, longer-by l.text (ascii ":") 1 c.push.ensures (lit≤ tt), l.invariant.0),
      cc (
        c.put_unpadded.ensures.1,
        c.push.ensures,
        c.group_at.ensures.0,
        l.invariant.1,
        colon-step l.text gs l.i a.to few c.loop-i-test.true,
        get_or-take a.to gs l.i 0 c.loop-i-test.true,
      ),
    )

pub returns : goal.returns
returns c =
    let a = c.args in
    let gs = groups a.b.now in
    let l = c.loop-i in
    let few : a.to ≤ length gs = omega (arith, eight a.b.now c.requires.1) in (
      omega (arith, l.invariant.0, l.auto.i-end c.requires.2, c.requires),
      cc (l.invariant.1, colon-end l.text gs l.i a.to few (omega (arith, c.loop-i-test.false))),
    )
