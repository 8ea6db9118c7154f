use Rattle.std.proofs.Common.{arith, refl, append_assoc}
use borrow.Author.Tests.{lt-ltb, le-ltb}
use lib.Seq.{take_all}
use Rattle.text_addresses.specs.Addresses.{groups, six_of, without}
use Rattle.text_addresses.proofs.Groups.{eight}
use Rattle.text_addresses.proofs.six.Goals as goal

pub returns-then-len-lt2 : goal.returns-then-len-lt2
unfolding six_of
returns-then-len-lt2 c =
    let a = c.args in
    let gs = groups a.b.now in
    rw (← c.requires.2, lt-ltb a.len 2 c.if-len-lt2.true)
    (simp (c.put_groups.ensures.1, c.new-text.ensures, take_all 8 gs (omega (arith, eight a.b.now c.requires.0))) refl)

pub returns : goal.returns
unfolding six_of without
returns c =
    let a = c.args in
    let gs = groups a.b.now in
    rw (← c.requires.3, ← c.requires.2, le-ltb a.len 2 c.if-len-lt2.false)
    (simp (c.put_groups-3.ensures.1, c.append.ensures, c.put_groups-2.ensures.1, c.new-text.ensures, take_all 8 gs (omega (arith, eight a.b.now c.requires.0)), append_assoc) refl)
